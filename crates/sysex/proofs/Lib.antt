pub mod Judged
pub mod Numbered
pub mod OneResult
pub mod Lengths
