pub mod Parts
pub mod Turns
pub mod Writing
pub mod Dumps
pub mod Understands
pub mod Numbered
pub mod OneResult
