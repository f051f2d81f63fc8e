pub mod Forms
pub mod Lengths
pub mod Numbers
pub mod Judging
pub mod Formats
pub mod Private
