pub mod Searching
pub mod OneResult
