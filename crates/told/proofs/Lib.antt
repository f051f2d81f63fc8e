pub mod Words
pub mod OneResult
