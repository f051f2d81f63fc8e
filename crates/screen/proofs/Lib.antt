pub mod Handed
pub mod OneResult
