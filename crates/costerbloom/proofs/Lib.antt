pub mod Making
pub mod OneResult
