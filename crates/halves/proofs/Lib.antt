pub mod Turns
pub mod Clear
pub mod Laws
pub mod OneResult
