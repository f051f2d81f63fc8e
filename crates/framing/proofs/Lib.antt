pub mod Stands
pub mod Keeps
pub mod Rules
pub mod Cases
pub mod OneResult
pub mod Places
