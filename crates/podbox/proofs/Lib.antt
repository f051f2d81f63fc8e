pub mod Frames
pub mod Orders
pub mod Taking
pub mod OwnChannel
pub mod OneResult
