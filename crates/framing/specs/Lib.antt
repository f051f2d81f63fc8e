pub mod Receiver
pub mod Events
pub mod Bytes
pub mod Standing
pub mod Places
pub mod Runs
