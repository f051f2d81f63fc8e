pub mod Settings
pub mod Messages
pub mod Whole
pub mod Moves
pub mod Box
pub mod Private
