pub mod Players
pub mod Parts
pub mod Spares
pub mod Slots
pub mod OneResult
