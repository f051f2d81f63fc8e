pub mod AllKept
pub mod Known
