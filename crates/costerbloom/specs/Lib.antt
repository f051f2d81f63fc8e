pub mod Numbers
pub mod Private
