pub mod HalfBytes
pub mod Moving
