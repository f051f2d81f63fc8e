pub mod Memory
pub mod Spares
pub mod Held
pub mod Lending
