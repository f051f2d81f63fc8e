pub mod AnyKind
pub mod OneResult
