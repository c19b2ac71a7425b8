pub mod Lasts
pub mod Bytes
pub mod ByKind
pub mod Persistent
pub mod Held
