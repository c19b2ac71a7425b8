pub mod Persistent
pub mod Held
