pub mod Rules
pub mod Bounds
