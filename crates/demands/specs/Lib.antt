pub mod Demands
pub mod Ceiling
pub mod Many
pub mod Persistent
pub mod RunningSum
pub mod Reach
