pub mod Bounds
pub mod Sums
