pub mod Counts
pub mod Moves
pub mod Balanced
pub mod Sums
pub mod Holds
