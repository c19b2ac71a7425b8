pub mod Values
pub mod Picks
