pub mod Spread
pub mod InTurn
