pub mod Signals
pub mod Channels
pub mod Takes
pub mod Found
pub mod Moves
