pub mod Signals
pub mod Channels
