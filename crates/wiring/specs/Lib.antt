pub mod Ends
pub mod Signals
pub mod Sound
pub mod Ports
pub mod Stages
pub mod Refused
