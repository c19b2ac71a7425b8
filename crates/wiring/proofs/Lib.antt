pub mod Ends
pub mod Ports
pub mod Sound
