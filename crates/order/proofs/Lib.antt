pub mod Graph
pub mod Zeros
pub mod Circle
pub mod Places
pub mod Values
pub mod ByOrder
pub mod Same
pub mod Exists
