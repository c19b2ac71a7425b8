pub mod Graph
pub mod Zeros
pub mod Places
pub mod Values
