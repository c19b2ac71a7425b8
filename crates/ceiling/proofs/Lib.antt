pub mod Holds
pub mod Answer
