pub mod Steps
pub mod Accepted
