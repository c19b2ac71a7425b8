pub mod Terms
pub mod Weights
pub mod Steps
pub mod Exactly
pub mod Verdict
