pub mod Terms
pub mod Flows
pub mod Verdict
pub mod Steps
