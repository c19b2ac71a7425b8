pub mod Step
pub mod Updatable
