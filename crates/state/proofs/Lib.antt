pub mod Queues
pub mod Transfers
pub mod Bounds
pub mod Updatable
pub mod Step
pub mod Turn
