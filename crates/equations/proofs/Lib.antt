pub mod Agree
pub mod Queues
