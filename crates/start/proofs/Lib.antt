pub mod Filled
pub mod Startable
