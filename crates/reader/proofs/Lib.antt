pub mod Tests
pub mod Facts
pub mod Accepted
pub mod Exists
pub mod Opened
