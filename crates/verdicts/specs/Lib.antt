pub mod Tests
pub mod Stages
