pub mod Passed
pub mod Reaches
pub mod Rounds
