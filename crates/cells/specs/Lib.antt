pub mod Cells
pub mod Counts
pub mod Good
pub mod Start
pub mod Choices
