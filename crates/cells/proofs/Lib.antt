pub mod Cells
pub mod Good
pub mod Start
pub mod Counts
pub mod Choices
