pub mod Reaches
pub mod Rounds
pub mod Known
