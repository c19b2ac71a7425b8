pub mod Equations
pub mod Numbers
