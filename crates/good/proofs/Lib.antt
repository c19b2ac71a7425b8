pub mod Cells
pub mod Sets
pub mod First
