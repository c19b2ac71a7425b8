pub mod Sets
pub mod First
