pub mod Result
pub mod Parts
