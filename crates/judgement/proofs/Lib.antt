pub mod Weighings
pub mod Judged
pub mod Laid
