pub mod File
pub mod Reading
pub mod Stages
pub mod View
