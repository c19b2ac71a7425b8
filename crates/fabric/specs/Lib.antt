pub mod PackedFile
pub mod Calls
pub mod Stages
