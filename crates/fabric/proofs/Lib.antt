pub mod Unpacked
pub mod Packing
pub mod Writing
