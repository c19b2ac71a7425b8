pub mod ByKind
pub mod FitsBelow
pub mod Masks
pub mod Sets
pub mod Row
pub mod Facts
