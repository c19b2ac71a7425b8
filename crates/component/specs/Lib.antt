pub mod Limits
pub mod Kind
pub mod Row
pub mod Facts
