pub mod Decimal
pub mod Lines
pub mod Text
pub mod Put
