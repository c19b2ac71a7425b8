pub mod Decimal
pub mod Listing
