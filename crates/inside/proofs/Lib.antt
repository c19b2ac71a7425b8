pub mod Offers
pub mod Inside
