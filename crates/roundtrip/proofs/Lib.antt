pub mod Inverse
pub mod RoundTrip
