pub mod Sum
pub mod Total
pub mod Sign
pub mod Tables
