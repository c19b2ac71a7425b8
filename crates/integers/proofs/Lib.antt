pub mod Ring
pub mod Sum
pub mod Total
pub mod Near
pub mod Lines
pub mod Tables
pub mod Sign
