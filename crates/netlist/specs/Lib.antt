pub mod Netlist
pub mod Accepted
pub mod View
