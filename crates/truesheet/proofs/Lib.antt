pub mod Fits
pub mod Exits
pub mod Machines
pub mod Nodes
pub mod Chains
