pub mod Fields
pub mod Exits
