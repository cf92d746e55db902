pub mod Stores
pub mod Reading
pub mod Exits
