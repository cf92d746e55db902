pub mod Places
pub mod Stores
pub mod Decide
pub mod Counts
pub mod Said
pub mod Chosen
pub mod Recorded
