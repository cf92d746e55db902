pub mod Search
pub mod Expand
