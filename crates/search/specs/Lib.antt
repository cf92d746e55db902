pub mod Search
pub mod Parts
pub mod Tables
