pub mod Names
pub mod Expanding
