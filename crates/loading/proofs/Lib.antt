pub mod Commands
pub mod Turns
