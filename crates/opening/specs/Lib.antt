pub mod Ladder
pub mod Writes
pub mod Rows
