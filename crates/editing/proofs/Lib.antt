pub mod Left
pub mod Rows
pub mod Done
