pub mod Copied
pub mod Empty
