pub mod Locality
pub mod Touched
pub mod Open
pub mod Edits
pub mod Loaded
pub mod Unique
pub mod Spared
