pub mod Lists
pub mod Into
pub mod Pass
pub mod Done
