pub mod Fields
pub mod Decides
pub mod Chosen
pub mod Recorded
