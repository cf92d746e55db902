pub mod Crossing
pub mod Parts
