pub mod Floats
pub mod Rounding
