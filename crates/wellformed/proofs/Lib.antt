pub mod Fits
pub mod Reading
pub mod Climbing
pub mod Deciding
