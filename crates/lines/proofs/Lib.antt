pub mod Digits
pub mod Written
pub mod Turns
pub mod Session
