pub mod Turn
pub mod Meaning
