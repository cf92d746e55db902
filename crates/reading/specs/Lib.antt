pub mod Column
pub mod Meaning
