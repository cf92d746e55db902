pub mod Blanks
pub mod Climb
