pub mod Laws
pub mod Says
pub mod States
pub mod Upward
pub mod Climbing
pub mod Inside
