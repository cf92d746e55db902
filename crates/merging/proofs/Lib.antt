pub mod Flags
pub mod Beside
pub mod Transitions
pub mod Rooted
pub mod Says
