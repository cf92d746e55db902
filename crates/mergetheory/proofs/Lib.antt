pub mod Ranks
pub mod Embedded
pub mod Renumbered
pub mod Hung
pub mod Stands
pub mod Merged
pub mod Keeps
pub mod Worked
