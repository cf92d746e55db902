pub mod Opening
pub mod Landing
pub mod Inheriting
pub mod Tabling
pub mod Searched
