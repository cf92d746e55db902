pub mod Ends
pub mod Streams
pub mod TrueWords
pub mod Demand3
pub mod Says
pub mod Every
