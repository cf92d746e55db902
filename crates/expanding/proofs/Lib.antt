pub mod Traceable
pub mod Tracing
pub mod Opening
pub mod Writing
pub mod Short
