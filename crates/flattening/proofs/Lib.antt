pub mod Laws
pub mod Spreading
