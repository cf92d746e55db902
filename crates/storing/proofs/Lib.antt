pub mod Laws
pub mod Pieces
