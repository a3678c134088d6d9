pub mod Quotes
pub mod Pieces
pub mod Parts
