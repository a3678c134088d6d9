pub mod Lines
pub mod Numerals
pub mod Pairs
pub mod ReadBack
pub mod Typed
