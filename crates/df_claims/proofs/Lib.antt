pub mod Sums
pub mod Keeping
pub mod Drawing
pub mod Cutting
pub mod Crosses
