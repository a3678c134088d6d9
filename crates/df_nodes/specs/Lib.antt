pub mod RowOperators
pub mod Prefixes
pub mod Outputs
pub mod Rolling
pub mod Sliding
pub mod Sums
