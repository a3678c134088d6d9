pub mod Orders
pub mod Lookups
pub mod Edits
mod TotalSums
mod PlaceLemmas
mod Greatest
mod Outcomes
pub mod Rises
pub mod Crossing
