pub mod Incoming
pub mod Batches
pub mod Headings
pub mod Grown
pub mod Loads
pub mod Faults
