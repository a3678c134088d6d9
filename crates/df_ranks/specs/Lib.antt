pub mod Ranked
pub mod Counts
pub mod Known
pub mod Rises
pub mod Reach
pub mod Staged
pub mod Nodes
