pub mod Laws
pub mod Level
pub mod Ranks
pub mod Leaves
pub mod Spots
pub mod Finds
pub mod Puts
pub mod Partitions
