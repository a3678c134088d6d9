pub mod Faults
pub mod Output
pub mod Loading
pub mod Ran
pub mod Texts
pub mod ChunkSizes
