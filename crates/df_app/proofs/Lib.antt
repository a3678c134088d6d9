pub mod Ran
pub mod ChunkSizes
pub mod RisingRows
pub mod SourceRows
pub mod LoadCauses
pub mod LoadedText
pub mod LoadedViews
pub mod LoadedOutput
