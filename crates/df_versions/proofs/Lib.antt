pub mod Histories
pub mod Prefixes
pub mod Adding
pub mod Moves
pub mod ShownVersions
pub mod Crosses
