pub mod Grouped
pub mod GroupRows
pub mod Totals
pub mod NotedSides
pub mod GroupIndex
pub mod Work
pub mod Projections
