pub mod Entries
pub mod RowSums
pub mod Raises
pub mod RiseSteps
pub mod CountChanges
pub mod Outputs
pub mod WeightSums
pub mod KnownNumbers
pub mod MinRanks
pub mod ChangedValues
pub mod OutputSteps
pub mod TagLists
pub mod DenseRanks
pub mod CountsAfter
pub mod RankDeltas
pub mod RankTables
mod FitRanks
