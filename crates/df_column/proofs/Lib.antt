pub mod Bools
pub mod Places
pub mod Parts
pub mod Pools
mod PoolLemmas
pub mod Masks
pub mod PickedCells
pub mod RowLemmas
mod RowTests
pub mod BlockRowLemmas
pub mod Removal
pub mod TableChanges
pub mod PartLemmas
pub mod BehindLemmas
pub mod TableLemmas
pub mod CellTests
pub mod BlocksMinMax
pub mod MinMaxLemmas
pub mod SplicedMinMax
pub mod BlockMinMax
mod OldRuns
pub mod SkippingLemmas
pub mod SpotLemmas
mod SharedLemmas
mod TagRuns
pub mod ListParts
pub mod BlockListLemmas
pub mod LeafEnds
mod TagBlocks
mod TagPlaces
mod RowTagLemmas
pub mod LeafTotalFacts
pub mod LeafTreeLemmas
pub mod Crossing
pub mod LeafMinMax
pub mod ReadLemmas
pub mod Bounds
pub mod FitLemmas
pub mod BlockLemmas
pub mod ChangeRuns
mod RunRows
mod SameRows
mod UnlikeTypes
mod ChangedParts
mod ChangedTrees
mod ChangedNodes
mod LeafOrder
mod ChangedLeaves
pub mod MergeLemmas
pub mod TextPlaces
mod KnownLemmas
pub mod SpliceLemmas
pub mod TextSplices
mod KeptMinMax
