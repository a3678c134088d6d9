pub mod ItemKinds
pub mod Found
pub mod RowWiseSound
pub mod ColumnsFit
pub mod JoinSound
pub mod WindowSound
pub mod Sound
pub mod AggregatesFit
