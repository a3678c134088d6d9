mod Members
pub mod Rising
pub mod FrameFacts
pub mod TagFacts
pub mod RowLookups
mod DeltaFacts
mod NumberSetFacts
pub mod Counting
pub mod FrameTableFacts
pub mod FrameChangeFacts
mod StoredRows
mod StoredAgain
mod RangeFacts
mod RangesApart
mod RangeSearch
mod PreparedFacts
