pub mod Histories
pub mod HistoryRule
pub mod VersionRule
pub mod Newest
pub mod Shown
pub mod Answered
pub mod Openings
