pub mod Files
pub mod Opening
pub mod Sources
pub mod Refused
pub mod Answers
pub mod Texts
