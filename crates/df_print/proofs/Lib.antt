pub mod ColumnFacts
pub mod EscapeFacts
pub mod Known
pub mod LineFacts
pub mod SpaceFacts
pub mod TableFacts
pub mod TableLines
mod PlainFacts
mod ThreadFacts
