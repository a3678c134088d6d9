pub mod Opened
pub mod PlaceFacts
pub mod Unread
