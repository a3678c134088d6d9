pub mod Rooms
pub mod Closing
pub mod Halls
pub mod LastChanges
