pub mod Lawful
pub mod Seats
