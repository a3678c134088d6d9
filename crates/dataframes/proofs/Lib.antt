pub mod DesksFacts
pub mod BooksFacts
pub mod ClosingFacts
pub mod Crosses
pub mod CrossesTables
pub mod CrossesService
pub mod TableFacts
