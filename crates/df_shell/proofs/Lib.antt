pub mod FindFacts
mod ViewTableFacts
pub mod DesksFacts
pub mod HallFacts
pub mod CheckFacts
pub mod NextNumberFacts
pub mod MadeFacts
pub mod ToldFacts
