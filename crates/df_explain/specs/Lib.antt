pub mod Explanations
pub mod Places
pub mod PlanPlaces
pub mod ReadSteps
pub mod Trees
