pub mod AppendFacts
pub mod TextFacts
pub mod StepFacts
pub mod PlanFacts
pub mod ReadExpressions
pub mod ReadPlans
pub mod SaidFacts
