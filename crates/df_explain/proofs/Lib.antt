mod DocumentFacts
mod LineFacts
mod PlaceFacts
mod StepFacts
mod TreeFacts
