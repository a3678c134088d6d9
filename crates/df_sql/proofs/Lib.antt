pub mod QuoteFacts
pub mod PartFacts
