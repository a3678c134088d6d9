pub mod AreMadeFacts
mod AnswerFacts
mod AskedFacts
mod CommandFacts
mod WordList
mod DeclarationFacts
mod DescribedFacts
mod NumberFacts
mod LoadFacts
mod FramedFacts
mod PlaceFacts
mod PlainWords
mod WatchFacts
mod ReportFacts
mod FollowFacts
mod SectionFacts
