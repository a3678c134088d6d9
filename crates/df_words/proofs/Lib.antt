mod OptionFacts
mod FlagFacts
