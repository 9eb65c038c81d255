pub mod TextLemmas
pub mod ReadingLemmas
pub mod NameLemmas
pub mod PlaceLemmas
mod IndexLemmas
pub mod ClassLemmas
pub mod RulesCross
