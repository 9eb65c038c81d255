pub mod PatternLemmas
pub mod SubstitutionLemmas
pub mod Cross
mod PlainLemmas
mod WalkLemmas
