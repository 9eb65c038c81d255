pub mod Patterns
pub mod PlainTexts
pub mod Substitution
