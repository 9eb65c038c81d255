pub mod FieldLemmas
pub mod LawLemmas
pub mod LineLemmas
pub mod PathFieldLemmas
mod PlainLemmas
pub mod StampLemmas
