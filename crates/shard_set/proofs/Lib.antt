mod ListLemmas
pub mod OpeningLemmas
pub mod StateLemmas
