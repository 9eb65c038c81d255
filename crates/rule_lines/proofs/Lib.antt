mod PlaceLemmas
pub mod SplitLemmas
