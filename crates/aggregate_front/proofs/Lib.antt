pub mod IntervalLemmas
pub mod TimeOrderLemmas
pub mod GatheredLemmas
pub mod DeedLemmas
pub mod HeldLemmas
pub mod KnownLemmas
mod PlaceLemmas
