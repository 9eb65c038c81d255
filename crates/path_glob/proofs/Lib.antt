mod CoverLemmas
mod FaultLemmas
mod FirstLemmas
mod BitLemmas
mod OrderLemmas
mod PartLemmas
mod PlaceLemmas
mod PositionLemmas
mod SearchLemmas
pub mod StretchLemmas
mod WordLemmas
mod StateLemmas
mod RunLemmas
mod TableLemmas
mod KnownLemmas
mod GroupLemmas
pub mod FrontLemmas
