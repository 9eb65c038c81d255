pub mod DigitLemmas
pub mod FitLemmas
mod FrontLemmas
pub mod GrammarLemmas
pub mod MilliBytes
pub mod PrintLemmas
pub mod ReachLemmas
pub mod ReadLemmas
mod SixteenBytes
