pub mod DrainLemmas
pub mod FoundLemmas
pub mod HistoryLemmas
pub mod PartLemmas
pub mod SoundLemmas
