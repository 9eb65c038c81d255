pub mod MeasureLemmas
pub mod OrderLemmas
pub mod NodeLemmas
