mod CommandLemmas
pub mod ConfLemmas
mod DrainedLemmas
pub mod FrontLemmas
mod HeadlineLemmas
pub mod RunLemmas
mod SampleLemmas
mod ServingLemmas
mod TellLemmas
mod WordsLemmas
