pub mod ChainLemmas
mod StandingLemmas
