mod AsciiLemmas
pub mod NodeLemmas
mod FindLemmas
pub mod OrderLemmas
mod QueryLemmas
