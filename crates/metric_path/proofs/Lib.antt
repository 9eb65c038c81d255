pub mod PathLemmas
pub mod FileNameLemmas
mod CheckLemmas
