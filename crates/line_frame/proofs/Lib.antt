pub mod LineLemmas
pub mod FramingLemmas
pub mod MachineLemmas
mod BufferLemmas
