mod CutLemmas
pub mod RequestLemmas
pub mod AnswerLemmas
mod LengthLemmas
