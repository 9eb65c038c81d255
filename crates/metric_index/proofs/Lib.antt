pub mod FindLemmas
mod FrontLemmas
pub mod IndexLemmas
mod LiteralLemmas
mod PieceLemmas
mod WalkLemmas
mod VerdictLemmas
pub mod SearchedLemmas
