pub mod CutLemmas
pub mod LayingLemmas
pub mod ShownLemmas
pub mod WindowLemmas
