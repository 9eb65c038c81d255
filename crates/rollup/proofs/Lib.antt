pub mod PickedValues
pub mod LawLemmas
