pub mod UnderLemmas
pub mod ValueLemmas
pub mod SlotLemmas
pub mod RangeLists
pub mod HeldLemmas
pub mod PickedLemmas
pub mod StaleLemmas
pub mod AlikeLemmas
