pub mod PointsLemmas
pub mod PendingLemmas
pub mod RiseLemmas
pub mod KeptLemmas
pub mod PutLemmas
pub mod ArrivalLemmas
