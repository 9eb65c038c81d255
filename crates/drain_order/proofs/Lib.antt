pub mod MetricLemmas
pub mod PickLemmas
pub mod PickingLemmas
pub mod QueueLemmas
pub mod RankLemmas
pub mod SortLemmas
pub mod StayLemmas
