pub mod Batch
pub mod Carried
pub mod Laid
pub mod Buckets
pub mod Rolled
pub mod Spans
