pub mod Points
pub mod Pending
pub mod Kept
