pub mod Pick
pub mod Picking
pub mod Queue
pub mod Rank
