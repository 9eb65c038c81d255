pub mod Disks
pub mod Opening
pub mod OpeningState
