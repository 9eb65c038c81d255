pub mod Fitting
pub mod TimeOrder
pub mod Intervals
pub mod Gathering
pub mod Emitting
