pub mod Index
pub mod Found
pub mod Verdicts
pub mod Searched
