pub mod Runs
pub mod AreRuns
pub mod Shelf
pub mod Behind
