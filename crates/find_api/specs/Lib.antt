pub mod Nodes
pub mod Runs
pub mod Texts
pub mod Queries
