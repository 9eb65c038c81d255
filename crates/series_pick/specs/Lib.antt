pub mod Measures
pub mod Places
pub mod Nodes
pub mod Chosen
