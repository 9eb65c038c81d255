pub mod Tree
pub mod Bytes
pub mod Target
pub mod Reading
