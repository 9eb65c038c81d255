pub mod Value
pub mod Pickle
pub mod Reading
pub mod Double
