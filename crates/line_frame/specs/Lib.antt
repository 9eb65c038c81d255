pub mod Lines
pub mod Machine
pub mod Held
pub mod Calls
