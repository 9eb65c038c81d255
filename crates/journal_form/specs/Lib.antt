pub mod Form
pub mod Parts
pub mod Read
pub mod Room
