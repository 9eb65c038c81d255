pub mod Events
pub mod Views
pub mod Rule
pub mod Plays
pub mod Parts
pub mod Laws
