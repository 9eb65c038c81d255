pub mod Window
pub mod Shown
pub mod Cut
pub mod Fetched
