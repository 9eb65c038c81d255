pub mod Padded
pub mod Layout
pub mod LayoutFile
pub mod Slot
pub mod Cell
pub mod Head
pub mod Patch
