pub mod Point
pub mod Seen
pub mod LineFields
pub mod Stamp
pub mod LineDatum
pub mod LineLaws
