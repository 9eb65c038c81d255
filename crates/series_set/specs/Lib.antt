pub mod Series
pub mod Readings
pub mod Average
pub mod CommonGrid
pub mod OnGrid
pub mod Thinned
pub mod GridLaws
pub mod Sizes
