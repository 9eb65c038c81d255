pub mod Decimal
pub mod Halves
pub mod Milli
pub mod Moment
pub mod Print
pub mod Read
pub mod Whole
