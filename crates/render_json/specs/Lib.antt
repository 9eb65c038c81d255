pub mod Values
pub mod Json
pub mod Raw
pub mod Csv
