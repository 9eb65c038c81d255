pub mod Laid
pub mod PartWritten
