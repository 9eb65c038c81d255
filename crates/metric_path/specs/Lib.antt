pub mod Path
pub mod Class
pub mod FileName
