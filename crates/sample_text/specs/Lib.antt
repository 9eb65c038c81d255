pub mod Sample
pub mod Sources
