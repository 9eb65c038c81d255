pub mod Service
pub mod Standing
