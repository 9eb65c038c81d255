pub mod StartsAs
pub mod Calls
pub mod Fronts
