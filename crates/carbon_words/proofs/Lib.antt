pub mod AppLemmas
pub mod HostLemmas
pub mod ListLemmas
pub mod ParseLemmas
