pub mod OrderLemmas
pub mod RunLemmas
pub mod LawLemmas
pub mod BytesLemmas
pub mod CountLemmas
