pub mod LinkLemmas
pub mod PointLemmas
mod ServiceLemmas
mod SessionLemmas
pub mod StoreLemmas
mod SplitLemmas
mod CountLemmas
mod PutLemmas
mod EmitLemmas
mod BringLemmas
mod BatchLemmas
mod WaitingLemmas
mod EndLemmas
mod LawLemmas
