mod MoveLemmas
mod OpenLemmas
mod RowLemmas
mod FrontLemmas
mod RunLemmas
mod WriteLemmas
mod AllLemmas
mod StartLemmas
