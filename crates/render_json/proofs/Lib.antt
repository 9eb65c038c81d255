mod BackwardLemmas
mod DateLemmas
mod JoinLemmas
