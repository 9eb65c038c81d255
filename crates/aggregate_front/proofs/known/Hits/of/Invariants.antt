use Rattle.std.proofs.Common.{◌≡◌, ◌<◌, ◌++◌, All, length}
use Rattle.aggregate_front.specs.Fitting.{hits_of}
use Rattle.aggregate_front.proofs.KnownLemmas.{hits_at}
use Rattle.aggregate_front.proofs.known.Hits.of.Given as goal

abbrev pub invariant-loop-next : goal.invariant-loop-next
invariant-loop-next l = record {
  same : hits_of l.rules l.path ≡ l.items.items ++ hits_at l.rules l.path l.places;
  within : All (λ place. place < length l.rules) l.places;
}

abbrev pub decreases-loop-next : goal.decreases-loop-next
decreases-loop-next l = length l.places
