use Rattle.std.proofs.Common.{◌≡◌, All, map, take}
use Rattle.shared_store.specs.Known.{lists_of}
use Rattle.shared_store.proofs.wanted.search_classes.Given as goal

abbrev pub invariant-loop-paths : goal.invariant-loop-paths
invariant-loop-paths l = record {
  have : All (λ s. s.glob ≡ l.need.glob) l.all.items;
  names : map (λ s. s.names) l.all.items ≡ lists_of (take l.paths-index l.names);
  same : l.search ≡ l.need.glob;
}
