use Rattle.std.proofs.Common.{ℕ, Bor, List, map, ap}
use Rattle.metric_index.proofs.SearchedLemmas.{sifts_none}
use Rattle.metric_index.proofs.searched.SearchedNames.none.Goals as goal

pub invariant_of-result : goal.invariant_of-result
invariant_of-result c = sifts_none c.none.result (map (λ (path : Bor (List ℕ)). path.now) c.new.result.items) (ap (map (λ (path : Bor (List ℕ)). path.now)) c.new.ensures.items)
