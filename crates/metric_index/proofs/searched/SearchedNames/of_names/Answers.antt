use Rattle.std.proofs.Common.{ℕ, Bor, List, map}
use Rattle.metric_index.proofs.SearchedLemmas.{sifts}
use Rattle.metric_index.proofs.searched.SearchedNames.of_names.Goals as goal

pub invariant_of-result : goal.invariant_of-result
invariant_of-result c = sifts c.in_ok-verdicts.verdicts c.args.names.now (map (λ (path : Bor (List ℕ)). path.now) c.in_ok-fitting.fitting.items) c.requires.rising c.in_ok-fitting.ensures
