use Rattle.std.proofs.Common.{ℕ, List, All, drop, sym, subst, take}
use Rattle.std.specs.List.Sorted.{IsStrictlySortedBy}
use Rattle.std.proofs.lemmas.List.{take_rest}
use Rattle.path_glob.specs.Laws.{BeginsWith}
use Rattle.path_glob.specs.Fronts.{IsRun}
use Rattle.path_glob.proofs.FrontLemmas.{order, rising_drop, run_from_parts}
use Rattle.path_glob.proofs.run.run_of.Goals as goal

pub count_run-requires-clause-rising : goal.count_run-requires-clause-rising
count_run-requires-clause-rising c =
    let names = c.args.names.now in
    let k = c.count_below.result in
    subst (IsStrictlySortedBy order) (sym (take_rest names k)) (rising_drop k names c.requires)

pub returns : goal.returns
returns c =
    let front = c.args.front.now in
    let names = c.args.names.now in
    let k = c.count_below.result in
    let m = c.count_run.result in
    let behind = subst (λ (l : List (List ℕ)). All (λ name. BeginsWith front name → ⊥) (drop m l)) (take_rest names k) c.count_run.ensures.behind in
    subst (λ (l : List (List ℕ)). IsRun front names (take m l)) (sym (take_rest names k))
    (run_from_parts front names k m (c.texts_with_one_front_stand_together.ensures.from front) c.count_below.ensures.below behind)
