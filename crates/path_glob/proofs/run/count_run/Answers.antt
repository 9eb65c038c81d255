use Rattle.std.proofs.Common.{◌≡◌, true, false, rules}
use Rattle.std.proofs.lemmas.List.Sorted.{IsPartitionPoint-from_clause}
use Rattle.path_glob.specs.Laws.{BeginsWith}
use Rattle.path_glob.proofs.FrontLemmas.{all_before, all_behind, begins, begins_is, begins_not, run_first}
use Rattle.path_glob.proofs.run.count_run.Goals as goal

pub returns-clause-run : goal.returns-clause-run
returns-clause-run c =
    let front = c.args.front.now in
    let parts = IsPartitionPoint-from_clause (begins front) _ _ c.partition_point.ensures.partitioned
    (run_first c.args.names.now front (c.texts_with_one_front_stand_together.ensures.to front) c.requires.rising c.requires.from) (λ a r q k. search rules) in
    all_before (λ name. begins front name ≡ true) (BeginsWith front) (begins_is front) c.args.names.now _ c.partition_point.ensures.bound parts.0

pub returns-clause-behind : goal.returns-clause-behind
returns-clause-behind c =
    let front = c.args.front.now in
    let parts = IsPartitionPoint-from_clause (begins front) _ _ c.partition_point.ensures.partitioned
    (run_first c.args.names.now front (c.texts_with_one_front_stand_together.ensures.to front) c.requires.rising c.requires.from) (λ a r q k. search rules) in
    all_behind (λ name. begins front name ≡ false) (λ name. BeginsWith front name → ⊥) (begins_not front) c.args.names.now _ c.partition_point.ensures.bound parts.1
