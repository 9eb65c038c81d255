use Rattle.std.proofs.Common.{◌≡◌, ◌≢◌, Less, true, false, rules}
use Rattle.std.specs.Ordering.{is_lt}
use Rattle.std.proofs.lemmas.List.Sorted.{IsPartitionPoint-from_clause}
use Rattle.path_glob.proofs.FrontLemmas.{all_before, all_behind, below_first, lt_is, not_lt, order}
use Rattle.path_glob.proofs.run.count_below.Goals as goal

pub returns-clause-below : goal.returns-clause-below
returns-clause-below c =
    let front = c.args.front.now in
    let parts = IsPartitionPoint-from_clause (λ name. is_lt (order name front)) _ _ c.partition_point.ensures.partitioned (below_first c.args.names.now front c.requires) (λ a r q k. search rules) in
    all_before (λ name. is_lt (order name front) ≡ true) (λ name. order name front ≡ Less) (λ name below. lt_is (order name front) below) c.args.names.now _ c.partition_point.ensures.bound parts.0

pub returns-clause-from : goal.returns-clause-from
returns-clause-from c =
    let front = c.args.front.now in
    let parts = IsPartitionPoint-from_clause (λ name. is_lt (order name front)) _ _ c.partition_point.ensures.partitioned (below_first c.args.names.now front c.requires) (λ a r q k. search rules) in
    all_behind (λ name. is_lt (order name front) ≡ false) (λ name. order name front ≢ Less) (λ name below. not_lt (order name front) below) c.args.names.now _ c.partition_point.ensures.bound parts.1
