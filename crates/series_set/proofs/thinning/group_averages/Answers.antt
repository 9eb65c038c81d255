use Rattle.std.proofs.Common.{sym, arith}
use Rattle.std.specs.Fork.{slice_chunk}
use Rattle.std.proofs.lemmas.List.FromFn.{map-range_with_len_more}
use Rattle.series_set.specs.Average.{average, known}
use Rattle.series_set.proofs.thinning.group_averages.Goals as goal

pub loop-n-preserved : goal.loop-n-preserved
loop-n-preserved c =
    rw (c.in_ok-push.ensures.items, c.loop-n.invariant, c.of.ensures, c.average_known.ensures, c.group.ensures.value)
    (sym (map-range_with_len_more (λ n. average (known (slice_chunk c.args.values.now c.args.size n))) 0 c.loop-n.n c.loop-n.n (omega arith)))
