use Rattle.std.proofs.Common.{◌≡◌, ℕ, ◌+◌, ◌-◌, ◌<◌, length, ap, ◌∙◌, arith}
use Rattle.time_range.specs.Columns.{column}
use Rattle.time_range.proofs.ColumnLemmas.{kept_next}
use Rattle.time_range.proofs.difference.kept_down.Goals as goal

pub loop-place-preserved : goal.loop-place-preserved
loop-place-preserved c =
    let now = c.loop-place.invariant in
    let within : c.loop-place.place - 1 - c.args.from < length c.args.sums.now = omega (arith, now.below, c.requires.summed, c.loop-place-test.true) in
    let at : c.args.from + (c.loop-place.place - 1 - c.args.from) ≡ c.loop-place.place - 1 = omega (arith, c.loop-place-test.true) in
    record {
      above = omega (arith, c.loop-place-test.true);
      below = omega (arith, now.below);
      most = omega (arith, c.next_kept-kept.ensures);
      value = λ spans start sums.
          c.next_kept-kept.ensures
          ∙ kept_next c.args.digits.now spans c.loop-place.place c.loop-place.kept c.digit_at.result _ (omega (arith, c.loop-place-test.true)) c.requires.digits
          (now.value spans start sums) c.digit_at.ensures.value c.digit_at.ensures.most (sums (c.loop-place.place - 1 - c.args.from) within ∙ ap (λ (n : ℕ). column n spans) at)
          (c.requires.small (c.loop-place.place - 1 - c.args.from) within);
    }
