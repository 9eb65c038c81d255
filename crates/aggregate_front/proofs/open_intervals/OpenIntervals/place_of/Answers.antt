use Rattle.std.proofs.Common.{◌≡◌, ◌∙◌, arith, length, ap, nat_le, position, sym}
use Rattle.std.specs.Option.{unwrap_or}
use Rattle.aggregate_front.specs.declared.interval.Interval.{Interval}
use Rattle.fixed_num.proofs.DigitLemmas.{position_or_len-from_position}
use Rattle.aggregate_front.proofs.open_intervals.OpenIntervals.place_of.Goals as goal

pub returns-clause-place : goal.returns-clause-place
returns-clause-place c =
    let items = c.self.inside.items.items in
    let late = λ (i : Interval). nat_le c.args.start i.start in
    let n : c.len.result ≡ length items = omega (arith, c.len.ensures, c.as_slice.ensures.len, ap length c.as_slice.ensures.value) in
    let first : c.first_from.result ≡ position late items = c.first_from.ensures ∙ ap (position late) c.as_slice.ensures.value in
    rw (sym c.self.view_is) (c.unwrap_or.ensures ∙ ap (unwrap_or c.first_from.result) n ∙ position_or_len-from_position late items c.first_from.result first)
