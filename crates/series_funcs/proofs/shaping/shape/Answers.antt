use Rattle.std.proofs.Common.{◌≡◌, List, All, Ok, sym, subst}
use Rattle.series_set.specs.Series.{SeriesValue}
use Rattle.series_set.proofs.GroupLemmas.{if_ok_more}
use Rattle.series_funcs.specs.declared.kinds.Shape.{Shape}
use Rattle.series_funcs.specs.Each.{each_of}
use Rattle.series_funcs.specs.Moved.{HasStep, IsSoLate, lateness, summarized}
use Rattle.series_funcs.proofs.SoonLemmas.{plain_soon, shift_soon, so_late_more, summarize_soon}
use Rattle.series_funcs.proofs.shaping.shape.Goals as goal

pub returns-in-Summarize-clause-bounds : goal.returns-in-Summarize-clause-bounds
returns-in-Summarize-clause-bounds c =
    let set = c.args.set in
    let f = summarized c.in-Summarize.step c.in-Summarize.gather c.args.call.now.function.now c.args.call.now.tail.now in
    let has = subst HasStep c.in-Summarize.is c.requires.step in
    if_ok_more (λ (shaped : List SeriesValue). each_of f c.as_slice.result.now ≡ Ok shaped) (All (IsSoLate set (lateness c.args.kind.now))) c.summarize_each.result c.summarize_each.ensures.ok
    (λ shaped is. subst (λ (kind : Shape). All (IsSoLate set (lateness kind)) shaped) (sym c.in-Summarize.is)
    (summarize_soon c.in-Summarize.step c.in-Summarize.gather c.args.call.now.function.now c.args.call.now.tail.now set shaped has (rw c.as_slice.ensures at is)))

pub returns-in_ok-shift_each-in-TimeShift-clause-bounds : goal.returns-in_ok-shift_each-in-TimeShift-clause-bounds
returns-in_ok-shift_each-in-TimeShift-clause-bounds c =
    let set = c.args.set in
    let shaped = c.in_ok-shift_each-in-TimeShift.field-0 in
    subst (λ (kind : Shape). All (IsSoLate set (lateness kind)) shaped) (sym c.in-TimeShift.is)
    (shift_soon c.in-TimeShift.past c.in-TimeShift.seconds c.args.call.now.function.now c.args.call.now.tail.now set shaped c.in_ok-shift_each-in-TimeShift.ensures)

pub returns-in_ok-shape_each-in_default-clause-bounds : goal.returns-in_ok-shape_each-in_default-clause-bounds
returns-in_ok-shape_each-in_default-clause-bounds c =
    let set = c.args.set in
    so_late_more set c.in_ok-shape_each-in_default.field-0 (lateness c.args.kind.now)
    (plain_soon c.args.kind.now c.args.call.now.function.now c.args.call.now.tail.now set c.in_ok-shape_each-in_default.field-0 c.in_ok-shape_each-in_default.ensures)
