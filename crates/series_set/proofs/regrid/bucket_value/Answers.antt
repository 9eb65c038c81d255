use Rattle.std.proofs.Common.{◌+◌, ◌*◌, ◌∙◌, refl, arith}
use Rattle.series_set.proofs.BucketLemmas.{bucket_before, bucket_behind, bucket_of_step}
use Rattle.series_set.proofs.PlaceLemmas.{bucket_of_run}
use Rattle.series_set.proofs.regrid.bucket_value.Goals as goal
use Rattle.series_set.proofs.regrid.bucket_value.Goals.{then-end-from-via-then-end-from, then-end-from-via-else-end-from+then-until-start}

pub returns-then-end-from : goal.returns-then-end-from
returns-then-end-from c =
    let s = c.args.series.now in
    let grid = c.args.grid.now in
    let from = grid.start + c.args.place * grid.step in
    elim c.then-end-from.branch [
      | then-end-from-via-then-end-from w ↦ bucket_behind s grid c.args.place from (from + grid.step) (omega (arith, c.step-step.ensures.value, c.step-step.ensures.some)) (omega (arith, c.end.ensures.value, w.if-end-from.true)) refl refl
      | then-end-from-via-else-end-from+then-until-start w ↦ bucket_before s grid c.args.place from (from + grid.step) (omega (arith, w.start.ensures, w.if-until-start.true)) refl refl
    ]

pub returns-then-step-grid : goal.returns-then-step-grid
returns-then-step-grid c =
    let s = c.args.series.now in
    let grid = c.args.grid.now in
    let from = grid.start + c.args.place * grid.step in
    c.value_at.ensures
    ∙ bucket_of_step s grid c.args.place from (from + grid.step) c.place_of.result c.place_of.ensures (omega (arith, c.step-step.ensures.value, c.if-step-grid.true)) (omega (arith, c.start.ensures, c.if-until-start.false)) refl refl

pub returns : goal.returns
returns c =
    let s = c.args.series.now in
    let grid = c.args.grid.now in
    let from = grid.start + c.args.place * grid.step in
    c.average_of_run.ensures
    ∙ bucket_of_run s grid c.args.place from (from + grid.step) c.place_of-2.result c.place_of-3.result c.place_of-2.ensures c.place_of-3.ensures refl refl
