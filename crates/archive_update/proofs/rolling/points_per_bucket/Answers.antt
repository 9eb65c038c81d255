use Rattle.std.proofs.Common.{◌≡◌, ◌+◌, ◌*◌, ◌/◌, ◌∙◌, ℕ, None, ap, sym}
use Rattle.ring_format.specs.Layout.{layout_fault}
use Rattle.archive_update.proofs.RollLemmas.{step_of_found}
use Rattle.archive_update.proofs.StepLemmas.{covers_exactly, some_places}
use Rattle.archive_update.proofs.rolling.points_per_bucket.Goals as goal

pub returns-clause-exact : goal.returns-clause-exact
returns-clause-exact c =
    let lawful : layout_fault c.args.layout.now.archives c.args.layout.now.factor ≡ None = rw (← c.archives.ensures.value) c.archives.ensures.lawful in
    ap (λ (step : ℕ). c.archive.result.step / c.archive-2.result.step * step) (step_of_found c.args.layout.now.archives c.args.finer c.archive-2.result c.archive-2.ensures.value)
    ∙ covers_exactly c.args.layout.now.archives c.args.layout.now.factor c.args.finer c.archive-2.result c.archive.result lawful c.requires.finer.archive c.archive-2.ensures.value c.archive.ensures.value
    ∙ sym (step_of_found c.args.layout.now.archives (c.args.finer + 1) c.archive.result c.archive.ensures.value)

pub returns-clause-some : goal.returns-clause-some
returns-clause-some c =
    let lawful : layout_fault c.args.layout.now.archives c.args.layout.now.factor ≡ None = rw (← c.archives.ensures.value) c.archives.ensures.lawful in
    some_places c.archive-2.result.step c.archive.result.step (c.archive.result.step / c.archive-2.result.step)
    (covers_exactly c.args.layout.now.archives c.args.layout.now.factor c.args.finer c.archive-2.result c.archive.result lawful c.requires.finer.archive c.archive-2.ensures.value c.archive.ensures.value) c.archive.ensures.step.0
