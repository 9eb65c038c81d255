use Rattle.std.proofs.Common.{◌≡◌, ◌<◌, ◌-◌, get_or, length, min, ap, ◌∙◌, arith, length-take}
use Rattle.std.proofs.lemmas.Grind.{common_steps}
use Rattle.std.proofs.lemmas.List.{get_or-take}
use Rattle.ring_format.specs.Layout.{retention_of}
use Rattle.ring_format.specs.declared.archive.Archive.{Archive}
use Rattle.archive_update.proofs.SpanLemmas.{one_finer}
use Rattle.archive_update.proofs.own.oldest_of_finer.Goals as goal

pub loop-finer-preserved : goal.loop-finer-preserved
loop-finer-preserved c =
    let archives = c.args.archives.now in
    let at = c.loop-finer.finer-index in
    let d : Archive = record { step = 0; points = 0 } in
    let near : at < c.args.archive = omega (arith, c.loop-finer-test.true, length-take {A = Archive}) in
    let within : at < length archives = omega (arith, c.loop-finer-test.true, length-take {A = Archive}) in
    let one : c.oldest_reached.result ≡ c.args.now - retention_of (get_or archives at d) =
    c.oldest_reached.ensures ∙ ap (λ (a : Archive). c.args.now - retention_of a) (get_or-take c.args.archive archives at _ near ∙ grind (arith, common_steps)) in
    one_finer archives at c.args.now c.loop-finer.oldest c.min-oldest.result d c.loop-finer.invariant
    (c.min-oldest.ensures ∙ ap (min c.loop-finer.oldest) one) (λ e. grind (arith, common_steps))
