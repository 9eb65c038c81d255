use Rattle.std.proofs.Common.{◌≡◌, ◌∙◌, sym, arith}
use Rattle.ring_archive.proofs.UnderLemmas.{under_map}
use Rattle.archive_update.proofs.ClearLemmas.{prepares_blank}
use Rattle.archive_update.proofs.laying.prepared.Goals as goal

pub returns-else-not-is_blank-clause-prepares : goal.returns-else-not-is_blank-clause-prepares
returns-else-not-is_blank-clause-prepares g c =
    let none : c.in_ok-base.base ≡ 0 = omega (arith, c.if-base-gt0.false) in
    under_map c.args.patch.now.fresh (g.D.Disk.image c.args.disk.now) c.args.view.now.name.now _ _ c.in_ok-base.ensures.value (λ file at.
    prepares_blank c.args.patch.now c.args.archive file (sym c.is_blank.ensures ∙ c.if-not-is_blank.false) (sym at ∙ none))
