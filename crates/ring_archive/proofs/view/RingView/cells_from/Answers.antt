use Rattle.std.proofs.Common.{◌∙◌, length, refl, ap, arith}
use Rattle.std.proofs.lemmas.List.{length-replicate}
use Rattle.std.proofs.lemmas.List.FromFn.{length-map-range_with_len}
use Rattle.ring_archive.specs.Ring.{ring_cell}
use Rattle.ring_archive.proofs.UnderLemmas.{under_all, under_both, under_map}
use Rattle.ring_archive.proofs.PickedLemmas.{no_buckets, empty_values, picked_all}
use Rattle.ring_archive.proofs.view.RingView.cells_from.Goals as goal

pub returns-then-first-ring-ne0-clause-values : goal.returns-then-first-ring-ne0-clause-values
returns-then-first-ring-ne0-clause-values g c =
    under_all c.args.patch.now.fresh (g.D.Disk.image c.args.disk.now) c.args.self.now.name.now c.args.self.now.version c.args.self.now.layout.archives _ c.requires.file.1 (λ file.
    no_buckets c.args.patch.now file c.args.based.archive c.args.first c.args.count c.archive-ring.result _ (rw c.requires.layout c.archive-ring.ensures.value) (omega arith) (omega arith) c.in_ok-no_values.ensures)

pub returns-then-based-eq0-clause-values : goal.returns-then-based-eq0-clause-values
returns-then-based-eq0-clause-values g c =
    under_map c.args.patch.now.fresh (g.D.Disk.image c.args.disk.now) c.args.self.now.name.now _ _ c.requires.based.first (λ file at.
    empty_values c.args.patch.now file c.args.based.archive c.args.first c.args.count c.archive-ring.result (ring_cell c.args.patch.now file (c.args.based.archive, 0)) _ (rw c.requires.layout c.archive-ring.ensures.value) refl (omega (arith, at)) c.in_ok-no_values-2.ensures)

pub returns-clause-values : goal.returns-clause-values
returns-clause-values g c =
    under_both c.args.patch.now.fresh (g.D.Disk.image c.args.disk.now) c.args.self.now.name.now _ _ _ c.requires.based.first (rw c.fresh.ensures at c.in_ok-bytes.ensures.cells) (λ file at holds.
    picked_all c.args.patch.now file c.args.based.archive c.args.first c.args.count (ring_cell c.args.patch.now file (c.args.based.archive, 0)) c.archive-ring.result _ _ _ (rw c.requires.layout c.archive-ring.ensures.value) (omega arith) (omega arith) (omega arith) (rw (← at) (grind (arith, c.if-based-eq0.false))) refl (rw (c.slot_of.ensures.value, at) refl) (rw (c.requires.layout, c.deref.ensures.value) holds) (rw (c.deref.ensures.value, c.in_ok-bytes.ensures.length, c.min-held.ensures) refl) c.in_ok-picked_values.ensures)

pub returns-then-first-ring-ne0-clause-count : goal.returns-then-first-ring-ne0-clause-count
returns-then-first-ring-ne0-clause-count g c = ap length c.in_ok-no_values.ensures ∙ length-replicate c.args.count _

pub returns-then-based-eq0-clause-count : goal.returns-then-based-eq0-clause-count
returns-then-based-eq0-clause-count g c = ap length c.in_ok-no_values-2.ensures ∙ length-replicate c.args.count _

pub returns-clause-count : goal.returns-clause-count
returns-clause-count g c = ap length c.in_ok-picked_values.ensures ∙ length-map-range_with_len _ 0 c.args.count
