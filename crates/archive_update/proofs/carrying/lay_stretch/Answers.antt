use Rattle.std.proofs.Common.{◌≡◌, ◌∙◌, ◌+◌, ℕ, ℤ, Option, true, length, sym, subst, arith}
use Rattle.ring_format.specs.Layout.{LayoutValue}
use Rattle.ring_archive.specs.Ring.{stored_cell}
use Rattle.archive_update.specs.Carried.{CarriesTo, has_base}
use Rattle.archive_update.proofs.CarryLemmas.{carries_more, cell_read}
use Rattle.archive_update.proofs.LayLemmas.{alike_more, alike_same}
use Rattle.archive_update.proofs.carrying.lay_stretch.Goals as goal

pub loop-k-init : goal.loop-k-init
loop-k-init c = record {
  carries = λ file based are so_far. subst (λ (n : ℕ). CarriesTo c.args.patch.now file c.args.archive n) (let e : c.args.slot ≡ c.args.slot + 0 = omega arith in e) so_far;
  alike = alike_same c.args.patch.now;
}

pub loop-k-preserved : goal.loop-k-preserved
loop-k-preserved c =
    let at : ℕ = c.args.slot + c.loop-k.k in
    let cell : ℕ × Option ℤ = c.index-cells-k.result in
    let layout = c.loop-k.invariant.alike.layout in
    record {
      carries = λ file based are so_far.
          let own : has_base c.loop-k.patch.layout.archives file c.args.archive ≡ true = subst (λ (l : LayoutValue). has_base l.archives file c.args.archive ≡ true) (sym layout) based in
          let read : cell ≡ stored_cell c.args.patch.now.layout.archives file (c.args.archive, at) =
          c.index-cells-k.is ∙ cell_read c.args.patch.now.layout.archives file c.args.archive c.args.slot (length c.args.cells.now) c.loop-k.k c.args.cells.now cell are c.loop-k-test.true in
          let here : cell ≡ stored_cell c.loop-k.patch.layout.archives file (c.args.archive, at) = subst (λ (l : LayoutValue). cell ≡ stored_cell l.archives file (c.args.archive, at)) (sym layout) read in
          subst (λ (n : ℕ). CarriesTo c.lay_kept.new.patch file c.args.archive n) (let e : at + 1 ≡ c.args.slot + (c.loop-k.k + 1) = omega arith in e)
          (carries_more c.loop-k.patch c.lay_kept.new.patch file c.args.archive at cell own here c.in_ok-lay_kept.ensures.keeps (c.loop-k.invariant.carries file based are so_far));
      alike = alike_more c.args.patch.now c.loop-k.patch c.lay_kept.new.patch c.loop-k.invariant.alike c.in_ok-lay_kept.ensures.alike;
    }
