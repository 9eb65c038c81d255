use Rattle.std.proofs.Common.{◌∙◌, ◌+◌, ◌-◌, ◌*◌, drop, sym, ap, arith}
use Rattle.ring_format.specs.Layout.{LayoutValue}
use Rattle.ring_format.specs.Patch.{PatchValue}
use Rattle.redo_log.specs.Body.{entry_size}
use Rattle.redo_log.specs.Told.{cells_told}
use Rattle.redo_log.proofs.ToldLemmas.{told_more, told_no_more}
use Rattle.redo_log.proofs.entries.tell_cells.Goals as goal

pub returns-in-Err-clause-damaged : goal.returns-in-Err-clause-damaged
returns-in-Err-clause-damaged c = λ damaged.
    c.loop-k.invariant.told ∙ told_no_more c.loop-k.patch.layout c.loop-k.patch.cells c.args.count c.loop-k.k _ c.args.bytes.now (omega (arith, c.loop-k-test.true)) (omega arith) (c.in-Err.ensures.damaged damaged)

pub loop-k-preserved : goal.loop-k-preserved
loop-k-preserved c = record {
  told = c.loop-k.invariant.told ∙ told_more c.loop-k.patch.layout c.loop-k.patch.cells c.tell_entry.new.patch.cells c.args.count c.loop-k.k _ c.args.bytes.now (omega (arith, c.loop-k-test.true)) (omega arith) c.in-Ok.ensures.ok
      ∙ ap (λ (layout : LayoutValue). cells_told layout c.tell_entry.new.patch.cells (c.args.count - (c.loop-k.k + 1)) (drop (entry_size * (c.loop-k.k + 1)) c.args.bytes.now)) (sym (ap (λ (p : PatchValue). p.layout) c.in-Ok.ensures.same));
  same = c.in-Ok.ensures.same ∙ ap (λ (p : PatchValue). record p { cells = c.tell_entry.new.patch.cells }) c.loop-k.invariant.same;
}
