use Rattle.std.proofs.Common.{◌≡◌, ◌∙◌, ◌+◌, ℕ, List, ◌++◌, take, sym, ap, arith, append-nil, subst}
use Rattle.redo_log.specs.Body.{Fits}
use Rattle.redo_log.proofs.BodyLemmas.{entries_none}
use Rattle.redo_log.proofs.CellLemmas.{filled_all, filled_more, fit_more, fit_none}
use Rattle.redo_log.proofs.piece.put_entries.Goals as goal

pub loop-k-init : goal.loop-k-init
loop-k-init c = record {
  bytes = let none : c.args.at + 0 ≡ c.args.at = omega arith in ap (λ (n : ℕ). take n c.args.out.now) none
      ∙ sym (ap (λ (xs : List ℕ). take c.args.at c.args.out.now ++ xs) entries_none ∙ append-nil (take c.args.at c.args.out.now));
  fit = fit_none c.args.cells.now;
}

pub loop-k-preserved : goal.loop-k-preserved
loop-k-preserved c = record {
  bytes = filled_more c.args.cells.now c.loop-k.k c.args.at c.index-cells-k.result c.index-cells-k.result c.args.out.now c.loop-k.out c.put_entry.new.out (omega (arith, c.loop-k-test.true)) c.index-cells-k.is c.loop-k.invariant.bytes c.put_entry.ensures.written;
  fit = fit_more c.args.cells.now c.loop-k.k c.index-cells-k.result (omega (arith, c.loop-k-test.true)) c.loop-k.invariant.fit (subst Fits c.index-cells-k.is c.put_entry.ensures.fits);
}

pub returns : goal.returns
returns c =
    filled_all c.args.cells.now c.args.at c.min-count.result c.loop-k.k c.args.out.now c.loop-k.out c.min-count.ensures (omega arith) (omega (arith, c.loop-k-test.false, c.loop-k.auto.k-end)) c.loop-k.invariant.bytes c.loop-k.invariant.fit
