use Rattle.std.proofs.Common.{◌∙◌, refl, arith, take}
use Rattle.ring_format.proofs.RowLemmas.{drop_later, offset_in-more, written_all, written_more, written_none}
use Rattle.ring_format.proofs.head.put_rows.Goals as goal

pub loop-archive-init : goal.loop-archive-init
loop-archive-init c = record { end = refl; offset = omega (arith, c.head_size-offset.ensures); written = written_none _; behind = refl }

pub loop-archive-preserved : goal.loop-archive-preserved
loop-archive-preserved c = record {
  end = omega (arith, c.put_row-at.ensures.end, c.loop-archive.invariant.end);
  offset = omega (arith, offset_in-more 2 c.args.archives.now c.loop-archive.archive-index (record { step = 0; points = 0 }) c.loop-archive-test.true, c.from.ensures, c.loop-archive.invariant.offset);
  written = written_more 2 (take 16 c.args.out.now) c.args.archives.now c.loop-archive.archive-index (record { step = 0; points = 0 }) (take c.loop-archive.at c.loop-archive.out) (take c.put_row-at.result c.put_row-at.new.out)
      c.loop-archive-test.true c.loop-archive.invariant.written (rw (← c.loop-archive.invariant.offset) c.put_row-at.ensures.written);
  behind = c.put_row-at.ensures.behind ∙ drop_later c.loop-archive.out c.args.out.now c.loop-archive.at c.put_row-at.result c.loop-archive.invariant.behind (omega (arith, c.put_row-at.ensures.end));
}

pub returns-clause-written : goal.returns-clause-written
returns-clause-written c = written_all 2 _ c.args.archives.now c.loop-archive.archive-index _ c.loop-archive-test.false c.loop-archive.invariant.written
