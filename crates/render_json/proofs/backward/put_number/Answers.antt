use Rattle.std.proofs.Common.{arith, append_assoc}
use Rattle.itoa.proofs.Decimal.{decimal_pair, length_pair}
use Rattle.render_json.proofs.backward.put_number.Goals as goal

pub put_pair-at-requires-clause-room : goal.put_pair-at-requires-clause-room
put_pair-at-requires-clause-room c = omega (arith, length_pair c.loop-left.left c.loop-left-test.true c.loop-left.auto.left-fits.fits)

pub loop-left-preserved : goal.loop-left-preserved
loop-left-preserved c =
    let l = c.loop-left in
    let long = length_pair l.left c.loop-left-test.true l.auto.left-fits.fits in
    let start = c.put_pair-at.ensures.start in (
      omega (arith, long, start),
      omega (arith, start),
      omega (arith, long, start),
      rw c.put_pair-at.ensures.written (rw (decimal_pair l.left c.loop-left-test.true l.auto.left-fits.fits, append_assoc) at l.invariant.3),
    )
