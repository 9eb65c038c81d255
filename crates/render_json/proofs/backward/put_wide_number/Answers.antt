use Rattle.std.proofs.Common.{◌≤◌, arith, append_assoc, rules}
use Rattle.render_json.proofs.BackwardLemmas.{wide_pair, wide_pair_long}
use Rattle.render_json.proofs.backward.put_wide_number.Goals as goal

pub put_pair-at-requires-clause-room : goal.put_pair-at-requires-clause-room
put_pair-at-requires-clause-room c =
    let l = c.loop-left in
    let many : 100 ≤ l.left = search rules in
    omega (arith, wide_pair_long l.left many l.auto.left-fits.fits)

pub loop-left-preserved : goal.loop-left-preserved
loop-left-preserved c =
    let l = c.loop-left in
    let many : 100 ≤ l.left = search rules in
    let long = wide_pair_long l.left many l.auto.left-fits.fits in
    let start = c.put_pair-at.ensures.start in (
      omega (arith, long, start),
      omega (arith, start),
      omega (arith, long, start),
      rw c.put_pair-at.ensures.written (rw (wide_pair l.left many l.auto.left-fits.fits, append_assoc) at l.invariant.3),
    )
