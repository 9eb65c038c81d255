use Rattle.std.proofs.Common.{◌∷◌, [], length, ap, arith, length-append}
use Rattle.ring_format.proofs.RowLemmas.{archives_more}
use Rattle.ring_format.proofs.head_reading.archives_in.Goals as goal

pub loop-i-preserved : goal.loop-i-preserved
loop-i-preserved c =
    record {
      count = omega (arith, ap length c.push.ensures, length-append c.loop-i.archives (record { step = c.number_at-step.result; points = c.number_at-points.result } ∷ []));
      read = archives_more c.args.bytes.now c.loop-i.i c.loop-i.archives c.push.new.self c.loop-i.invariant.read (rw (← c.number_at-step.ensures, ← c.number_at-points.ensures) c.push.ensures);
    }
