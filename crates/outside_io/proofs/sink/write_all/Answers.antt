-- The next bytes of the text were written.
use Rattle.std.proofs.Common.{◌∙◌, arith}
use Rattle.std.proofs.lemmas.Grind.{common_steps}
use Rattle.outside_io.proofs.Known.{Appends-further}
use Rattle.outside_io.proofs.sink.write_all.Goals as goal

pub loop-at-preserved : goal.loop-at-preserved
loop-at-preserved g c = record {
  within = grind (arith, common_steps, c.in-Took.ensures.count);
  written = Appends-further _ _ _ _ _ _ c.loop-at.invariant.written c.in-Took.ensures.bytes;
  later = omega (arith, c.write.ensures.later);
  beside = c.write.ensures.beside ∙ c.loop-at.invariant.beside;
}
