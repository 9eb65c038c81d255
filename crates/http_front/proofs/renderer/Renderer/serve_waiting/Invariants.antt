use Rattle.http_front.specs.Origin.{SamePass, WritesOnly, origin_of, standing}
use Rattle.http_front.specs.Standing.{Proceeds, waiting_count}
use Rattle.http_front.proofs.renderer.Renderer.serve_waiting.Given as goal

abbrev pub invariant-loop-handed : goal.invariant-loop-handed
invariant-loop-handed g l = record {
  proceeds : Proceeds (origin_of g.C.Clock g.N.Named l.fn.self.clock.now) l.fn.reader.left (standing g.K.Sink l.fn.pass l.fn.watch l.fn.out) l.reader.left (standing g.K.Sink l.pass l.watch l.out);
  pass : SamePass l.fn.pass l.pass;
  writes : WritesOnly g.K.Sink l.fn.out l.out ⊥;
}

abbrev pub decreases-loop-handed : goal.decreases-loop-handed
decreases-loop-handed g l = waiting_count l.reader.left
