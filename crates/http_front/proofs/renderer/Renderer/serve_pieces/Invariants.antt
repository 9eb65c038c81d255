use Rattle.std.proofs.Common.{◌≤◌, ◌-◌, ◌^◌}
use Rattle.std.specs.Option.{ForSome}
use Rattle.outside_io.specs.Frames.{CountsReads, CountsWrites}
use Rattle.http_wire.specs.Cuts.{Awaits}
use Rattle.http_wire.specs.Reading.{HasRoom}
use Rattle.http_front.specs.Prompt.{AnswersInTime}
use Rattle.http_front.specs.Origin.{SamePass, origin_of, standing}
use Rattle.http_front.specs.Standing.{Reached}
use Rattle.http_front.proofs.renderer.Renderer.serve_pieces.Given as goal

abbrev pub invariant-loop-taken : goal.invariant-loop-taken
invariant-loop-taken g l = record {
  reached : Reached (origin_of g.C.Clock g.N.Named l.fn.self.clock.now) (g.L.Source.left l.fn.link) (standing g.L.Sink l.fn.pass l.fn.watch l.fn.link) l.taken
      (g.L.Source.left l.link) l.reader.left (standing g.L.Sink l.pass l.watch l.link);
  prompt : AnswersInTime g.L.Source.left g.L.Sink.written (origin_of g.C.Clock g.N.Named l.fn.self.clock.now) (g.L.Source.left l.fn.link) (g.L.Source.left l.link)
      (standing g.L.Sink l.fn.pass l.fn.watch l.fn.link) l.fn.reads l.reads;
  limit : l.taken ≤ 2 ^ 40;
  waits : ForSome l.reader.left Awaits;
  room : HasRoom l.reader.left;
  pass : SamePass l.fn.pass l.pass;
  reads : CountsReads g.L.Source l.fn.link l.link ⊥;
  writes : CountsWrites g.L.Sink l.fn.link l.link ⊥;
}

abbrev pub decreases-loop-taken : goal.decreases-loop-taken
decreases-loop-taken g l = 1099511627776 - l.taken
