use Rattle.std.proofs.Common.{◌≤◌, ◌-◌, length, take}
use Rattle.std.specs.Option.{ForSome}
use Rattle.http_wire.specs.Cuts.{Awaits}
use Rattle.http_wire.specs.Reading.{HasRoom}
use Rattle.http_front.specs.Origin.{SamePass, WritesOnly, origin_of, standing}
use Rattle.http_front.specs.Standing.{TakesPiece}
use Rattle.http_front.proofs.renderer.Renderer.serve_piece.Given as goal

abbrev pub invariant-loop-at : goal.invariant-loop-at
invariant-loop-at g l = record {
  takes : TakesPiece (origin_of g.C.Clock g.N.Named l.fn.self.clock.now) l.fn.reader.left (standing g.K.Sink l.fn.pass l.fn.watch l.fn.out) (take l.at l.piece) l.reader.left (standing g.K.Sink l.pass l.watch l.out);
  within : l.at ≤ length l.piece;
  waits : ForSome l.reader.left Awaits;
  room : HasRoom l.reader.left;
  pass : SamePass l.fn.pass l.pass;
  writes : WritesOnly g.K.Sink l.fn.out l.out ⊥;
}

abbrev pub decreases-loop-at : goal.decreases-loop-at
decreases-loop-at g l = length l.piece - l.at
