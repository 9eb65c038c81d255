use Rattle.std.proofs.Common.{ℕ, ◌∙◌, arith, length-take}
use Rattle.std.proofs.lemmas.List.{take_rest}
use Rattle.http_front.specs.Origin.{origin_of}
use Rattle.http_front.proofs.StandingLemmas.{breaks_short, breaks_waiting, takes_more}
use Rattle.http_front.proofs.renderer.Renderer.serve_piece.Goals as goal

pub returns-in-Err-clause-breaks : goal.returns-in-Err-clause-breaks
returns-in-Err-clause-breaks g c =
    breaks_short (origin_of g.C.Clock g.N.Named c.args.self.now.clock.now) c.args.reader.now.left c.loop-at.reader.left _ _ c.args.piece.now c.loop-at.at c.loop-at.invariant.takes

pub loop-at-preserved : goal.loop-at-preserved
loop-at-preserved g c = record {
  takes = takes_more (origin_of g.C.Clock g.N.Named c.args.self.now.clock.now) c.args.reader.now.left c.loop-at.reader.left c.feed.new.self.left c.serve_waiting.new.reader.left _ _ _
      c.args.piece.now c.loop-at.at c.in-Ok.count c.loop-at.invariant.takes (rw take_rest at c.in-Ok.ensures.ok) c.in-Ok-serve_waiting.ensures.proceeds;
  within = omega (arith, c.loop-at-test.true, c.in-Ok.ensures.within, length-take {A = ℕ});
  waits = c.in-Ok-serve_waiting.ensures.waits;
  room = c.in-Ok-serve_waiting.ensures.room;
  pass = record {
    table = c.in-Ok-serve_waiting.ensures.pass.table ∙ c.loop-at.invariant.pass.table;
    number = c.in-Ok-serve_waiting.ensures.pass.number ∙ c.loop-at.invariant.pass.number;
  };
  writes = record {
    beside = c.in-Ok-serve_waiting.ensures.writes.beside ∙ c.loop-at.invariant.writes.beside;
    later = omega (arith, c.loop-at.invariant.writes.later, c.in-Ok-serve_waiting.ensures.writes.later);
    cause = λ failed. absurd failed;
  };
}

pub returns-in-Err-serve_waiting-clause-breaks : goal.returns-in-Err-serve_waiting-clause-breaks
returns-in-Err-serve_waiting-clause-breaks g c =
    breaks_waiting (origin_of g.C.Clock g.N.Named c.args.self.now.clock.now) c.in-Err-serve_waiting.end c.args.reader.now.left c.loop-at.reader.left c.feed.new.self.left _ _ _
    c.args.piece.now c.loop-at.at c.in-Ok.count c.loop-at.invariant.takes (rw take_rest at c.in-Ok.ensures.ok) c.in-Err-serve_waiting.ensures.breaks
