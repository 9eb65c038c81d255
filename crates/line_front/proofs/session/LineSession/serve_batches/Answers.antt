use Rattle.std.proofs.Common.{refl}
use Rattle.line_front.proofs.WaitingLemmas.{serves_batch, serves_rest, stops_batch, stops_rest}
use Rattle.line_front.proofs.session.LineSession.serve_batches.Goals as goal

pub loop-self-preserved : goal.loop-self-preserved
loop-self-preserved g c =
    serves_batch g.C.Clock.moments g.N.Named.start g.N.Named.passes c.in-Ok-true.field-0 c.args.framer.now c.loop-self.framer c.serve_batch.new.framer _ _ _
    c.loop-self.invariant c.in-Ok-true.ensures.serves c.in-Ok-true.ensures.clock refl

pub returns-in-Ok-false-clause-serves : goal.returns-in-Ok-false-clause-serves
returns-in-Ok-false-clause-serves g c =
    serves_batch g.C.Clock.moments g.N.Named.start g.N.Named.passes c.in-Ok-false.field-0 c.args.framer.now c.loop-self.framer c.serve_batch.new.framer _ _ _
    c.loop-self.invariant c.in-Ok-false.ensures.serves c.in-Ok-false.ensures.clock refl

pub returns-in-Err-clause-stops : goal.returns-in-Err-clause-stops
returns-in-Err-clause-stops g c =
    stops_batch g.C.Clock.moments g.N.Named.start g.N.Named.passes c.in-Err.stop c.args.framer.now c.loop-self.framer _ _ _
    c.loop-self.invariant c.in-Err.ensures.stops c.in-Err.ensures.clock

pub returns-clause-serves : goal.returns-clause-serves
returns-clause-serves g c =
    serves_rest g.C.Clock.moments g.N.Named.start g.N.Named.passes c.serve_each.result c.args.framer.now c.loop-self.framer c.serve_each.new.framer _ _ _
    c.loop-self.invariant c.serve_each.ensures.serves

pub returns-clause-stops : goal.returns-clause-stops
returns-clause-stops g c =
    stops_rest g.C.Clock.moments g.N.Named.start g.N.Named.passes c.serve_each.result c.args.framer.now c.loop-self.framer _ _ _
    c.loop-self.invariant c.serve_each.ensures.stops
