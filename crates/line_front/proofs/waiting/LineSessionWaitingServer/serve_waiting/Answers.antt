use Rattle.line_front.proofs.WaitingLemmas.{serves_kept, stops_kept}
use Rattle.line_front.proofs.waiting.LineSessionWaitingServer.serve_waiting.Goals as goal

pub returns-clause-serves : goal.returns-clause-serves
returns-clause-serves g c =
    serves_kept g.C.Clock.moments g.N.Named.start g.N.Named.passes c.serve_batches-served.result c.args.self.now c.take_buffer-points.new.self c.keep_buffer.new.self
    c.serve_batches-served.new.self _ _ c.take_buffer-points.ensures c.keep_buffer.ensures c.args.framer.now c.serve_batches-served.new.framer c.serve_batches-served.ensures.serves

pub returns-clause-stops : goal.returns-clause-stops
returns-clause-stops g c =
    stops_kept g.C.Clock.moments g.N.Named.start g.N.Named.passes c.serve_batches-served.result c.args.self.now c.take_buffer-points.new.self c.keep_buffer.new.self
    c.serve_batches-served.new.self _ _ c.take_buffer-points.ensures c.keep_buffer.ensures c.args.framer.now.waiting c.serve_batches-served.ensures.stops
