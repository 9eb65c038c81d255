use Rattle.line_front.proofs.BatchLemmas.{ends_points, serves_points, stops_points}
use Rattle.line_front.proofs.session.LineSession.serve_batch.Goals as goal

pub returns-in-Ok-clause-serves : goal.returns-in-Ok-clause-serves
returns-in-Ok-clause-serves g c =
    serves_points g.C.Clock.moments g.N.Named.start g.N.Named.passes c.read_batch-read.result c.args.framer.now c.read_batch-read.new.framer
    c.read_batch-read.new.points.items c.as_slice.result.now c.args.self.now c.read_batch-read.new.self c.read_batch-read.ensures.session c.as_slice.ensures.value
    c.read_batch-read.ensures.reads c.end_batch.result c.bring_points.new.self c.end_batch.new.self c.in-Ok.ensures.watch c.in-Ok.ensures.brings c.end_batch.ensures

pub returns-in-Ok-clause-stops : goal.returns-in-Ok-clause-stops
returns-in-Ok-clause-stops g c =
    ends_points g.C.Clock.moments g.N.Named.start g.N.Named.passes c.read_batch-read.result c.args.framer.now c.read_batch-read.new.framer
    c.read_batch-read.new.points.items c.as_slice.result.now c.args.self.now c.read_batch-read.new.self c.read_batch-read.ensures.session c.as_slice.ensures.value
    c.read_batch-read.ensures.reads c.end_batch.result c.bring_points.new.self c.end_batch.new.self c.in-Ok.ensures.watch c.in-Ok.ensures.brings c.end_batch.ensures

pub returns-in-Err-clause-stops : goal.returns-in-Err-clause-stops
returns-in-Err-clause-stops g c =
    stops_points g.C.Clock.moments g.N.Named.start g.N.Named.passes c.read_batch-read.result c.args.framer.now c.read_batch-read.new.framer
    c.read_batch-read.new.points.items c.as_slice.result.now c.args.self.now c.read_batch-read.new.self c.read_batch-read.ensures.session c.as_slice.ensures.value
    c.read_batch-read.ensures.reads c.in-Err.stop c.bring_points.new.self c.in-Err.ensures.watch c.in-Err.ensures.stops
