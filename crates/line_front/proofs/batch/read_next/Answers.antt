use Rattle.line_front.proofs.BatchLemmas.{read_handed}
use Rattle.line_front.proofs.batch.read_next.Goals as goal

pub returns-in-Some-Line-clause-reads : goal.returns-in-Some-Line-clause-reads
returns-in-Some-Line-clause-reads g c =
    read_handed (g.C.Clock.moments c.args.clock.now) c.read_point.result c.line.result.now c.args.watch.now c.read_point.new.watch c.args.framer.now c.next_line.new.self c.args.points.now.items c.read_point.new.points.items
    (rw c.in-Some-Line.field-0-is at c.in-Some-Line.ensures.next) c.line.ensures.line c.read_point.ensures
