use Rattle.line_frame.specs.Lines.{Whole}
use Rattle.carbon_script.proofs.SessionLemmas.{stops_nothing}
use Rattle.carbon_script.proofs.session.SessionLineServer.serve_line.Goals as goal

pub returns-in-Err-clause-stops : goal.returns-in-Err-clause-stops
returns-in-Err-clause-stops g c =
    rw c.in-Err.ensures.same (stops_nothing g.N.Named.told g.N.Named.start c.args.self.now (Whole c.args.line.now) (g.K.Sink.written c.args.out.now) c.in-Err.ensures.memory)
