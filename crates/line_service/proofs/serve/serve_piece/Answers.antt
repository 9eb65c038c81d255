use Rattle.line_service.specs.Service.{StepOf}
use Rattle.line_service.proofs.StandingLemmas.{takes_piece}
use Rattle.line_service.proofs.serve.serve_piece.Goals as goal

pub returns-in-Ok-serve_waiting-clause-takes : goal.returns-in-Ok-serve_waiting-clause-takes
returns-in-Ok-serve_waiting-clause-takes g c =
    takes_piece (StepOf g.L.LineServer.serves) c.args.framer.now c.feed.new.self c.serve_waiting.new.framer _ _ c.args.piece.now
    c.in-Ok.ensures.ok c.in-Ok-serve_waiting.ensures.serves c.in-Ok-serve_waiting.ensures.all
