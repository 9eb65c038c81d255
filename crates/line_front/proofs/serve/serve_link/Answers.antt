use Rattle.line_front.proofs.ServiceLemmas.{ends_served}
use Rattle.line_front.proofs.serve.serve_link.Goals as goal

pub returns-in-Ok-clause-ends : goal.returns-in-Ok-clause-ends
returns-in-Ok-clause-ends g c =
    ends_served g.C.Clock.moments g.N.Named.start g.N.Named.passes c.serve_lines.result c.cause_of.result _ _ _ _ c.cause_of.ensures c.in-Ok.ensures c.serve_lines.ensures.service
