use Rattle.metric_line.specs.Seen.{seen}
use Rattle.line_front.proofs.EmitLemmas.{gathers_none}
use Rattle.line_front.proofs.session.LineSession.gather.Goals as goal

pub returns-then-lacks_rules-clause-gathers : goal.returns-then-lacks_rules-clause-gathers
returns-then-lacks_rules-clause-gathers g c =
    gathers_none g.N.Named.start g.N.Named.passes (seen c.args.datum.now) c.args.self.now.session (c.lacks_rules.ensures c.if-lacks_rules.true)
