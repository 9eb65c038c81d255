use Rattle.std.proofs.Common.{ap, arith}
use Rattle.line_service.specs.declared.ends.ServiceEnd.TheVariants as service
use Rattle.carbon_script.proofs.BehindLemmas.{behind_all, behind_limit, behind_short, behind_stopped, behind_unread}
use Rattle.carbon_script.proofs.behind.serve_behind.Goals as goal

pub returns-in-Closed-clause-ends : goal.returns-in-Closed-clause-ends
returns-in-Closed-clause-ends g c =
    behind_all g.N.Named.told g.N.Named.start c.serve.result _ _ _ _ _ c.args.session.now c.serve_lines.new.server c.serve.new.session _ c.requires c.in-Closed.ensures.service c.serve.ensures.ends

pub returns-in-ReadFault-clause-ends : goal.returns-in-ReadFault-clause-ends
returns-in-ReadFault-clause-ends g c = behind_unread g.N.Named.told g.N.Named.start _ _ _ _ c.args.session.now c.serve_lines.new.server c.requires c.in-ReadFault.ensures.service

pub returns-in-Limit-clause-ends : goal.returns-in-Limit-clause-ends
returns-in-Limit-clause-ends g c = behind_limit g.N.Named.told g.N.Named.start _ _ _ _ c.args.session.now c.serve_lines.new.server c.requires c.in-Limit.ensures.service

pub returns-in-NoMemory-clause-ends : goal.returns-in-NoMemory-clause-ends
returns-in-NoMemory-clause-ends g c = behind_short g.N.Named.told g.N.Named.start _ _ _ _ c.args.session.now c.serve_lines.new.server c.requires c.in-NoMemory.ensures.service

pub returns-in-Stopped-clause-ends : goal.returns-in-Stopped-clause-ends
returns-in-Stopped-clause-ends g c =
    behind_stopped g.N.Named.told g.N.Named.start c.in-Stopped.stop c.end_of.result _ _ _ _ c.args.session.now c.serve_lines.new.server c.end_of.ensures
    (λ failed. let rose = c.in-Stopped.ensures.writes.cause (ap service.Stopped failed) in absurd (omega (arith, rose))) c.requires c.in-Stopped.ensures.service
