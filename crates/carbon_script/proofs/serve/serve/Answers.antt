use Rattle.carbon_script.proofs.ScriptLemmas.{ends_as, ends_cut, ends_done, ends_limit, ends_short, ends_stopped, ends_unread}
use Rattle.carbon_script.proofs.serve.serve.Goals as goal

pub returns-in-Ok-clause-ends : goal.returns-in-Ok-clause-ends
returns-in-Ok-clause-ends g c = λ from means.
    ends_done g.N.Named.told g.N.Named.start from (tt {0}) _ _ (record { server = c.args.session.now; written = g.K.Sink.written c.args.out.now }) (record { server = c.serve_lines.new.server; written = g.K.Sink.written c.serve_lines.new.out })
    (record { server = c.finish.new.self; written = g.K.Sink.written c.finish.new.out })
    means c.in-Closed.ensures.service c.in-Ok.ensures.finishes c.in-Ok.ensures.some

pub returns-in-Err-clause-ends : goal.returns-in-Err-clause-ends
returns-in-Err-clause-ends g c = λ from means.
    ends_as g.N.Named.told g.N.Named.start from _ _ _ _ _ _ _ c.end_of.ensures
    (ends_cut (Unit {0}) g.N.Named.told g.N.Named.start from c.in-Err.stop _ _ (record { server = c.args.session.now; written = g.K.Sink.written c.args.out.now }) (record { server = c.serve_lines.new.server; written = g.K.Sink.written c.serve_lines.new.out })
    (record { server = c.finish.new.self; written = g.K.Sink.written c.finish.new.out })
    means c.in-Closed.ensures.service c.in-Err.ensures.finishes c.in-Err.ensures.some)

pub returns-in-ReadFault-clause-ends : goal.returns-in-ReadFault-clause-ends
returns-in-ReadFault-clause-ends g c = λ from means. ends_unread g.N.Named.told g.N.Named.start from _ _ (record { server = c.args.session.now; written = g.K.Sink.written c.args.out.now }) (record { server = c.serve_lines.new.server; written = g.K.Sink.written c.serve_lines.new.out }) means c.in-ReadFault.ensures.service

pub returns-in-Limit-clause-ends : goal.returns-in-Limit-clause-ends
returns-in-Limit-clause-ends g c = λ from means. ends_limit g.N.Named.told g.N.Named.start from _ _ (record { server = c.args.session.now; written = g.K.Sink.written c.args.out.now }) (record { server = c.serve_lines.new.server; written = g.K.Sink.written c.serve_lines.new.out }) means c.in-Limit.ensures.service

pub returns-in-NoMemory-clause-ends : goal.returns-in-NoMemory-clause-ends
returns-in-NoMemory-clause-ends g c = λ from means. ends_short g.N.Named.told g.N.Named.start from _ _ (record { server = c.args.session.now; written = g.K.Sink.written c.args.out.now }) (record { server = c.serve_lines.new.server; written = g.K.Sink.written c.serve_lines.new.out }) means c.in-NoMemory.ensures.service

pub returns-in-Stopped-clause-ends : goal.returns-in-Stopped-clause-ends
returns-in-Stopped-clause-ends g c = λ from means.
    ends_as g.N.Named.told g.N.Named.start from _ _ _ _ _ _ _ c.end_of-in-Stopped.ensures
    (ends_stopped g.N.Named.told g.N.Named.start from c.in-Stopped.stop _ _ (record { server = c.args.session.now; written = g.K.Sink.written c.args.out.now }) (record { server = c.serve_lines.new.server; written = g.K.Sink.written c.serve_lines.new.out }) means c.in-Stopped.ensures.service)
