use Rattle.std.proofs.Common.{refl, subst}
use Rattle.std.specs.Prelude.{Ok}
use Rattle.metric_line.specs.Seen.{seen}
use Rattle.carbon_script.specs.Command.{Ask, Clock, DrainAll, Long, Metric, Plan, Refused, Write}
use Rattle.carbon_script.specs.Sessions.{Obeys, SessionValue}
use Rattle.carbon_script.proofs.SessionLemmas.{appends_some_none, obeys_bad, obeys_clock, obeys_long, obeys_refused, obeys_said}
use Rattle.carbon_script.proofs.session.Session.obey.Goals as goal

pub returns-in-Metric-clause-obeys : goal.returns-in-Metric-clause-obeys
returns-in-Metric-clause-obeys g c =
    rw c.in-Metric.is (obeys_said (Unit {0}) g.N.Named.told g.N.Named.start (Metric (seen c.in-Metric.datum)) c.put_line.result c.say.result c.args.self.now c.put_line.new.self (g.K.Sink.written c.args.out.now) (g.K.Sink.written c.say.new.out)
    c.put_line.ensures c.say.ensures.says)

pub returns-in-Ask-clause-obeys : goal.returns-in-Ask-clause-obeys
returns-in-Ask-clause-obeys g c =
    rw c.in-Ask.is (obeys_said (Unit {0}) g.N.Named.told g.N.Named.start (Ask c.in-Ask.query.now) c.ask.result c.say-in-Ask.result c.args.self.now c.ask.new.self (g.K.Sink.written c.args.out.now) (g.K.Sink.written c.say-in-Ask.new.out)
    c.ask.ensures c.say-in-Ask.ensures.says)

pub returns-in-Plan-clause-obeys : goal.returns-in-Plan-clause-obeys
returns-in-Plan-clause-obeys g c =
    rw c.in-Plan.is (obeys_said (Unit {0}) g.N.Named.told g.N.Named.start Plan c.plan.result c.say-in-Plan.result c.args.self.now c.plan.new.self (g.K.Sink.written c.args.out.now) (g.K.Sink.written c.say-in-Plan.new.out)
    c.plan.ensures c.say-in-Plan.ensures.says)

pub returns-in-Write-clause-obeys : goal.returns-in-Write-clause-obeys
returns-in-Write-clause-obeys g c =
    rw c.in-Write.is (obeys_said (Unit {0}) g.N.Named.told g.N.Named.start Write c.write.result c.say-in-Write.result c.args.self.now c.write.new.self (g.K.Sink.written c.args.out.now) (g.K.Sink.written c.say-in-Write.new.out)
    c.write.ensures c.say-in-Write.ensures.says)

pub returns-in-DrainAll-clause-obeys : goal.returns-in-DrainAll-clause-obeys
returns-in-DrainAll-clause-obeys g c =
    rw c.in-DrainAll.is (obeys_said (Unit {0}) g.N.Named.told g.N.Named.start DrainAll c.drain.result c.say-in-DrainAll.result c.args.self.now c.drain.new.self (g.K.Sink.written c.args.out.now) (g.K.Sink.written c.say-in-DrainAll.new.out)
    c.drain.ensures c.say-in-DrainAll.ensures.says)

pub returns-in-Refused-clause-obeys : goal.returns-in-Refused-clause-obeys
returns-in-Refused-clause-obeys g c =
    let old : SessionValue = record { pass = c.self.inside.pass; clock = c.self.inside.clock; counts = c.self.inside.counts } in
    rw c.in-Refused.is (subst (λ (code : SessionValue). Obeys g.N.Named.told g.N.Named.start (Ok (tt {0})) code (Refused c.in-Refused.fault) (g.K.Sink.written c.args.out.now) (record old { counts = c.count_refused.new.self }) (g.K.Sink.written c.args.out.now)) c.self.view_is
    (obeys_refused g.N.Named.told g.N.Named.start (tt {0}) old (record old { counts = c.count_refused.new.self }) c.in-Refused.fault (g.K.Sink.written c.args.out.now) refl refl c.count_refused.ensures))

pub returns-in-Refused-clause-some : goal.returns-in-Refused-clause-some
returns-in-Refused-clause-some g c = appends_some_none (g.K.Sink.written c.args.out.now)

pub returns-in-Long-clause-obeys : goal.returns-in-Long-clause-obeys
returns-in-Long-clause-obeys g c =
    let old : SessionValue = record { pass = c.self-in-Long.inside.pass; clock = c.self-in-Long.inside.clock; counts = c.self-in-Long.inside.counts } in
    rw c.in-Long.is (subst (λ (code : SessionValue). Obeys g.N.Named.told g.N.Named.start (Ok (tt {0})) code Long (g.K.Sink.written c.args.out.now) (record old { counts = c.count_long.new.self }) (g.K.Sink.written c.args.out.now)) c.self-in-Long.view_is
    (obeys_long g.N.Named.told g.N.Named.start (tt {0}) old (record old { counts = c.count_long.new.self }) (g.K.Sink.written c.args.out.now) refl refl c.count_long.ensures))

pub returns-in-Long-clause-some : goal.returns-in-Long-clause-some
returns-in-Long-clause-some g c = appends_some_none (g.K.Sink.written c.args.out.now)

pub returns-in-Clock-clause-obeys : goal.returns-in-Clock-clause-obeys
returns-in-Clock-clause-obeys g c =
    let old : SessionValue = record { pass = c.self-in-Clock.inside.pass; clock = c.self-in-Clock.inside.clock; counts = c.self-in-Clock.inside.counts } in
    rw c.in-Clock.is (subst (λ (code : SessionValue). Obeys g.N.Named.told g.N.Named.start (Ok (tt {0})) code (Clock c.in-Clock.moment) (g.K.Sink.written c.args.out.now) (record old { clock = c.in-Clock.moment }) (g.K.Sink.written c.args.out.now)) c.self-in-Clock.view_is
    (obeys_clock g.N.Named.told g.N.Named.start (tt {0}) old (record old { clock = c.in-Clock.moment }) c.in-Clock.moment (g.K.Sink.written c.args.out.now) refl refl refl))

pub returns-in-Clock-clause-some : goal.returns-in-Clock-clause-some
returns-in-Clock-clause-some g c = appends_some_none (g.K.Sink.written c.args.out.now)

pub returns-in-Bad-clause-obeys : goal.returns-in-Bad-clause-obeys
returns-in-Bad-clause-obeys g c =
    rw c.in-Bad.is (obeys_bad (Unit {0}) g.N.Named.told g.N.Named.start c.refuse.result c.args.self.now (g.K.Sink.written c.args.out.now) (g.K.Sink.written c.refuse.new.out) c.refuse.ensures.says)
