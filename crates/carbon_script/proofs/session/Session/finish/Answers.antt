use Rattle.carbon_script.proofs.SessionLemmas.{appends_some_none, finish_fault, finish_short, finish_spent, finishes_said}
use Rattle.carbon_script.proofs.session.Session.finish.Goals as goal

pub returns-in-Done-clause-finishes : goal.returns-in-Done-clause-finishes
returns-in-Done-clause-finishes g c =
    finishes_said (Unit {0}) g.N.Named.start _ c.summary.result c.say.result c.args.self.now c.drain_pending.new.self c.summary.new.self (g.K.Sink.written c.args.out.now) (g.K.Sink.written c.say.new.out)
    c.in-Done.ensures c.summary.ensures c.say.ensures.says

pub returns-in-DiskFault-clause-finishes : goal.returns-in-DiskFault-clause-finishes
returns-in-DiskFault-clause-finishes g c = finish_fault (Unit {0}) g.N.Named.start c.in-DiskFault.class c.args.self.now c.drain_pending.new.self (g.K.Sink.written c.args.out.now) c.in-DiskFault.ensures

pub returns-in-DiskFault-clause-some : goal.returns-in-DiskFault-clause-some
returns-in-DiskFault-clause-some g c = appends_some_none (g.K.Sink.written c.args.out.now)

pub returns-in-Spent-clause-finishes : goal.returns-in-Spent-clause-finishes
returns-in-Spent-clause-finishes g c = finish_spent (Unit {0}) g.N.Named.start c.args.self.now c.drain_pending.new.self (g.K.Sink.written c.args.out.now) c.in-Spent.ensures

pub returns-in-Spent-clause-some : goal.returns-in-Spent-clause-some
returns-in-Spent-clause-some g c = appends_some_none (g.K.Sink.written c.args.out.now)

pub returns-in-NoMemory-clause-finishes : goal.returns-in-NoMemory-clause-finishes
returns-in-NoMemory-clause-finishes g c = finish_short (Unit {0}) g.N.Named.start c.args.self.now c.drain_pending.new.self (g.K.Sink.written c.args.out.now) c.in-NoMemory.ensures

pub returns-in-NoMemory-clause-some : goal.returns-in-NoMemory-clause-some
returns-in-NoMemory-clause-some g c = appends_some_none (g.K.Sink.written c.args.out.now)
