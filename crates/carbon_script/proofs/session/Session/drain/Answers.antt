use Rattle.carbon_script.proofs.DrainLemmas.{replies_drain}
use Rattle.carbon_script.proofs.session.Session.drain.Goals as goal

pub returns : goal.returns
returns g c =
    replies_drain g.N.Named.told g.N.Named.start c.drain_pending-end.result c.drained_reply.result c.args.self.now c.drain_pending-end.new.self c.drain_pending-end.ensures c.drained_reply.ensures
