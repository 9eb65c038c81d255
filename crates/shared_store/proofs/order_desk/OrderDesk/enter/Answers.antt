use Rattle.shared_store.proofs.order_desk.OrderDesk.enter.Goals as goal
use Rattle.shared_store.proofs.DeskLemmas.{enters_last}

pub returns-clause-last : goal.returns-clause-last
returns-clause-last g c =
    let o = c.self.inside.order in
    enters_last g.N.Named.start g.N.Named.passes o c.agree.new.order c.enter.new.order c.args.tail.now c.agree.new.tail c.args.pass.now c.enter.new.pass c.args.event.now
    c.agree.ensures.order c.agree.ensures.tail c.agree.ensures.agree c.self.invariant.count c.self.invariant.legal c.requires.may.about c.requires.legal
    c.enter.ensures.order c.enter.ensures.pass c.enter.ensures.once c.enter.ensures.begins c.enter.ensures.made
