use Rattle.aggregate_front.proofs.DeedLemmas.{did_push}
use Rattle.aggregate_front.proofs.HeldLemmas.{feeds_none, feeds_one}
use Rattle.aggregate_front.proofs.outputs.Outputs.take_next.Goals as goal

pub returns-in_err-push_emitted-in-Some-clause-did : goal.returns-in_err-push_emitted-in-Some-clause-did
returns-in_err-push_emitted-in-Some-clause-did c =
    let took = rw c.in-Some.is at c.in_ok-done.ensures.ok in
    λ start all. rw (c.push_within.ensures, c.in_ok-reserve.ensures.items) (did_push start c.args.self.now c.take.new.self c.args.deeds.now.items c.in-Some.done.deed all took.1)

pub returns-in_ok-push_emitted-in-Some-clause-ok : goal.returns-in_ok-push_emitted-in-Some-clause-ok
returns-in_ok-push_emitted-in-Some-clause-ok c =
    let took = rw c.in-Some.is at c.in_ok-done.ensures.ok in
    feeds_one c.args.self.now c.take.new.self c.args.point.now c.args.hit.now c.args.emitted.now.items c.push_emitted.new.emitted.items c.in-Some.done.datum
    took.0 took.1.limits c.in_ok-push_emitted-in-Some.ensures

pub returns-in_ok-push_emitted-in-Some-clause-did : goal.returns-in_ok-push_emitted-in-Some-clause-did
returns-in_ok-push_emitted-in-Some-clause-did c =
    let took = rw c.in-Some.is at c.in_ok-done.ensures.ok in
    λ start all. rw (c.push_within.ensures, c.in_ok-reserve.ensures.items) (did_push start c.args.self.now c.take.new.self c.args.deeds.now.items c.in-Some.done.deed all took.1)

pub returns-in-None-clause-ok : goal.returns-in-None-clause-ok
returns-in-None-clause-ok c =
    let took = rw c.in-None.is at c.in_ok-done.ensures.ok in
    feeds_none c.args.self.now c.take.new.self c.args.point.now c.args.hit.now _ took.0 took.1
