use Rattle.std.proofs.Common.{refl}
use Rattle.shared_store.specs.Known.{KnowsBy}
use Rattle.shared_store.proofs.AskPassLemmas.{may_later, more_both, more_itself, on_both, room_later}
use Rattle.shared_store.proofs.KnownLemmas.{all_know, knows_on}
use Rattle.shared_store.proofs.store.Store.attempt_last.Goals as goal

pub attempt_held-requires-clause-may : goal.attempt_held-requires-clause-may
attempt_held-requires-clause-may g c = may_later c.args.attempt c.args.pass.now c.loop-look.pass c.loop-look.invariant c.requires.may

pub attempt_held-requires-clause-room : goal.attempt_held-requires-clause-room
attempt_held-requires-clause-room g c = room_later c.args.pass.now c.loop-look.pass c.loop-look.invariant c.requires.room

pub attempt_held-requires-clause-known : goal.attempt_held-requires-clause-known
attempt_held-requires-clause-known g c =
    let n = g.N.Named in
    let old = c.args.pass.now in
    let mid = c.loop-look.pass in
    all_know (KnowsBy n.start old.looks) (KnowsBy n.start mid.looks) c.args.needs.now (λ names. knows_on n.start old mid names c.loop-look.invariant.on) c.requires.known

pub returns-in-Some-attempt_held-clause-tries : goal.returns-in-Some-attempt_held-clause-tries
returns-in-Some-attempt_held-clause-tries g c = c.in-Some-attempt_held.ensures.tries c.args.pass.now c.loop-look.invariant

pub returns-in-Some-attempt_held-clause-looks : goal.returns-in-Some-attempt_held-clause-looks
returns-in-Some-attempt_held-clause-looks g c = on_both c.args.pass.now c.loop-look.pass c.attempt_held.new.pass c.loop-look.invariant.on c.attempt_held.ensures.looks

pub loop-look-init : goal.loop-look-init
loop-look-init g c = more_itself c.args.pass.now

pub loop-look-preserved : goal.loop-look-preserved
loop-look-preserved g c = more_both c.args.pass.now c.loop-look.pass c.attempt_held.new.pass c.loop-look.invariant (c.in-None-attempt_held.ensures.more refl)
