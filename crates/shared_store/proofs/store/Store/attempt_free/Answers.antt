use Rattle.std.proofs.Common.{◌≡◌, ◌∷◌, [], List, length, length-append, sym, ap, subst, arith}
use Rattle.carbon_history.specs.declared.entry.Entry.{Entry}
use Rattle.shared_history.specs.Events.{ask_by}
use Rattle.shared_history.specs.Parts.{own_entries}
use Rattle.std.specs.Prelude.{Err}
use Rattle.std.specs.declared.sync.MutexGuard.{MutexGuard}
use Rattle.carbon_model.specs.Replay.{replay}
use Rattle.shared_store.specs.Asking.{AreDesksOf}
use Rattle.shared_store.specs.Desks.{DeskValue}
use Rattle.shared_store.specs.Known.{AllKnow, KnowsAt, KnowsBy, KnowsIn, needs_of}
use Rattle.shared_store.specs.declared.try_end.TryEnd.TheVariants.{Ended}
use Rattle.shared_store.proofs.AskChainLemmas.{looks_answered, try_answered}
use Rattle.shared_store.proofs.AskPassLemmas.{only_itself}
use Rattle.shared_store.proofs.AskReadLemmas.{answers_counts, none_covered, none_held}
use Rattle.shared_store.proofs.KnownLemmas.{all_know, knows_at, knows_in}
use Rattle.shared_store.proofs.store.Store.attempt_free.Goals as goal

pub look_for-requires-clause-known : goal.look_for-requires-clause-known
look_for-requires-clause-known g c =
    let n = g.N.Named in
    let old = c.args.pass.now in
    let new = c.enter_try.new.pass in
    let known : AllKnow (KnowsIn n.start new.seen) c.args.needs.now = all_know (KnowsBy n.start old.looks) (KnowsIn n.start new.seen) c.args.needs.now
    (λ names. knows_in n.start n.passes c.args.now c.args.attempt old new names c.enter_try.ensures.enters) c.requires.known in
    let at : AllKnow (KnowsAt n.start c.enter_try.new.desks.items) c.args.needs.now = all_know (KnowsIn n.start new.seen) (KnowsAt n.start c.enter_try.new.desks.items) c.args.needs.now
    (λ names. knows_at n.start new.seen c.enter_try.new.desks.items names (c.enter_try.ensures.desks, omega (arith, c.enter_try.ensures.sixteen, c.enter_try.new.desks.ok.0))) known in
    subst (λ (l : List (MutexGuard DeskValue)). AllKnow (KnowsAt n.start l) c.args.needs.now) (sym c.as_slice.ensures.value) at

pub returns-in-Err-clause-tries : goal.returns-in-Err-clause-tries
returns-in-Err-clause-tries g c =
    let n = g.N.Named in
    let new = c.enter_try.new.pass in
    let desks : AreDesksOf new.seen c.as_slice.result.now = subst (AreDesksOf new.seen) (sym c.as_slice.ensures.value) c.enter_try.ensures.desks in
    try_answered n.start n.told n.passes c.args.now (needs_of c.args.needs.now) c.args.attempt (Err (Ended c.in-Err.fault)) c.args.pass.now new new c.enter_try.ensures.enters
    (answers_counts n.start n.told n.passes c.args.now (needs_of c.args.needs.now) new c.in-Err.fault (c.in-Err.ensures.fault new.seen desks) (only_itself new)) (λ third. tt)

pub answer-requires-clause-held : goal.answer-requires-clause-held
answer-requires-clause-held g c = none_held c.enter_try.new.pass.seen c.new.result.items c.new.ensures.items

pub answer-requires-clause-room : goal.answer-requires-clause-room
answer-requires-clause-room g c =
    let entry : Entry = ask_by c.args.pass.now c.args.attempt c.args.now in
    omega (arith, c.requires.room, ap length c.enter_try.ensures.enters.enters.once, length-append (own_entries c.args.pass.now) (entry ∷ []))

pub answer-requires-clause-found : goal.answer-requires-clause-found
answer-requires-clause-found g c =
    let seen = c.enter_try.new.pass.seen in
    let desks : AreDesksOf seen c.as_slice.result.now = subst (AreDesksOf seen) (sym c.as_slice.ensures.value) c.enter_try.ensures.desks in
    record { now = c.args.now; needs = needs_of c.args.needs.now; finds = c.in-Ok-look_for.ensures.found seen desks }

pub answer-requires-clause-covered : goal.answer-requires-clause-covered
answer-requires-clause-covered g c = none_covered (replay g.N.Named.start c.enter_try.new.pass.seen) c.new.result.items c.in-Ok-look_for.found.items c.new.ensures.items

pub returns-clause-tries : goal.returns-clause-tries
returns-clause-tries g c =
    let n = g.N.Named in
    let new = c.enter_try.new.pass in
    let desks : AreDesksOf new.seen c.as_slice.result.now = subst (AreDesksOf new.seen) (sym c.as_slice.ensures.value) c.enter_try.ensures.desks in
    try_answered n.start n.told n.passes c.args.now (needs_of c.args.needs.now) c.args.attempt c.answer.result c.args.pass.now new c.answer.new.pass
    c.enter_try.ensures.enters (c.answer.ensures.answers c.args.now (needs_of c.args.needs.now) (c.in-Ok-look_for.ensures.found new.seen desks))
    (λ third. absurd (omega (arith, third, c.requires.few)))

pub returns-clause-looks : goal.returns-clause-looks
returns-clause-looks g c =
    let n = g.N.Named in
    let new = c.enter_try.new.pass in
    let desks : AreDesksOf new.seen c.as_slice.result.now = subst (AreDesksOf new.seen) (sym c.as_slice.ensures.value) c.enter_try.ensures.desks in
    looks_answered n.start n.told n.passes c.args.now (needs_of c.args.needs.now) c.args.attempt c.answer.result c.args.pass.now new c.answer.new.pass
    c.enter_try.ensures.enters.on (c.answer.ensures.answers c.args.now (needs_of c.args.needs.now) (c.in-Ok-look_for.ensures.found new.seen desks))
