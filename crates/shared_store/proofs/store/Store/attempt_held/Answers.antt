use Rattle.std.proofs.Common.{◌≡◌, List, Option, length, sym, subst, arith}
use Rattle.std.specs.Prelude.{All, Err}
use Rattle.std.specs.declared.sync.MutexGuard.{MutexGuard}
use Rattle.carbon_model.specs.Replay.{replay}
use Rattle.carbon_model.specs.State.{State}
use Rattle.shared_store.specs.Asking.{AreDesksOf, EntersTries, FindsSets, SeesMore}
use Rattle.shared_store.specs.Desks.{DeskValue}
use Rattle.shared_store.specs.Held.{IsCovered, IsLookIn}
use Rattle.shared_store.specs.Known.{AllKnow, KnowsAt, KnowsBy, needs_of}
use Rattle.shared_store.specs.Locks.{FilesValue}
use Rattle.shared_store.specs.declared.try_end.TryEnd.TheVariants.{Ended}
use Rattle.shared_store.proofs.AskChainLemmas.{looks_answered, try_answered}
use Rattle.shared_store.proofs.AskPassLemmas.{desks_too, more_both, on_both, only_itself, tries_later}
use Rattle.shared_store.proofs.AskReadLemmas.{answers_counts}
use Rattle.shared_store.proofs.HoldLemmas.{sets_in}
use Rattle.shared_store.proofs.KnownLemmas.{all_know, knows_at, knows_seen}
use Rattle.shared_store.proofs.store.Store.attempt_held.Goals as goal

pub look_for-requires-clause-desks : goal.look_for-requires-clause-desks
look_for-requires-clause-desks g c = λ k d less.
    let seen = c.see_desks.new.pass.seen in
    let are : AreDesksOf seen c.as_slice.result.now = subst (AreDesksOf seen) (sym c.as_slice.ensures.value) (c.meet_all.ensures.desks seen c.see_desks.ensures.desks) in
    (are k d less).class

pub look_for-requires-clause-known : goal.look_for-requires-clause-known
look_for-requires-clause-known g c =
    let n = g.N.Named in
    let old = c.args.pass.now in
    let mid = c.see_desks.new.pass in
    let desks = c.meet_all.new.desks.items in
    let are : AreDesksOf mid.seen desks = c.meet_all.ensures.desks mid.seen c.see_desks.ensures.desks in
    let sixteen : length desks ≡ 16 = omega (arith, c.meet_all.ensures.sixteen.0, c.meet_all.new.desks.ok.0) in
    let at : AllKnow (KnowsAt n.start desks) c.args.needs.now = all_know (KnowsBy n.start old.looks) (KnowsAt n.start desks) c.args.needs.now
    (λ names knows. knows_at n.start mid.seen desks names (are, sixteen) (knows_seen n.start old mid names c.see_desks.ensures.sees knows)) c.requires.known in
    subst (λ (l : List (MutexGuard DeskValue)). AllKnow (KnowsAt n.start l) c.args.needs.now) (sym c.as_slice.ensures.value) at

pub enter_try-requires-clause-desks : goal.enter_try-requires-clause-desks
enter_try-requires-clause-desks g c = λ k d less. (c.meet_all.ensures.desks c.see_desks.new.pass.seen c.see_desks.ensures.desks k d less).class

pub returns-in-Err-clause-tries : goal.returns-in-Err-clause-tries
returns-in-Err-clause-tries g c = λ first more.
    let n = g.N.Named in
    let mid = c.see_desks.new.pass in
    let new = c.enter_try.new.pass in
    let desks = c.meet_all.new.desks.items in
    let are : AreDesksOf mid.seen desks = c.meet_all.ensures.desks mid.seen c.see_desks.ensures.desks in
    let sixteen : length desks ≡ 16 = omega (arith, c.meet_all.ensures.sixteen.0, c.meet_all.new.desks.ok.0) in
    let others : length c.enter_try.new.desks.items ≡ 16 = omega (arith, c.enter_try.ensures.sixteen, c.enter_try.new.desks.ok.0) in
    let too : AreDesksOf new.seen desks = desks_too mid.seen new.seen c.enter_try.new.desks.items desks others sixteen (c.enter_try.ensures.still mid.seen are) c.enter_try.ensures.desks are in
    let slice : AreDesksOf new.seen c.as_slice.result.now = subst (AreDesksOf new.seen) (sym c.as_slice.ensures.value) too in
    let all : SeesMore first mid = more_both first c.args.pass.now mid more c.see_desks.ensures.sees.more in
    let enters : EntersTries n.start n.passes c.args.now c.args.attempt first new = tries_later n.start n.passes c.args.now c.args.attempt first mid new all c.enter_try.ensures.enters in
    try_answered n.start n.told n.passes c.args.now (needs_of c.args.needs.now) c.args.attempt (Err (Ended c.in-Err.fault)) first new new enters
    (answers_counts n.start n.told n.passes c.args.now (needs_of c.args.needs.now) new c.in-Err.fault (c.in-Err.ensures.fault new.seen slice) (only_itself new)) (λ third. tt)

pub returns-in-Err-clause-looks : goal.returns-in-Err-clause-looks
returns-in-Err-clause-looks g c =
    on_both c.args.pass.now c.see_desks.new.pass c.enter_try.new.pass c.see_desks.ensures.sees.more.on c.enter_try.ensures.enters.on

pub adds_classes-requires-clause-looks : goal.adds_classes-requires-clause-looks
adds_classes-requires-clause-looks g c =
    let n = g.N.Named in
    let seen = c.see_desks.new.pass.seen in
    let desks = c.meet_all.new.desks.items in
    let are : AreDesksOf seen desks = c.meet_all.ensures.desks seen c.see_desks.ensures.desks in
    let sixteen : length desks ≡ 16 = omega (arith, c.meet_all.ensures.sixteen.0, c.meet_all.new.desks.ok.0) in
    let finds : FindsSets (replay n.start seen) c.args.now (needs_of c.args.needs.now) c.in-Ok-look_for.found.items =
    c.in-Ok-look_for.ensures.found seen (subst (AreDesksOf seen) (sym c.as_slice.ensures.value) are) in
    let looks = sets_in n.start seen desks c.args.now (needs_of c.args.needs.now) c.in-Ok-look_for.found.items (are, sixteen) finds in
    subst (λ (l : List (MutexGuard DeskValue)). All (All (IsLookIn n.start l)) c.as_slice-4.result.now) (sym c.as_slice-3.ensures.value)
    (subst (All (All (IsLookIn n.start desks))) (sym c.as_slice-4.ensures.value) looks)

pub enter_try-requires-2-clause-desks : goal.enter_try-requires-2-clause-desks
enter_try-requires-2-clause-desks g c = λ k d less. (c.meet_all.ensures.desks c.see_desks.new.pass.seen c.see_desks.ensures.desks k d less).class

pub answer-requires-clause-held : goal.answer-requires-clause-held
answer-requires-clause-held g c =
    let seen = c.see_desks.new.pass.seen in
    let new = c.enter_try-2.new.pass in
    let desks = c.see_desks.new.desks.items in
    let are : AreDesksOf seen desks = c.see_desks.ensures.desks in
    let sixteen : length desks ≡ 16 = omega (arith, c.see_desks.ensures.sixteen, c.see_desks.new.desks.ok.0) in
    let others : length c.enter_try-2.new.desks.items ≡ 16 = omega (arith, c.enter_try-2.ensures.sixteen, c.enter_try-2.new.desks.ok.0) in
    c.meet_all.ensures.held new.seen
    (desks_too seen new.seen c.enter_try-2.new.desks.items desks others sixteen (c.enter_try-2.ensures.still seen (c.meet_all.ensures.desks seen are)) c.enter_try-2.ensures.desks are)

pub answer-requires-clause-found : goal.answer-requires-clause-found
answer-requires-clause-found g c =
    let seen = c.see_desks.new.pass.seen in
    let new = c.enter_try-2.new.pass in
    let desks = c.meet_all.new.desks.items in
    let are : AreDesksOf seen desks = c.meet_all.ensures.desks seen c.see_desks.ensures.desks in
    let sixteen : length desks ≡ 16 = omega (arith, c.meet_all.ensures.sixteen.0, c.meet_all.new.desks.ok.0) in
    let others : length c.enter_try-2.new.desks.items ≡ 16 = omega (arith, c.enter_try-2.ensures.sixteen, c.enter_try-2.new.desks.ok.0) in
    let too : AreDesksOf new.seen desks = desks_too seen new.seen c.enter_try-2.new.desks.items desks others sixteen (c.enter_try-2.ensures.still seen are) c.enter_try-2.ensures.desks are in
    record {
      now = c.args.now;
      needs = needs_of c.args.needs.now;
      finds = c.in-Ok-look_for.ensures.found new.seen (subst (AreDesksOf new.seen) (sym c.as_slice.ensures.value) too);
    }

pub answer-requires-clause-covered : goal.answer-requires-clause-covered
answer-requires-clause-covered g c =
    let seen = c.see_desks.new.pass.seen in
    let new = c.enter_try-2.new.pass in
    let s : State = replay g.N.Named.start new.seen in
    let desks = c.meet_all.new.desks.items in
    let are : AreDesksOf seen desks = c.meet_all.ensures.desks seen c.see_desks.ensures.desks in
    let sixteen : length desks ≡ 16 = omega (arith, c.meet_all.ensures.sixteen.0, c.meet_all.new.desks.ok.0) in
    let others : length c.enter_try-2.new.desks.items ≡ 16 = omega (arith, c.enter_try-2.ensures.sixteen, c.enter_try-2.new.desks.ok.0) in
    let too : AreDesksOf new.seen desks = desks_too seen new.seen c.enter_try-2.new.desks.items desks others sixteen (c.enter_try-2.ensures.still seen are) c.enter_try-2.ensures.desks are in
    let covered : All (All (IsCovered s c.as_slice-2.result.now)) c.as_slice-4.result.now =
    c.adds_classes.ensures.covered c.if-adds_classes.false new.seen (subst (AreDesksOf new.seen) (sym c.as_slice-3.ensures.value) too) in
    subst (λ (l : List (Option (MutexGuard FilesValue))). All (All (IsCovered s l)) c.in-Ok-look_for.found.items) c.as_slice-2.ensures.value
    (subst (All (All (IsCovered s c.as_slice-2.result.now))) c.as_slice-4.ensures.value covered)

pub returns-clause-tries : goal.returns-clause-tries
returns-clause-tries g c = λ first more.
    let n = g.N.Named in
    let mid = c.see_desks.new.pass in
    let new = c.enter_try-2.new.pass in
    let desks = c.meet_all.new.desks.items in
    let are : AreDesksOf mid.seen desks = c.meet_all.ensures.desks mid.seen c.see_desks.ensures.desks in
    let sixteen : length desks ≡ 16 = omega (arith, c.meet_all.ensures.sixteen.0, c.meet_all.new.desks.ok.0) in
    let others : length c.enter_try-2.new.desks.items ≡ 16 = omega (arith, c.enter_try-2.ensures.sixteen, c.enter_try-2.new.desks.ok.0) in
    let too : AreDesksOf new.seen desks = desks_too mid.seen new.seen c.enter_try-2.new.desks.items desks others sixteen (c.enter_try-2.ensures.still mid.seen are) c.enter_try-2.ensures.desks are in
    let finds = c.in-Ok-look_for.ensures.found new.seen (subst (AreDesksOf new.seen) (sym c.as_slice.ensures.value) too) in
    let all : SeesMore first mid = more_both first c.args.pass.now mid more c.see_desks.ensures.sees.more in
    let enters : EntersTries n.start n.passes c.args.now c.args.attempt first new = tries_later n.start n.passes c.args.now c.args.attempt first mid new all c.enter_try-2.ensures.enters in
    try_answered n.start n.told n.passes c.args.now (needs_of c.args.needs.now) c.args.attempt c.answer.result first new c.answer.new.pass enters
    (c.answer.ensures.answers c.args.now (needs_of c.args.needs.now) finds) (λ third. c.answer.ensures.still (omega (arith, c.meet_all.ensures.sixteen.1)))

pub returns-clause-looks : goal.returns-clause-looks
returns-clause-looks g c =
    let n = g.N.Named in
    let mid = c.see_desks.new.pass in
    let new = c.enter_try-2.new.pass in
    let desks = c.meet_all.new.desks.items in
    let are : AreDesksOf mid.seen desks = c.meet_all.ensures.desks mid.seen c.see_desks.ensures.desks in
    let sixteen : length desks ≡ 16 = omega (arith, c.meet_all.ensures.sixteen.0, c.meet_all.new.desks.ok.0) in
    let others : length c.enter_try-2.new.desks.items ≡ 16 = omega (arith, c.enter_try-2.ensures.sixteen, c.enter_try-2.new.desks.ok.0) in
    let too : AreDesksOf new.seen desks = desks_too mid.seen new.seen c.enter_try-2.new.desks.items desks others sixteen (c.enter_try-2.ensures.still mid.seen are) c.enter_try-2.ensures.desks are in
    let finds = c.in-Ok-look_for.ensures.found new.seen (subst (AreDesksOf new.seen) (sym c.as_slice.ensures.value) too) in
    looks_answered n.start n.told n.passes c.args.now (needs_of c.args.needs.now) c.args.attempt c.answer.result c.args.pass.now new c.answer.new.pass
    (on_both c.args.pass.now mid new c.see_desks.ensures.sees.more.on c.enter_try-2.ensures.enters.on) (c.answer.ensures.answers c.args.now (needs_of c.args.needs.now) finds)
