use Rattle.std.proofs.Common.{rules, ◌≡◌, ◌+◌, subst}
use Rattle.std.specs.Prelude.{Err}
use Rattle.shared_store.specs.Asking.{TriesTo}
use Rattle.shared_store.specs.declared.try_end.TryEnd.{TryEnd}
use Rattle.shared_store.specs.declared.try_end.TryEnd.TheVariants.{Moved, Ended}
use Rattle.shared_store.specs.Known.{KnowsBy, needs_of}
use Rattle.shared_store.proofs.AskChainLemmas.{asks_fault, asks_rows, few_more, may_ask, room_left, so_far_more}
use Rattle.shared_store.proofs.AskPassLemmas.{on_both}
use Rattle.shared_store.proofs.KnownLemmas.{all_know, knows_on}
use Rattle.shared_store.proofs.store.Store.ask_wanted.Goals as goal

pub attempt-requires-clause-may : goal.attempt-requires-clause-may
attempt-requires-clause-may g c =
    let n = g.N.Named in
    let v = c.loop-again.invariant in
    may_ask n.start n.told n.passes c.args.now (needs_of c.args.needs.now) c.args.pass.now c.loop-again.again c.loop-again.pass c.requires.room v.few v.made

pub attempt-requires-clause-room : goal.attempt-requires-clause-room
attempt-requires-clause-room g c =
    let n = g.N.Named in
    let v = c.loop-again.invariant in
    room_left n.start n.told n.passes c.args.now (needs_of c.args.needs.now) c.args.pass.now c.loop-again.again c.loop-again.pass c.requires.room v.few v.made

pub returns-in-Ok-clause-asks : goal.returns-in-Ok-clause-asks
returns-in-Ok-clause-asks g c =
    let n = g.N.Named in
    let v = c.loop-again.invariant in
    asks_rows n.start n.told n.passes c.args.now (needs_of c.args.needs.now) c.args.pass.now c.in-Ok.rows c.loop-again.again c.loop-again.pass c.attempt.new.pass v.few v.made c.in-Ok.ensures.tries

pub returns-in-Err-Ended-clause-asks : goal.returns-in-Err-Ended-clause-asks
returns-in-Err-Ended-clause-asks g c =
    let n = g.N.Named in
    let v = c.loop-again.invariant in
    let is : c.in-Err-Ended.field-0 ≡ Ended c.in-Err-Ended.fault = search rules in
    let tries = subst (λ (e : TryEnd). TriesTo n.start n.told n.passes c.args.now (needs_of c.args.needs.now) (c.loop-again.again + 1) (Err e) c.loop-again.pass c.attempt.new.pass) is c.in-Err-Ended.ensures.tries in
    asks_fault n.start n.told n.passes c.args.now (needs_of c.args.needs.now) c.args.pass.now c.in-Err-Ended.fault c.loop-again.again c.loop-again.pass c.attempt.new.pass v.few v.made tries

pub loop-again-preserved : goal.loop-again-preserved
loop-again-preserved g c =
    let n = g.N.Named in
    let v = c.loop-again.invariant in
    let is : c.in-Err-Moved.field-0 ≡ Moved = search rules in
    let tries = subst (λ (e : TryEnd). TriesTo n.start n.told n.passes c.args.now (needs_of c.args.needs.now) (c.loop-again.again + 1) (Err e) c.loop-again.pass c.attempt.new.pass) is c.in-Err-Moved.ensures.tries in
    record {
      few = few_more n.start n.told n.passes c.args.now (needs_of c.args.needs.now) c.args.pass.now c.loop-again.again c.loop-again.pass c.attempt.new.pass tries;
      made = so_far_more n.start n.told n.passes c.args.now (needs_of c.args.needs.now) c.args.pass.now c.loop-again.again c.loop-again.pass c.attempt.new.pass v.made tries;
      looks = on_both c.args.pass.now c.loop-again.pass c.attempt.new.pass v.looks c.attempt.ensures.looks;
    }

pub returns-in-Ok-clause-looks : goal.returns-in-Ok-clause-looks
returns-in-Ok-clause-looks g c = on_both c.args.pass.now c.loop-again.pass c.attempt.new.pass c.loop-again.invariant.looks c.attempt.ensures.looks

pub returns-in-Err-Ended-clause-looks : goal.returns-in-Err-Ended-clause-looks
returns-in-Err-Ended-clause-looks g c = on_both c.args.pass.now c.loop-again.pass c.attempt.new.pass c.loop-again.invariant.looks c.attempt.ensures.looks

pub attempt-requires-clause-known : goal.attempt-requires-clause-known
attempt-requires-clause-known g c =
    let n = g.N.Named in
    let old = c.args.pass.now in
    let mid = c.loop-again.pass in
    all_know (KnowsBy n.start old.looks) (KnowsBy n.start mid.looks) c.args.needs.now (λ names. knows_on n.start old mid names c.loop-again.invariant.looks) c.requires.known
