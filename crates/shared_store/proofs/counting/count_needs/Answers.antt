use Rattle.std.proofs.Common.{ℕ, List, take, sym, refl, subst}
use Rattle.carbon_model.specs.Replay.{replay}
use Rattle.carbon_model.specs.State.{State}
use Rattle.render_need.specs.declared.need.Need.{Need}
use Rattle.shared_store.specs.Counting.{CountsNeeds}
use Rattle.shared_store.specs.Finds.{NeedFindsValue, needs_in}
use Rattle.shared_store.proofs.AskCountLemmas.{needs_more, needs_none}
use Rattle.shared_store.proofs.FindLemmas.{ends_at, find_at, needs_to}
use Rattle.shared_store.proofs.counting.count_needs.Goals as goal

pub loop-need-init : goal.loop-need-init
loop-need-init g c = λ list h. needs_none (replay g.N.Named.start list) c.args.now _ refl refl

pub loop-need-preserved : goal.loop-need-preserved
loop-need-preserved g c = λ list h.
    let s : State = replay g.N.Named.start list in
    let finds : List NeedFindsValue = c.args.finds.now in
    let find : NeedFindsValue = c.need-item.result in
    let i : ℕ = c.loop-need.need-index in
    let more = needs_to finds i find c.loop-need-test.true c.need-item.is in
    subst (λ (ns : List Need). CountsNeeds s c.args.now ns c.in_ok-count.count) (sym more)
    (needs_more s c.args.now (needs_in (take i finds)) find.need c.loop-need.count c.in_ok-count_need.field-0 c.in_ok-count.count (c.loop-need.invariant list h)
    (c.in_ok-count_need.ensures list (find_at finds i find c.loop-need-test.true c.need-item.is list h)) c.in_ok-count.ensures)

pub count_need-requires-clause-ends : goal.count_need-requires-clause-ends
count_need-requires-clause-ends g c = ends_at c.args.finds.now c.loop-need.need-index c.need-item.result c.loop-need-test.true c.need-item.is c.requires.needs
