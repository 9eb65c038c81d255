use Rattle.std.proofs.Common.{ℕ, List, [], ◌∷◌, ◌++◌, take, sym, subst}
use Rattle.carbon_model.specs.Replay.{replay}
use Rattle.carbon_model.specs.State.{State}
use Rattle.render_need.specs.declared.need.Need.{Need}
use Rattle.shard_core.specs.declared.looked.Looked.{Looked}
use Rattle.shared_store.specs.Asking.{LooksUp, Pairwise}
use Rattle.shared_store.specs.Finds.{NeedFindsValue, needs_in}
use Rattle.shared_store.proofs.AskFoundLemmas.{pairwise_more}
use Rattle.shared_store.proofs.FindLemmas.{ends_at, find_at, needs_to}
use Rattle.shared_store.proofs.finding.look_all.Goals as goal

pub loop-need-preserved : goal.loop-need-preserved
loop-need-preserved g c = λ list h.
    let s : State = replay g.N.Named.start list in
    let finds : List NeedFindsValue = c.args.finds.now in
    let find : NeedFindsValue = c.need-item.result in
    let i : ℕ = c.loop-need.need-index in
    let sets : List (List Looked) = c.loop-need.sets.items in
    let more = needs_to finds i find c.loop-need-test.true c.need-item.is in
    subst (λ (ns : List Need). Pairwise (LooksUp s c.args.now) ns c.push.new.self.items) (sym more)
    (subst (λ (l : List (List Looked)). Pairwise (LooksUp s c.args.now) (needs_in (take i finds) ++ find.need ∷ []) l) (sym c.in_ok-push.ensures.items)
    (pairwise_more (LooksUp s c.args.now) (needs_in (take i finds)) sets find.need c.in_ok-set.set (c.loop-need.invariant list h)
    (c.in_ok-set.ensures list (find_at finds i find c.loop-need-test.true c.need-item.is list h))))

pub look-requires-clause-ends : goal.look-requires-clause-ends
look-requires-clause-ends g c = ends_at c.args.finds.now c.loop-need.need-index c.need-item.result c.loop-need-test.true c.need-item.is c.requires.needs
