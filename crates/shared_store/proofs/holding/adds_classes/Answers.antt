use Rattle.std.proofs.Common.{◌≡◌, ◌∙◌, ℕ, ◌+◌, List, ◌++◌, ◌∷◌, [], take, length, ◌≤◌, sym, ap, subst, arith}
use Rattle.std.specs.Prelude.{All}
use Rattle.std.proofs.lemmas.Bool.{false≢true}
use Rattle.std.proofs.lemmas.List.{take_all, take_more}
use Rattle.std.proofs.lemmas.List.Elements.{All-push}
use Rattle.carbon_model.specs.Replay.{replay}
use Rattle.carbon_model.specs.State.{State}
use Rattle.shard_core.specs.declared.looked.Looked.{Looked}
use Rattle.shared_store.specs.Held.{IsCovered}
use Rattle.shared_store.proofs.holding.adds_classes.Goals as goal
use Rattle.shared_store.proofs.holding.adds_classes.Goals.{then-adds_classes_of, else-adds_classes_of}

pub loop-set-preserved : goal.loop-set-preserved
loop-set-preserved g c = λ none list are.
    let s : State = replay g.N.Named.start list in
    let found : List (List Looked) = c.args.found.now in
    let i : ℕ = c.loop-set.set-index in
    let set : List Looked = c.set-item.result in
    let more : take (i + 1) found ≡ take i found ++ set ∷ [] = take_more found i set c.loop-set-test.true ∙ ap (λ (l : List Looked). take i found ++ l ∷ []) (sym c.set-item.is) in
    let covered : All (All (IsCovered s c.args.held.now)) (take i found ++ set ∷ []) = elim c.if-adds_classes_of.branch [
      | then-adds_classes_of w ↦ absurd (false≢true (sym none ∙ w.adds-is))
      | else-adds_classes_of w ↦ All-push (All (IsCovered s c.args.held.now)) (take i found) set (c.loop-set.invariant (sym w.adds-is ∙ none) list are)
          (subst (All (IsCovered s c.args.held.now)) c.as_slice.ensures (c.adds_classes_of.ensures.covered w.if-adds_classes_of.false list are))
    ] in
    subst (All (All (IsCovered s c.args.held.now))) (sym more) covered

pub returns : goal.returns
returns g c = record {
  covered = λ none list are.
      let whole : length c.args.found.now ≤ c.loop-set.set-index = omega (arith, c.loop-set-test.false) in
      subst (All (All (IsCovered (replay g.N.Named.start list) c.args.held.now))) (take_all c.loop-set.set-index c.args.found.now whole) (c.loop-set.invariant none list are);
}
