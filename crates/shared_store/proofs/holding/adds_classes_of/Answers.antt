use Rattle.std.proofs.Common.{◌≡◌, ◌∙◌, ℕ, ◌+◌, List, ◌++◌, ◌∷◌, [], take, length, ◌≤◌, sym, ap, subst, arith}
use Rattle.std.specs.Prelude.{All}
use Rattle.std.proofs.lemmas.Bool.{false≢true}
use Rattle.std.proofs.lemmas.List.{take_all, take_more}
use Rattle.std.proofs.lemmas.List.Elements.{All-push}
use Rattle.carbon_model.specs.Replay.{replay}
use Rattle.carbon_model.specs.State.{State}
use Rattle.shard_core.specs.declared.looked.Looked.{Looked}
use Rattle.shared_store.specs.Held.{IsCovered}
use Rattle.shared_store.proofs.holding.adds_classes_of.Goals as goal
use Rattle.shared_store.proofs.holding.adds_classes_of.Goals.{then-is_missing, else-is_missing}

pub loop-looked-preserved : goal.loop-looked-preserved
loop-looked-preserved g c = λ none list are.
    let s : State = replay g.N.Named.start list in
    let found : List Looked = c.args.found.now in
    let i : ℕ = c.loop-looked.looked-index in
    let looked : Looked = c.looked-item.result in
    let more : take (i + 1) found ≡ take i found ++ looked ∷ [] = take_more found i looked c.loop-looked-test.true ∙ ap (λ (l : Looked). take i found ++ l ∷ []) (sym c.looked-item.is) in
    let covered : All (IsCovered s c.args.held.now) (take i found ++ looked ∷ []) = elim c.if-is_missing.branch [
      | then-is_missing w ↦ absurd (false≢true (sym none ∙ w.adds-is))
      | else-is_missing w ↦ All-push (IsCovered s c.args.held.now) (take i found) looked (c.loop-looked.invariant (sym w.adds-is ∙ none) list are)
          (c.is_missing.ensures.covered w.if-is_missing.false list are)
    ] in
    subst (All (IsCovered s c.args.held.now)) (sym more) covered

pub returns : goal.returns
returns g c = record {
  covered = λ none list are.
      let whole : length c.args.found.now ≤ c.loop-looked.looked-index = omega (arith, c.loop-looked-test.false) in
      subst (All (IsCovered (replay g.N.Named.start list) c.args.held.now)) (take_all c.loop-looked.looked-index c.args.found.now whole) (c.loop-looked.invariant none list are);
}
