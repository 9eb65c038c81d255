use Rattle.std.proofs.Common.{◌≡◌, ◌≢◌, Less, ℕ, ◌+◌, Bool, false, List, [], ◌∷◌, ◌++◌, All, ap₂, length, sym, subst, take, ◌∙◌}
use Rattle.std.proofs.lemmas.Map.Keys.{sorted_tail}
use Rattle.find_api.specs.Nodes.{Tells}
use Rattle.find_api.proofs.FindLemmas.{behind_branch, branch_front}
use Rattle.path_glob.proofs.FrontLemmas.{later_from, order}
use Rattle.find_api.proofs.find.behind_node.Goals as goal

pub behind_run-requires-clause-rising : goal.behind_run-requires-clause-rising
behind_run-requires-clause-rising c = sorted_tail order c.args.name.now c.args.others.now c.requires.rising

pub behind_run-requires-clause-from : goal.behind_run-requires-clause-from
behind_run-requires-clause-from c =
    let path = c.args.node.now.path in
    let name = c.args.name.now in
    let tells : Tells false path name = subst (λ (leaf : Bool). Tells leaf path name) c.if-node.false c.requires.tells in
    let front : take (length c.text-2.result.now + 1) c.text.result.now ≡ path ++ 46 ∷ [] =
    ap₂ (λ (p : List ℕ) (n : List ℕ). take (length p + 1) n) c.text-2.ensures.value c.text.ensures.value ∙ branch_front path name tells in
    let here : order name (path ++ 46 ∷ []) ≢ Less =
    subst (λ (n : List ℕ). order n (path ++ 46 ∷ []) ≢ Less) (sym tells.1) (c.texts_with_one_front_stand_together.ensures.from (path ++ 46 ∷ []) tells.0) in
    subst (λ (f : List ℕ). All (λ x. order x f ≢ Less) c.args.others.now) (sym front) (later_from (path ++ 46 ∷ []) name c.args.others.now here c.requires.rising)

pub returns : goal.returns
returns c =
    let path = c.args.node.now.path in
    let name = c.args.name.now in
    let tells : Tells false path name = subst (λ (leaf : Bool). Tells leaf path name) c.if-node.false c.requires.tells in
    let front : take (length c.text-2.result.now + 1) c.text.result.now ≡ path ++ 46 ∷ [] =
    ap₂ (λ (p : List ℕ) (n : List ℕ). take (length p + 1) n) c.text-2.ensures.value c.text.ensures.value ∙ branch_front path name tells in
    behind_branch c.args.node.now _ c.args.others.now c.behind_run.result.now c.if-node.false front c.behind_run.ensures
