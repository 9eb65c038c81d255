use Rattle.std.proofs.Common.{◌≡◌, ◌∙◌, ℕ, ◌+◌, Global, Vec, List, [], ◌∷◌, ◌++◌, map, take, sym, ap, subst}
use Rattle.std.specs.Prelude.{All}
use Rattle.std.proofs.lemmas.List.{map_more, map_push}
use Rattle.std.proofs.lemmas.List.Elements.{All-push}
use Rattle.metric_index.specs.Searched.{SearchedValue}
use Rattle.shared_store.specs.Known.{lists_of}
use Rattle.shared_store.proofs.wanted.search_classes.Goals as goal

pub loop-paths-preserved : goal.loop-paths-preserved
loop-paths-preserved c =
    let v = c.loop-paths.invariant in
    let names : List (Vec (List ℕ) Global) = c.args.names.now in
    let list : Vec (List ℕ) Global = c.paths-item.result in
    let i : ℕ = c.loop-paths.paths-index in
    let before : List SearchedValue = c.loop-paths.all.items in
    let more : SearchedValue = c.in_ok-of_names.field-0 in
    let items : c.push.new.self.items ≡ before ++ more ∷ [] = c.in_ok-push.ensures.items in
    let here : more.names ≡ list.items = ap (λ (s : SearchedValue). s.names) c.in_ok-of_names.ensures.searched ∙ c.deref.ensures.value in
    let taken : lists_of (take (i + 1) names) ≡ lists_of (take i names) ++ list.items ∷ [] =
    map_more (λ (l : Vec (List ℕ) Global). l.items) names i list c.loop-paths-test.true ∙ ap (λ (l : Vec (List ℕ) Global). lists_of (take i names) ++ l.items ∷ []) (sym c.paths-item.is) in
    let found : map (λ (s : SearchedValue). s.names) (before ++ more ∷ []) ≡ lists_of (take i names) ++ list.items ∷ [] =
    map_push (λ (s : SearchedValue). s.names) before more ∙ (λ k. v.names k ++ here k ∷ []) in
    record {
      have = subst (All (λ (s : SearchedValue). s.glob ≡ c.args.need.now.glob)) (sym items)
          (All-push (λ (s : SearchedValue). s.glob ≡ c.args.need.now.glob) before more v.have (ap (λ (s : SearchedValue). s.glob) c.in_ok-of_names.ensures.searched));
      names = ap (map (λ (s : SearchedValue). s.names)) items ∙ (found ∙ sym taken);
      same = c.of_names.ensures.search ∙ v.same;
    }
