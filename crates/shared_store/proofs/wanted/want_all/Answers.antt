use Rattle.std.proofs.Common.{◌≡◌, ◌∙◌, ℕ, ◌+◌, List, [], ◌∷◌, ◌++◌, take, sym, ap, subst}
use Rattle.std.specs.Prelude.{All}
use Rattle.std.proofs.lemmas.List.{map_push, take_more}
use Rattle.std.proofs.lemmas.List.Elements.{All-push}
use Rattle.render_need.specs.declared.need.Need.{Need}
use Rattle.shared_store.specs.Known.{WantedValue, lists_of, needs_of}
use Rattle.shared_store.proofs.wanted.want_all.Goals as goal

pub loop-need-preserved : goal.loop-need-preserved
loop-need-preserved c =
    let v = c.loop-need.invariant in
    let needs : List Need = c.args.needs.now in
    let need : Need = c.need-item.result in
    let i : ℕ = c.loop-need.need-index in
    let before : List WantedValue = c.loop-need.all.items in
    let more : WantedValue = c.in_ok-new.field-0 in
    let items : c.push.new.self.items ≡ before ++ more ∷ [] = c.in_ok-push.ensures.items in
    let here : more.need ≡ need = ap (λ (w : WantedValue). w.need) c.in_ok-new.ensures in
    let taken : take (i + 1) needs ≡ take i needs ++ need ∷ [] = take_more needs i need c.loop-need-test.true ∙ ap (λ (n : Need). take i needs ++ n ∷ []) (sym c.need-item.is) in
    let found : needs_of (before ++ more ∷ []) ≡ take i needs ++ need ∷ [] = map_push (λ (w : WantedValue). w.need) before more ∙ (λ k. v.needs k ++ here k ∷ []) in
    record {
      needs = ap needs_of items ∙ (found ∙ sym taken);
      names = subst (All (λ (w : WantedValue). w.names ≡ lists_of c.args.names.now)) (sym items)
          (All-push (λ (w : WantedValue). w.names ≡ lists_of c.args.names.now) before more v.names (ap (λ (w : WantedValue). w.names) c.in_ok-new.ensures));
    }
