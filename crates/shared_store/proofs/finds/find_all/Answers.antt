use Rattle.std.proofs.Common.{◌≡◌, ◌∙◌, ℕ, ◌+◌, List, [], ◌∷◌, ◌++◌, take, sym, ap, subst}
use Rattle.std.specs.Prelude.{All}
use Rattle.std.proofs.lemmas.List.{map_more}
use Rattle.std.proofs.lemmas.List.Elements.{All-push}
use Rattle.shared_store.specs.Finds.{AreFindsOf, NeedFindsValue, needs_in}
use Rattle.shared_store.specs.Known.{KnowsAt, WantedValue, needs_of}
use Rattle.shared_store.proofs.FindLemmas.{needs_append}
use Rattle.shared_store.proofs.KnownLemmas.{one_knows}
use Rattle.shared_store.proofs.finds.find_all.Goals as goal

pub loop-wanted-preserved : goal.loop-wanted-preserved
loop-wanted-preserved g c =
    let wanted : List WantedValue = c.args.needs.now in
    let one : WantedValue = c.wanted-item.result in
    let i : ℕ = c.loop-wanted.wanted-index in
    let finds : List NeedFindsValue = c.loop-wanted.finds.items in
    let more : NeedFindsValue = c.in_ok-find.field-0 in
    let before = c.loop-wanted.invariant in
    let taken : needs_of (take (i + 1) wanted) ≡ needs_of (take i wanted) ++ one.need ∷ [] =
    map_more (λ (w : WantedValue). w.need) wanted i one c.loop-wanted-test.true ∙ ap (λ (w : WantedValue). needs_of (take i wanted) ++ w.need ∷ []) (sym c.wanted-item.is) in
    let found : needs_in (finds ++ more ∷ []) ≡ needs_of (take i wanted) ++ one.need ∷ [] =
    needs_append finds (more ∷ []) ∙ (λ k. before.needs k ++ c.in_ok-find.ensures.need k ∷ []) in
    record {
      needs = ap needs_in c.in_ok-push.ensures.items ∙ (found ∙ sym taken);
      each = λ list h. subst (All (AreFindsOf list)) (sym c.in_ok-push.ensures.items) (All-push (AreFindsOf list) finds more (before.each list h) (c.in_ok-find.ensures.finds list h));
    }

pub find-requires-clause-known : goal.find-requires-clause-known
find-requires-clause-known g c = one_knows (KnowsAt g.N.Named.start c.args.desks.now) c.args.needs.now c.loop-wanted.wanted-index c.wanted-item.result c.loop-wanted-test.true c.wanted-item.is c.requires.known
