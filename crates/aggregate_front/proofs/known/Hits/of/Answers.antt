use Rattle.std.proofs.Common.{◌≡◌, ◌∙◌, ◌++◌, ◌∷◌, ◌<◌, ℕ, All, ap, append_assoc, arith, get_or, length, subst, sym}
use Rattle.std.proofs.lemmas.List.Elements.{All-head, All-tail}
use Rattle.aggregate_rules.specs.RulePlaces.{class_of_path, may_fit}
use Rattle.aggregate_rules.proofs.PlaceLemmas.{places_within}
use Rattle.aggregate_front.proofs.KnownLemmas.{hits_are_at, hits_at, hits_step}
use Rattle.aggregate_front.proofs.known.Hits.of.Goals as goal

pub loop-next-init : goal.loop-next-init
loop-next-init c =
    let rules = c.args.rules.now in
    record {
      same = rw (c.new-items.ensures.items, c.places_for-places.ensures) (hits_are_at rules c.args.path.now);
      within = rw c.places_for-places.ensures (places_within (may_fit (class_of_path c.args.path.now)) 0 (length rules) rules (omega arith));
    }

pub loop-next-preserved : goal.loop-next-preserved
loop-next-preserved c =
    let rules = c.args.rules.now in
    let path = c.args.path.now in
    let place = c.in-Some.place in
    let rest = c.next.new.self in
    let rule = c.index-as_slice-place.result in
    let within : All (λ (at : ℕ). at < length rules) (place ∷ rest) = subst (All (λ (at : ℕ). at < length rules)) c.in-Some.ensures c.loop-next.invariant.within in
    let lt : place < length rules = All-head (λ (at : ℕ). at < length rules) place rest within in
    let is : rule ≡ get_or rules place rule = rw c.as_slice.ensures at c.index-as_slice-place.is in
    record {
      same = rw (c.in_ok-push_hit.ensures, c.in_ok-hit.ensures)
          (c.loop-next.invariant.same
          ∙ ap (λ l. c.loop-next.items.items ++ l) (ap (hits_at rules path) c.in-Some.ensures ∙ hits_step rules path place rest rule lt is)
          ∙ sym (append_assoc c.loop-next.items.items _ _));
      within = All-tail (λ (at : ℕ). at < length rules) place rest within;
    }
