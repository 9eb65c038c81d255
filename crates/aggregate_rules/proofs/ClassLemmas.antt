-- A rule has no output for a path that its first node cannot cover.
use Rattle.std.proofs.Common.{◌≡◌, ◌∙◌, ◌==◌, ◌&&◌, ◌||◌, ℕ, Bool, true, false, if◌then◌else◌, List, [], ◌∷◌, ◌++◌, length, slice_index_or, Option, Some, None, refl, sym, ap, subst, arith}
use Rattle.std.proofs.lemmas.Bool.{and_parts}
use Rattle.std.proofs.lemmas.Bool.Decides.{nat_tests}
use Rattle.std.proofs.lemmas.List.{append-nil}
use Rattle.metric_path.specs.Path.{nodes_of}
use Rattle.aggregate_rules.specs.declared.node.Gap.{Gap}
use Rattle.aggregate_rules.specs.declared.node.Gap.TheVariants.{Closed, Any, Named}
use Rattle.aggregate_rules.specs.declared.node.PatternNode.{PatternNode}
use Rattle.aggregate_rules.specs.Readings.{Fills, covered, output_path, reading}
use Rattle.aggregate_rules.specs.RuleTexts.{RuleValue}
use Rattle.aggregate_rules.specs.RulePlaces.{class_of, class_of_path, front_in, front_of, is_closed, may_fit}
use Rattle.aggregate_rules.proofs.ReadingLemmas.{covers_when}

empty_after : (after : List ℕ) → (length after == 0) ≡ true → after ≡ []
empty_after [] e = refl
empty_after (b ∷ after) e = absurd (grind (arith, nat_tests))

fills_closed : (gap : Gap) (row : List ℕ) → is_closed gap ≡ true → Fills gap row → row ≡ []
fills_closed Closed row e fills = fills
fills_closed Any row e fills = absurd cc
fills_closed Named row e fills = absurd cc

-- a node without a gap covers itself alone
covers_own : (node : PatternNode) (text row : List ℕ) → is_closed node.gap ≡ true → (length node.after == 0) ≡ true → covered node text ≡ Some row → text ≡ node.before
covers_own node text row closed none e =
    let c = covers_when node text row e in
    let nothing : row ≡ [] = fills_closed node.gap row closed c.filled in
    let behind : node.after ≡ [] = empty_after node.after none in
    c.covered ∙ ap (λ r. node.before ++ (r ++ node.after)) nothing ∙ ap (λ a. node.before ++ a) behind ∙ append-nil node.before

class_none : (class_of [] == 0) ≡ true
unfolding class_of
class_none = refl

-- a node of another class than a text's, and not of class 0, does not cover it
covers_not : (node : PatternNode) (text : List ℕ) → (class_of (front_of node) == class_of text) ≡ false → (class_of (front_of node) == 0) ≡ false → covered node text ≡ None
covers_not node text other some = by (is_closed node.gap && length node.after == 0) refl other some
  where
    none_of : (o : Option (List ℕ)) → covered node text ≡ o → ((row : List ℕ) → o ≡ Some row → ⊥) → covered node text ≡ None
    none_of None e not = e
    none_of (Some row) e not = absurd (not row refl)

    by : (b : Bool) → (is_closed node.gap && length node.after == 0) ≡ b → (class_of (if b then node.before else []) == class_of text) ≡ false
        → (class_of (if b then node.before else []) == 0) ≡ false → covered node text ≡ None
    by true e other some =
        let parts = and_parts _ _ e in
        none_of (covered node text) refl (λ row is.
        let same : text ≡ node.before = covers_own node text row parts.0 parts.1 is in
        let apart : (class_of node.before == class_of node.before) ≡ false = subst (λ (t : List ℕ). (class_of node.before == class_of t) ≡ false) same other in
        grind (arith, nat_tests))
    by false e other some = let none = class_none in absurd cc

or_false : (a b : Bool) → (a || b) ≡ false → (a ≡ false) × (b ≡ false)
or_false true b e = absurd cc
or_false false b e = (refl, e)

no_reading : (nodes : List PatternNode) (texts : List (List ℕ)) → ((class_of (front_in nodes) == class_of (slice_index_or texts 0 [])) || (class_of (front_in nodes) == 0)) ≡ false
    → reading [] nodes texts ≡ None
unfolding reading
no_reading [] texts not = let some : (class_of [] == 0) ≡ false = (or_false _ _ not).1 in let both : true ≡ false = sym class_none ∙ some in absurd cc
no_reading (node ∷ nodes) [] not = refl
no_reading (node ∷ nodes) (text ∷ texts) not = let parts = or_false _ _ not in rw (covers_not node text parts.0 parts.1) refl

-- a rule that may not fit a path of this class has no output for it
pub no_output : (rule : RuleValue) (path : List ℕ) → may_fit (class_of_path path) rule ≡ false → output_path rule path ≡ None
unfolding output_path
no_output rule path not = rw (no_reading rule.nodes (nodes_of path) not) refl
