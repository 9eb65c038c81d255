-- What a plan makes of rows is one: evaluation never leaves a choice.
use Rattle.std.proofs.Common.{◌≡◌, ◌∙◌, ℕ, ℤ, Bool, true, false, List, Option, Some, None, Result, Ok, Err, drop, take, refl, sym, ap, subst, true≢false, arith, int_lt}
use Rattle.std.specs.Cmp.{IsStrictWeakOrder}
use Rattle.std.proofs.lemmas.Int.{ints}
use Rattle.series_set.specs.Series.{SeriesValue}
use Rattle.series_set.specs.declared.grid.EvalFault.{EvalFault}
use Rattle.series_pick.specs.Chosen.{Chooses, SelectsFirst, Sorts, by_name}
use Rattle.series_pick.specs.Measures.{measure_of}
use Rattle.series_pick.specs.declared.kinds.Choose.{Choose}
use Rattle.series_pick.specs.declared.kinds.Choose.TheVariants as choose
use Rattle.series_pick.proofs.OrderLemmas.{by_name_ranks}
use Rattle.render_plan.specs.declared.operation.Operation.{Operation}
use Rattle.render_plan.specs.declared.operation.Operation.TheVariants as operation
use Rattle.render_plan.specs.Planned.{Plan}
use Rattle.render_plan.specs.Terms.{Term, Terms, Fetch, Apply, NoTerms, WithTerm, all_terms}
use Rattle.render_plan.specs.Values.{Answers, Applies, GoesOn, HasValue, HaveValues, IsOkWith, Rows, answer_of, nth, path_count, set_before}
use Rattle.answer_law.proofs.SortLemmas.{sorted_once}

-- ---- orders

-- which of two numbers that there may be comes first: what has none comes last
abbrev rising : Option ℤ → Option ℤ → Bool
rising (Some a) (Some b) = int_lt a b
rising (Some a) None = true
rising None other = false

abbrev falling : Option ℤ → Option ℤ → Bool
falling (Some a) (Some b) = int_lt b a
falling (Some a) None = true
falling None other = false

rising_ranks : IsStrictWeakOrder rising
rising_ranks = record { one_way = one_way; chain = chained }
  where
    one_way : (p q : Option ℤ) → rising p q ≡ true → rising q p ≡ false
    one_way None q is = absurd (true≢false (sym is))
    one_way (Some a) None is = refl
    one_way (Some a) (Some b) is = grind (arith, ints, is)

    chained : (p q r : Option ℤ) → rising p q ≡ false → rising q r ≡ false → rising p r ≡ false
    chained None q r one other = refl
    chained (Some a) None r one other = absurd (true≢false one)
    chained (Some a) (Some b) None one other = absurd (true≢false other)
    chained (Some a) (Some b) (Some c) one other = grind (arith, ints, one, other)

falling_ranks : IsStrictWeakOrder falling
falling_ranks = record { one_way = one_way; chain = chained }
  where
    one_way : (p q : Option ℤ) → falling p q ≡ true → falling q p ≡ false
    one_way None q is = absurd (true≢false (sym is))
    one_way (Some a) None is = refl
    one_way (Some a) (Some b) is = grind (arith, ints, is)

    chained : (p q r : Option ℤ) → falling p q ≡ false → falling q r ≡ false → falling p r ≡ false
    chained None q r one other = refl
    chained (Some a) None r one other = absurd (true≢false one)
    chained (Some a) (Some b) None one other = absurd (true≢false other)
    chained (Some a) (Some b) (Some c) one other = grind (arith, ints, one, other)

one_sort : (before : SeriesValue → SeriesValue → Bool) → IsStrictWeakOrder before → (set xs ys : List SeriesValue) → Sorts before set xs → Sorts before set ys → xs ≡ ys
one_sort before order set xs ys one other = sorted_once before order set xs ys one.ordered one.stable other.ordered other.stable

-- ---- choices

-- by a measure of whatever kind
module _ {A : Type 0} (before : Option ℤ → Option ℤ → Bool) (order : IsStrictWeakOrder before) (measure_of : A → SeriesValue → Option ℤ) (measure : A) where
  sorts_once : (set xs ys : List SeriesValue)
      → Sorts (λ s other. before (measure_of measure s) (measure_of measure other)) set xs
      → Sorts (λ s other. before (measure_of measure s) (measure_of measure other)) set ys → xs ≡ ys
  sorts_once set xs ys one other =
      one_sort (λ s other. before (measure_of measure s) (measure_of measure other))
      (record {
        one_way = λ x y is. order.one_way (measure_of measure x) (measure_of measure y) is;
        chain = λ x y z p q. order.chain (measure_of measure x) (measure_of measure y) (measure_of measure z) p q;
      })
      set xs ys one other

  first_once : (most : ℕ) (set xs ys : List SeriesValue)
      → SelectsFirst most (λ s other. before (measure_of measure s) (measure_of measure other)) set xs
      → SelectsFirst most (λ s other. before (measure_of measure s) (measure_of measure other)) set ys → xs ≡ ys
  first_once most set xs ys one other = one.2 ∙ (ap (take most) (sorts_once set one.0 other.0 one.1 other.1) ∙ sym other.2)

chosen_once : (kind : Choose) (set xs ys : List SeriesValue) → Chooses kind set xs → Chooses kind set ys → xs ≡ ys
chosen_once (choose.Alias name) set xs ys one other = one ∙ sym other
chosen_once (choose.AliasByNode numbers) set xs ys one other = one ∙ sym other
chosen_once choose.AliasByMetric set xs ys one other = one ∙ sym other
chosen_once (choose.Limit most) set xs ys one other = one ∙ sym other
chosen_once choose.SortByName set xs ys one other = one_sort by_name by_name_ranks set xs ys one other
chosen_once choose.SortByMaxima set xs ys one other = sorts_once falling falling_ranks measure_of _ set xs ys one other
chosen_once choose.SortByTotal set xs ys one other = sorts_once falling falling_ranks measure_of _ set xs ys one other
chosen_once choose.SortByMinima set xs ys one other = sorts_once rising rising_ranks measure_of _ set xs ys one other
chosen_once (choose.HighestMax most) set xs ys one other = first_once falling falling_ranks measure_of _ most set xs ys one other
chosen_once (choose.HighestCurrent most) set xs ys one other = first_once falling falling_ranks measure_of _ most set xs ys one other
chosen_once (choose.HighestAverage most) set xs ys one other = first_once falling falling_ranks measure_of _ most set xs ys one other
chosen_once (choose.LowestCurrent most) set xs ys one other = first_once rising rising_ranks measure_of _ most set xs ys one other
chosen_once (choose.LowestAverage most) set xs ys one other = first_once rising rising_ranks measure_of _ most set xs ys one other
chosen_once (choose.MaximumAbove bound) set xs ys one other = one ∙ sym other
chosen_once (choose.MinimumAbove bound) set xs ys one other = one ∙ sym other
chosen_once (choose.CurrentAbove bound) set xs ys one other = one ∙ sym other
chosen_once (choose.AverageAbove bound) set xs ys one other = one ∙ sym other
chosen_once (choose.MaximumBelow bound) set xs ys one other = one ∙ sym other
chosen_once (choose.MinimumBelow bound) set xs ys one other = one ∙ sym other
chosen_once (choose.CurrentBelow bound) set xs ys one other = one ∙ sym other
chosen_once (choose.AverageBelow bound) set xs ys one other = one ∙ sym other
chosen_once choose.RemoveEmptySeries set xs ys one other = one ∙ sym other
chosen_once (choose.Grep pattern) set xs ys one other = one ∙ sym other
chosen_once (choose.Exclude pattern) set xs ys one other = one ∙ sym other
chosen_once (choose.AliasSub pattern replacement) set xs ys one other = one ∙ sym other

-- ---- calls

ok_once : (kind : Choose) (set : List SeriesValue) (a b : Result (List SeriesValue) EvalFault)
    → IsOkWith a (Chooses kind set) → IsOkWith b (Chooses kind set) → a ≡ b
ok_once kind set (Ok xs) (Ok ys) one other = ap (λ (zs : List SeriesValue). Ok zs) (chosen_once kind set xs ys one other)
ok_once kind set (Ok xs) (Err fault) one other = absurd other
ok_once kind set (Err fault) b one other = absurd one

applied_once : (call : Operation) (sets : Rows) (a b : Result (List SeriesValue) EvalFault) → Applies call sets a → Applies call sets b → a ≡ b
applied_once (operation.Combine kind name path) sets a b one other = sym one ∙ other
applied_once operation.Divide sets a b one other = sym one ∙ other
applied_once operation.Group sets a b one other = sym one ∙ other
applied_once operation.Fallback sets a b one other = sym one ∙ other
applied_once (operation.Shape kind function tail) sets a b one other = sym one ∙ other
applied_once (operation.Choose kind) sets a b one other = ok_once kind (nth sets 0) a b one other
applied_once (operation.Regroup kind) sets a b one other = sym one ∙ other

-- what goes on from one value comes to one end
goes_on_once : {A B : Type 0} (next : A → Result B EvalFault → Type 0)
    → ((x : A) (a b : Result B EvalFault) → next x a → next x b → a ≡ b)
    → (value : Result A EvalFault) (a b : Result B EvalFault) → GoesOn value next a → GoesOn value next b → a ≡ b
goes_on_once next once (Ok x) a b one other = once x a b one other
goes_on_once next once (Err fault) a b one other = one ∙ sym other

-- ---- targets

mutual
  value_once : (term : Term) (rows : Rows) (a b : Result (List SeriesValue) EvalFault) → HasValue term rows a → HasValue term rows b → a ≡ b
  value_once (Fetch glob) rows a b one other = one ∙ sym other
  value_once (Apply call terms) rows a b one other =
      let same : other.0 ≡ one.0 = values_once terms rows other.0 one.0 other.1 one.1 in
      goes_on_once (Applies call) (applied_once call) one.0 a b one.2
      (subst (λ (sets : Result Rows EvalFault). GoesOn sets (Applies call) b) same other.2)

  values_once : (terms : Terms) (rows : Rows) (a b : Result Rows EvalFault) → HaveValues terms rows a → HaveValues terms rows b → a ≡ b
  values_once NoTerms rows a b one other = one ∙ sym other
  values_once (WithTerm term terms) rows a b one other =
      let next : List SeriesValue → Result Rows EvalFault → Type 0 =
      λ set whole. (others : Result Rows EvalFault) × HaveValues terms (drop (path_count term) rows) others × (whole ≡ set_before set others) in
      let same : other.0 ≡ one.0 = value_once term rows other.0 one.0 other.1 one.1 in
      goes_on_once next (λ set x y p q. p.2 ∙ (ap (set_before set) (values_once terms (drop (path_count term) rows) p.0 q.0 p.1 q.1) ∙ sym q.2)) one.0 a b one.2
      (subst (λ (set : Result (List SeriesValue) EvalFault). GoesOn set next b) same other.2)

pub answer_once : (plan : Plan) (rows : Rows) (a b : Result (List SeriesValue) EvalFault) → Answers plan rows a → Answers plan rows b → a ≡ b
answer_once plan rows a b one other =
    one.2 ∙ (ap (answer_of plan) (values_once (all_terms plan.targets) rows one.0 other.0 one.1 other.1) ∙ sym other.2)
