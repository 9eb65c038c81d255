-- Series that are chosen among others are no more, and end no later.
use Rattle.std.proofs.Common.{◌≡◌, ℕ, ◌+◌, List, All, take, sym, subst, arith}
use Rattle.std.specs.List.Sorted.{IsPermutation}
use Rattle.std.proofs.lemmas.List.Elements.{All-take}
use Rattle.series_set.specs.Series.{SeriesValue}
use Rattle.series_pick.specs.Chosen.{Chooses}
use Rattle.series_pick.specs.declared.kinds.Choose.{Choose}
use Rattle.series_pick.specs.declared.kinds.Choose.TheVariants.{Alias, AliasByNode, AliasByMetric, Limit, SortByName, SortByMaxima, SortByTotal, SortByMinima, HighestMax, HighestCurrent, HighestAverage, LowestCurrent, LowestAverage, MaximumAbove, MinimumAbove, CurrentAbove, AverageAbove, MaximumBelow, MinimumBelow, CurrentBelow, AverageBelow, RemoveEmptySeries, Grep, Exclude, AliasSub}
use Rattle.time_range.specs.SpanOf.{latest}
use Rattle.render_plan.specs.Bounds.{IsEarly, IsMade}
use Rattle.render_plan.proofs.MadeLemmas.{made_of_filtered, made_of_mapped, made_of_sorted, made_of_taken}

first_made : (most : ℕ) (set sorted chosen : List SeriesValue) → IsPermutation set sorted → chosen ≡ take most sorted → IsMade set chosen
first_made most set sorted chosen same is =
    let all = made_of_sorted set sorted same in
    let some = made_of_taken most sorted chosen is in
    record {
      few = omega (arith, all.few, some.few);
      soon = λ by early. early_taken most sorted chosen is (by + latest) (all.soon by early);
    }
  where
    early_taken : (most : ℕ) (sorted chosen : List SeriesValue) → chosen ≡ take most sorted → (by : ℕ) → All (IsEarly by) sorted → All (IsEarly by) chosen
    early_taken most sorted chosen is by early = subst (λ (l : List SeriesValue). All (IsEarly by) l) (sym is) (All-take (IsEarly by) most sorted early)

pub chosen_made : (kind : Choose) (set chosen : List SeriesValue) → Chooses kind set chosen → IsMade set chosen
chosen_made (Alias name) set chosen is = made_of_mapped _ set chosen (λ by s early. record { short = early.short; early = early.early }) is
chosen_made (AliasByNode numbers) set chosen is = made_of_mapped _ set chosen (λ by s early. record { short = early.short; early = early.early }) is
chosen_made AliasByMetric set chosen is = made_of_mapped _ set chosen (λ by s early. record { short = early.short; early = early.early }) is
chosen_made (Limit most) set chosen is = made_of_taken most set chosen is
chosen_made SortByName set chosen is = made_of_sorted set chosen is.same
chosen_made SortByMaxima set chosen is = made_of_sorted set chosen is.same
chosen_made SortByTotal set chosen is = made_of_sorted set chosen is.same
chosen_made SortByMinima set chosen is = made_of_sorted set chosen is.same
chosen_made (HighestMax most) set chosen is = first_made most set is.0 chosen is.1.same is.2
chosen_made (HighestCurrent most) set chosen is = first_made most set is.0 chosen is.1.same is.2
chosen_made (HighestAverage most) set chosen is = first_made most set is.0 chosen is.1.same is.2
chosen_made (LowestCurrent most) set chosen is = first_made most set is.0 chosen is.1.same is.2
chosen_made (LowestAverage most) set chosen is = first_made most set is.0 chosen is.1.same is.2
chosen_made (MaximumAbove bound) set chosen is = made_of_filtered _ set chosen is
chosen_made (MinimumAbove bound) set chosen is = made_of_filtered _ set chosen is
chosen_made (CurrentAbove bound) set chosen is = made_of_filtered _ set chosen is
chosen_made (AverageAbove bound) set chosen is = made_of_filtered _ set chosen is
chosen_made (MaximumBelow bound) set chosen is = made_of_filtered _ set chosen is
chosen_made (MinimumBelow bound) set chosen is = made_of_filtered _ set chosen is
chosen_made (CurrentBelow bound) set chosen is = made_of_filtered _ set chosen is
chosen_made (AverageBelow bound) set chosen is = made_of_filtered _ set chosen is
chosen_made RemoveEmptySeries set chosen is = made_of_filtered _ set chosen is
chosen_made (Grep pattern) set chosen is = made_of_filtered _ set chosen is
chosen_made (Exclude pattern) set chosen is = made_of_filtered _ set chosen is
chosen_made (AliasSub pattern replacement) set chosen is = made_of_mapped _ set chosen (λ by s early. record { short = early.short; early = early.early }) is
