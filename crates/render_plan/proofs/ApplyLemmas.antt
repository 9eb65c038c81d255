-- What a call makes of the series of its arguments, in bounds.
use Rattle.std.proofs.Common.{◌≡◌, ℕ, zero, suc, ◌+◌, ◌-◌, ◌≤◌, List, [], ◌∷◌, ◌++◌, All, length, Ok, refl, sym, ap, subst, arith}
use Rattle.std.proofs.lemmas.List.{length-append}
use Rattle.std.proofs.lemmas.List.Elements.{All-append, All-cons, All-head, All-nil, All-tail, All-weaker}
use Rattle.series_set.specs.Series.{SeriesValue, end_of, latest_end, widest_step}
use Rattle.series_funcs.specs.Combined.{AreCombinable, IsSoonAfter, combine}
use Rattle.series_funcs.specs.Divided.{divide}
use Rattle.series_funcs.specs.Moved.{IsSoLate, lateness, shape}
use Rattle.series_funcs.specs.Regrouped.{regroup}
use Rattle.series_funcs.specs.declared.kinds.Combine.{Combine}
use Rattle.series_funcs.specs.declared.kinds.Regroup.{Regroup}
use Rattle.series_funcs.specs.declared.kinds.Shape.{Shape}
use Rattle.series_pick.specs.Chosen.{Chooses}
use Rattle.series_pick.specs.declared.kinds.Choose.{Choose}
use Rattle.time_range.specs.SpanOf.{latest}
use Rattle.render_plan.specs.Bounds.{AreLimited, IsEarly, IsMade, greatest_end}
use Rattle.render_plan.specs.Sound.{IsSoundShape}
use Rattle.render_plan.specs.Values.{Rows, concat, nth, or_else}
use Rattle.render_plan.proofs.ChoiceLemmas.{chosen_made}
use Rattle.render_plan.proofs.MadeLemmas.{combine_few, divide_few, early_more, ends_by, late_made, late_short, regroup_few, shape_few, soon_made, steps_by}

-- ---- one of several lists

all_left : (P : SeriesValue → Type 0) (set others : List SeriesValue) → All P (set ++ others) → All P set
all_left P [] others all = All-nil P
all_left P (s ∷ set) others all = All-cons P s set (All-head P s (set ++ others) all) (all_left P set others (All-tail P s (set ++ others) all))

all_right : (P : SeriesValue → Type 0) (set others : List SeriesValue) → All P (set ++ others) → All P others
all_right P [] others all = all
all_right P (s ∷ set) others all = all_right P set others (All-tail P s (set ++ others) all)

all_nth : (P : SeriesValue → Type 0) (sets : Rows) (place : ℕ) → All P (concat sets) → All P (nth sets place)
all_nth P [] zero all = All-nil P
all_nth P [] (suc place) all = All-nil P
all_nth P (set ∷ sets) zero all = all_left P set (concat sets) all
all_nth P (set ∷ sets) (suc place) all = all_nth P sets place (all_right P set (concat sets) all)

few_nth : (sets : Rows) (place : ℕ) → length (nth sets place) ≤ length (concat sets)
few_nth [] zero = omega arith
few_nth [] (suc place) = omega arith
few_nth (set ∷ sets) zero = let long = length-append set (concat sets) in omega (arith, long)
few_nth (set ∷ sets) (suc place) =
    let long = length-append set (concat sets) in
    let few = few_nth sets place in
    omega (arith, long, few)

limited_nth : (sets : Rows) (place : ℕ) → AreLimited (concat sets) → AreLimited (nth sets place)
limited_nth sets place limited =
    let few = few_nth sets place in
    record { few = omega (arith, few, limited.few); early = all_nth (IsEarly greatest_end) sets place limited.early }

-- what is made of one of the lists is made of all
made_of_nth : (sets : Rows) (place : ℕ) (made : List SeriesValue) → IsMade (nth sets place) made → IsMade (concat sets) made
made_of_nth sets place made of =
    let few = few_nth sets place in
    record { few = omega (arith, few, of.few); soon = λ by early. of.soon by (all_nth (IsEarly by) sets place early) }

-- ---- what calls ask

early_ends : (by : ℕ) (set : List SeriesValue) → greatest_end ≤ by → All (IsEarly greatest_end) set → All (λ s. end_of s ≤ by) set
early_ends by set le early = ends_by by set (early_more greatest_end by set le early)

combinable : (set : List SeriesValue) → AreLimited set → AreCombinable set
unfolding greatest_end
combinable set limited = record {
  few = limited.few;
  short = steps_by greatest_end set limited.early;
  early = early_ends (latest_end - widest_step) set (omega arith) limited.early;
}

combinable_nth : (sets : Rows) (place : ℕ) (set : List SeriesValue) → set ≡ nth sets place → AreLimited (concat sets) → AreCombinable set
combinable_nth sets place set is limited = subst AreCombinable (sym is) (combinable (nth sets place) (limited_nth sets place limited))

pub combinable_first : (sets : Rows) (set : List SeriesValue) → set ≡ nth sets 0 → AreLimited (concat sets) → AreCombinable set
combinable_first sets set is limited = combinable_nth sets 0 set is limited

pub combinable_second : (sets : Rows) (set : List SeriesValue) → set ≡ nth sets 1 → AreLimited (concat sets) → AreCombinable set
combinable_second sets set is limited = combinable_nth sets 1 set is limited

pub combinable_all : (sets : Rows) (set : List SeriesValue) → set ≡ concat sets → AreLimited (concat sets) → AreCombinable set
combinable_all sets set is limited = subst AreCombinable (sym is) (combinable (concat sets) limited)

room_for : (late : ℕ) (set : List SeriesValue) → late ≤ latest → All (IsEarly greatest_end) set → All (λ s. end_of s + late ≤ latest_end) set
unfolding greatest_end
room_for late set le early = All-weaker (IsEarly greatest_end) (λ s. end_of s + late ≤ latest_end) (λ s e. omega (arith, e.early, le)) set early

pub early_enough : (kind : Shape) (sets : Rows) (first : List SeriesValue) → first ≡ nth sets 0 → IsSoundShape kind → AreLimited (concat sets) → All (λ s. end_of s + lateness kind ≤ latest_end) first
early_enough kind sets first is sound limited =
    room_for (lateness kind) first (late_short kind sound) (subst (λ (set : List SeriesValue). All (IsEarly greatest_end) set) (sym is) (limited_nth sets 0 limited).early)

-- ---- what calls make

pub same_made : (set made : List SeriesValue) → made ≡ set → IsMade set made
same_made set made is =
    let long = ap length is in
    record { few = omega (arith, long); soon = λ by early. early_more by (by + latest) made (omega arith) (subst (λ (l : List SeriesValue). All (IsEarly by) l) (sym is) early) }

nth_made : (sets : Rows) (place : ℕ) (made : List SeriesValue) → made ≡ nth sets place → IsMade (concat sets) made
nth_made sets place made is = made_of_nth sets place made (same_made (nth sets place) made is)

pub first_made : (sets : Rows) (made : List SeriesValue) → made ≡ nth sets 0 → IsMade (concat sets) made
first_made sets made is = nth_made sets 0 made is

pub second_made : (sets : Rows) (made : List SeriesValue) → made ≡ nth sets 1 → IsMade (concat sets) made
second_made sets made is = nth_made sets 1 made is

pub or_else_some : (first second : List SeriesValue) → 1 ≤ length first → first ≡ or_else first second
or_else_some [] second some = absurd (omega (arith, some))
or_else_some (s ∷ set) second some = refl

pub or_else_none : (first second : List SeriesValue) → length first ≤ 0 → second ≡ or_else first second
or_else_none [] second none = refl
or_else_none (s ∷ set) second none = absurd (omega (arith, none))

pub combined_made : (kind : Combine) (sets : Rows) (set : List SeriesValue) (name path : List ℕ) (together : List SeriesValue) → combine kind set name path ≡ Ok together
    → All (IsSoonAfter set) together → set ≡ concat sets → IsMade (concat sets) together
combined_made kind sets set name path together is soon all =
    subst (λ (others : List SeriesValue). IsMade others together) all (record { few = combine_few kind set name path together is; soon = soon_made set together soon })

pub divided_made : (sets : Rows) (dividends divisors quotients : List SeriesValue) → dividends ≡ nth sets 0 → divisors ≡ nth sets 1
    → divide dividends divisors ≡ Ok quotients → All (IsSoonAfter (dividends ++ divisors)) quotients → IsMade (concat sets) quotients
divided_made sets dividends divisors quotients first second is soon =
    let few = divide_few dividends divisors quotients is in
    let more = few_nth sets 0 in
    let same = ap length first in
    record {
      few = omega (arith, few, same, more);
      soon = λ by early. soon_made (dividends ++ divisors) quotients soon by
          (All-append (IsEarly by) dividends divisors
          (subst (λ (set : List SeriesValue). All (IsEarly by) set) (sym first) (all_nth (IsEarly by) sets 0 early))
          (subst (λ (set : List SeriesValue). All (IsEarly by) set) (sym second) (all_nth (IsEarly by) sets 1 early)));
    }

-- what is made of the first of the lists
of_first : (sets : Rows) (first made : List SeriesValue) → first ≡ nth sets 0 → IsMade first made → IsMade (concat sets) made
of_first sets first made is of = made_of_nth sets 0 made (subst (λ (set : List SeriesValue). IsMade set made) is of)

pub shaped_made : (kind : Shape) (function tail : List ℕ) (sets : Rows) (first made : List SeriesValue) → first ≡ nth sets 0 → IsSoundShape kind
    → shape kind function tail first ≡ Ok made → All (IsSoLate first (lateness kind)) made → IsMade (concat sets) made
shaped_made kind function tail sets first made there sound is late =
    of_first sets first made there (record { few = shape_few kind function tail first made is; soon = late_made first made (lateness kind) (late_short kind sound) late })

pub choice_made : (kind : Choose) (sets : Rows) (first made : List SeriesValue) → first ≡ nth sets 0 → Chooses kind first made → IsMade (concat sets) made
choice_made kind sets first made there chooses = of_first sets first made there (chosen_made kind first made chooses)

pub regrouped_made : (kind : Regroup) (sets : Rows) (first made : List SeriesValue) → regroup kind first ≡ Ok made → All (IsSoonAfter first) made → first ≡ nth sets 0 → IsMade (concat sets) made
regrouped_made kind sets first made is soon there =
    of_first sets first made there (record { few = regroup_few kind first made is; soon = soon_made first made soon })
