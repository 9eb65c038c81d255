-- How many series a call makes of others, and when these end.
use Rattle.std.proofs.Common.{◌≡◌, ℕ, suc, ◌+◌, ◌≤◌, ◌<◌, Bool, true, false, not, cond, List, [], ◌∷◌, All, filter, length, map, take, Result, Ok, Err, refl, sym, ap, subst, ◌∙◌, arith}
use Rattle.std.specs.Result.{result_map_both}
use Rattle.std.specs.List.Sorted.{IsPermutation}
use Rattle.std.proofs.lemmas.List.{length-take}
use Rattle.std.proofs.lemmas.List.Elements.{All-filter, All-map, All-take, All-weaker}
use Rattle.std.proofs.lemmas.List.Sorted.{All-permutation, length_permutation}
use Rattle.std.specs.Str.{bytes_eq}
use Rattle.series_set.specs.Series.{SeriesValue, end_of, widest_step}
use Rattle.series_set.specs.declared.grid.EvalFault.{EvalFault}
use Rattle.series_funcs.specs.Combined.{IsSoonAfter, combine, combined_series}
use Rattle.series_funcs.specs.Divided.{divide}
use Rattle.series_funcs.specs.Each.{each_of, onto}
use Rattle.series_funcs.proofs.StepLemmas.{steps_stand}
use Rattle.series_funcs.specs.Moved.{IsSoLate, lateness, shape}
use Rattle.series_funcs.specs.Regrouped.{combine_of, combined_group, first_seen, group_text, groups_by, regroup, with_text}
use Rattle.series_funcs.specs.declared.kinds.Combine.{Combine}
use Rattle.series_funcs.specs.declared.kinds.Regroup.{Regroup}
use Rattle.series_funcs.specs.declared.kinds.Shape.{Shape}
use Rattle.series_funcs.specs.declared.kinds.Shape.TheVariants.{Absolute, Scale, Offset, OffsetToZero, Derivative, NonNegativeDerivative, PerSecond, Integral, Delay, KeepLastValue, TransformNull, IsNonNull, Changed, RemoveAboveValue, RemoveBelowValue, ScaleToSeconds, Summarize, TimeShift}
use Rattle.time_range.specs.SpanOf.{latest}
use Rattle.render_plan.specs.Bounds.{IsEarly, IsMade}
use Rattle.render_plan.specs.Sound.{IsSoundShape}

-- ---- ends

pub early_more : (by more : ℕ) (set : List SeriesValue) → by ≤ more → All (IsEarly by) set → All (IsEarly more) set
early_more by more set le early = All-weaker (IsEarly by) (IsEarly more) (λ s e. record { short = e.short; early = omega (arith, e.early, le) }) set early

pub ends_by : (by : ℕ) (set : List SeriesValue) → All (IsEarly by) set → All (λ s. end_of s ≤ by) set
ends_by by set early = All-weaker (IsEarly by) (λ s. end_of s ≤ by) (λ s e. e.early) set early

pub steps_by : (by : ℕ) (set : List SeriesValue) → All (IsEarly by) set → All (λ s. s.step ≤ widest_step) set
steps_by by set early = All-weaker (IsEarly by) (λ s. s.step ≤ widest_step) (λ s e. e.short) set early

pub soon_made : (others set : List SeriesValue) → All (IsSoonAfter others) set → (by : ℕ) → All (IsEarly by) others → All (IsEarly (by + latest)) set
soon_made others set soon by early =
    All-weaker (IsSoonAfter others) (IsEarly (by + latest)) (λ s after. record { short = after.short; early = soon_end (end_of s) by (after.soon by (ends_by by others early)) }) set soon
  where
    soon_end : (end by : ℕ) → end < by + widest_step → end ≤ by + latest
    soon_end end by after = omega (arith, after)

pub late_made : (others set : List SeriesValue) (late : ℕ) → late ≤ latest → All (IsSoLate others late) set → (by : ℕ) → All (IsEarly by) others → All (IsEarly (by + latest)) set
late_made others set late le so by early =
    All-weaker (IsSoLate others late) (IsEarly (by + latest))
    (λ s after. record { short = after.short (steps_by by others early); early = late_end (end_of s) by late le (after.soon by (ends_by by others early)) }) set so
  where
    late_end : (end by late : ℕ) → late ≤ latest → end ≤ by + late → end ≤ by + latest
    late_end end by late le after = omega (arith, after, le)

late_past : (past : Bool) (seconds : ℕ) → seconds ≤ latest → lateness (TimeShift past seconds) ≤ latest
late_past true seconds le = le
late_past false seconds le = omega arith

pub late_short : (kind : Shape) → IsSoundShape kind → lateness kind ≤ latest
late_short Absolute sound = omega arith
late_short (Scale billionths) sound = omega arith
late_short (Offset amount) sound = omega arith
late_short OffsetToZero sound = omega arith
late_short Derivative sound = omega arith
late_short NonNegativeDerivative sound = omega arith
late_short PerSecond sound = omega arith
late_short Integral sound = omega arith
late_short (Delay places) sound = omega arith
late_short (KeepLastValue most) sound = omega arith
late_short (TransformNull value) sound = omega arith
late_short IsNonNull sound = omega arith
late_short Changed sound = omega arith
late_short (RemoveAboveValue most) sound = omega arith
late_short (RemoveBelowValue least) sound = omega arith
late_short (ScaleToSeconds seconds) sound = omega arith
late_short (Summarize step gather) sound = omega (arith, sound.0.1)
late_short (TimeShift past seconds) sound = late_past past seconds sound.1

-- ---- how many

one_few : (r : Result SeriesValue EvalFault) (together : List SeriesValue) → result_map_both (λ (t : SeriesValue). t ∷ []) (λ (f : EvalFault). f) r ≡ Ok together → length together ≤ 1
one_few (Ok t) together is = let same : t ∷ [] ≡ together = cc in subst (λ (l : List SeriesValue). length l ≤ 1) same (omega arith)
one_few (Err f) together is = cc

pub combine_few : (kind : Combine) (set : List SeriesValue) (name path : List ℕ) (together : List SeriesValue) → combine kind set name path ≡ Ok together → length together ≤ length set
unfolding combine
combine_few kind [] name path together is = let same : [] ≡ together = cc in subst (λ (l : List SeriesValue). length l ≤ 0) same (omega arith)
combine_few kind (s ∷ set) name path together is = let few = one_few (combined_series kind (s ∷ set) name path) together is in omega (arith, few)

onto_length : {Y : Type 0} (first : Result Y EvalFault) (rest : Result (List Y) EvalFault) (ys : List Y) (n : ℕ) → ((zs : List Y) → rest ≡ Ok zs → length zs ≡ n) → onto first rest ≡ Ok ys → length ys ≡ suc n
onto_length (Ok y) (Ok zs) ys n so is = let same : y ∷ zs ≡ ys = cc in ap length (sym same) ∙ ap suc (so zs refl)
onto_length (Ok y) (Err f) ys n so is = cc
onto_length (Err f) rest ys n so is = cc

each_length : {X Y : Type 0} (f : X → Result Y EvalFault) (xs : List X) (ys : List Y) → each_of f xs ≡ Ok ys → length ys ≡ length xs
each_length f [] ys is = let same : [] ≡ ys = cc in ap length (sym same)
each_length f (x ∷ xs) ys is = onto_length (f x) (each_of f xs) ys (length xs) (λ zs so. each_length f xs zs so) is

length_mapped : {X Y : Type 0} (f : X → Y) (xs : List X) → length (map f xs) ≡ length xs
length_mapped f [] = refl
length_mapped f (x ∷ xs) = ap suc (length_mapped f xs)

filtered_by : {X : Type 0} (stays : Bool) (x : X) (left xs : List X) → length left ≤ length xs → length (cond stays (x ∷ left) left) ≤ suc (length xs)
filtered_by true x left xs few = omega (arith, few)
filtered_by false x left xs few = omega (arith, few)

pub filtered_few : {X : Type 0} (p : X → Bool) (xs : List X) → length (filter p xs) ≤ length xs
filtered_few p [] = omega arith
filtered_few p (x ∷ xs) = filtered_by (p x) x (filter p xs) xs (filtered_few p xs)

abbrev well : List SeriesValue → Result (List SeriesValue) EvalFault
well set = Ok set

mapped_few : (f : SeriesValue → SeriesValue) (set made : List SeriesValue) → well (map f set) ≡ Ok made → length made ≤ length set
mapped_few f set made is =
    let same : map f set ≡ made = cc in
    let long = length_mapped f set in
    subst (λ (l : List SeriesValue). length l ≤ length set) same (omega (arith, long))

each_few : (f : SeriesValue → Result SeriesValue EvalFault) (set made : List SeriesValue) → each_of f set ≡ Ok made → length made ≤ length set
each_few f set made is = let long = each_length f set made is in omega (arith, long)

pub divide_few : (dividends divisors quotients : List SeriesValue) → divide dividends divisors ≡ Ok quotients → length quotients ≤ length dividends
unfolding divide
divide_few dividends [] quotients is = mapped_few _ dividends quotients is
divide_few dividends (divisor ∷ []) quotients is = each_few _ dividends quotients (steps_stand _ _ quotients is)
divide_few dividends (first ∷ second ∷ others) quotients is = mapped_few _ dividends quotients is

moved_few : (f : SeriesValue → SeriesValue) (p : SeriesValue → Bool) (set made : List SeriesValue) → well (map f (filter p set)) ≡ Ok made → length made ≤ length set
moved_few f p set made is =
    let long = mapped_few f (filter p set) made is in
    let few = filtered_few p set in
    omega (arith, long, few)

pub shape_few : (kind : Shape) (function tail : List ℕ) (set shaped : List SeriesValue) → shape kind function tail set ≡ Ok shaped → length shaped ≤ length set
unfolding shape
shape_few Absolute function tail set shaped is = mapped_few _ set shaped is
shape_few (Scale billionths) function tail set shaped is = mapped_few _ set shaped is
shape_few (Offset amount) function tail set shaped is = mapped_few _ set shaped is
shape_few OffsetToZero function tail set shaped is = mapped_few _ set shaped is
shape_few Derivative function tail set shaped is = mapped_few _ set shaped is
shape_few NonNegativeDerivative function tail set shaped is = mapped_few _ set shaped is
shape_few PerSecond function tail set shaped is = mapped_few _ set shaped is
shape_few Integral function tail set shaped is = mapped_few _ set shaped is
shape_few (Delay places) function tail set shaped is = mapped_few _ set shaped is
shape_few (KeepLastValue most) function tail set shaped is = mapped_few _ set shaped is
shape_few (TransformNull value) function tail set shaped is = mapped_few _ set shaped is
shape_few IsNonNull function tail set shaped is = mapped_few _ set shaped is
shape_few Changed function tail set shaped is = mapped_few _ set shaped is
shape_few (RemoveAboveValue most) function tail set shaped is = mapped_few _ set shaped is
shape_few (RemoveBelowValue least) function tail set shaped is = mapped_few _ set shaped is
shape_few (ScaleToSeconds seconds) function tail set shaped is = mapped_few _ set shaped is
shape_few (Summarize step gather) function tail set shaped is = each_few _ set shaped is
shape_few (TimeShift past seconds) function tail set shaped is = moved_few _ _ set shaped is

seen_few : (texts : List (List ℕ)) → length (first_seen texts) ≤ length texts
seen_few [] = omega arith
seen_few (text ∷ texts) =
    let few = filtered_few (λ (other : List ℕ). not (bytes_eq text other)) (first_seen texts) in
    let more = seen_few texts in
    omega (arith, few, more)

groups_few : (of : SeriesValue → List ℕ) (set : List SeriesValue) → length (groups_by of set) ≤ length set
unfolding groups_by
groups_few of set =
    let all = length_mapped {Y = List ℕ × List SeriesValue} (λ text. (text, with_text of set text)) (first_seen (map of set)) in
    let few = seen_few (map of set) in
    let long = length_mapped of set in
    omega (arith, all, few, long)

pub regroup_few : (kind : Regroup) (set regrouped : List SeriesValue) → regroup kind set ≡ Ok regrouped → length regrouped ≤ length set
unfolding regroup
regroup_few kind set regrouped is =
    let long = each_length (combined_group (combine_of kind)) (groups_by (λ s. group_text kind s.path) set) regrouped (steps_stand _ _ regrouped is) in
    let few = groups_few (λ s. group_text kind s.path) set in
    omega (arith, long, few)

-- ---- choices

pub made_of_mapped : (f : SeriesValue → SeriesValue) (set made : List SeriesValue) → ((by : ℕ) (s : SeriesValue) → IsEarly by s → IsEarly by (f s)) → made ≡ map f set → IsMade set made
made_of_mapped f set made keeps is =
    let long = length_mapped f set in
    let same = ap length is in
    record {
      few = omega (arith, long, same);
      soon = λ by early. subst (λ (l : List SeriesValue). All (IsEarly (by + latest)) l) (sym is) (All-map (IsEarly (by + latest)) f set (All-weaker (IsEarly (by + latest)) (λ s. IsEarly (by + latest) (f s)) (keeps (by + latest)) set (early_more by (by + latest) set (omega arith) early)));
    }

pub made_of_taken : (n : ℕ) (set made : List SeriesValue) → made ≡ take n set → IsMade set made
made_of_taken n set made is =
    let long = length-take n set in
    let same = ap length is in
    record {
      few = omega (arith, long, same);
      soon = λ by early. subst (λ (l : List SeriesValue). All (IsEarly (by + latest)) l) (sym is) (All-take (IsEarly (by + latest)) n set (early_more by (by + latest) set (omega arith) early));
    }

pub made_of_filtered : (p : SeriesValue → Bool) (set made : List SeriesValue) → made ≡ filter p set → IsMade set made
made_of_filtered p set made is =
    let few = filtered_few p set in
    let same = ap length is in
    record {
      few = omega (arith, few, same);
      soon = λ by early. subst (λ (l : List SeriesValue). All (IsEarly (by + latest)) l) (sym is) (All-filter p (IsEarly (by + latest)) set (early_more by (by + latest) set (omega arith) early));
    }

pub made_of_sorted : (set made : List SeriesValue) → IsPermutation set made → IsMade set made
made_of_sorted set made same =
    let long = length_permutation set made same in
    record {
      few = omega (arith, long);
      soon = λ by early. All-permutation (IsEarly (by + latest)) set made same (early_more by (by + latest) set (omega arith) early);
    }
