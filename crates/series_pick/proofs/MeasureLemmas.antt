-- Measures of known values.
use Rattle.std.proofs.Common.{◌≡◌, ℕ, ℤ, pos, negsuc, unsigned_abs, ◌^◌, ◌<◌, ◌≤◌, List, [], ◌∷◌, ◌++◌, reverse, find, Option, Some, None, is_some, refl, ap, ◌∙◌, arith, int_cmp}
use Rattle.std.specs.Int.{int_max, int_min}
use Rattle.std.specs.List.{last_or}
use Rattle.std.specs.Option.{option_flatten, option_or}
use Rattle.std.specs.Ordering.{max_by_ordering, min_by_ordering}
use Rattle.std.proofs.lemmas.Int.{ints}
use Rattle.std.proofs.lemmas.List.{reverse-append}
use Rattle.series_set.specs.Average.{IsWithinSums, known}

pub greater_of : (p z : ℤ) → max_by_ordering (int_cmp p z) p z ≡ int_max p z
greater_of p z = grind (arith, ints)

pub lesser_of : (p z : ℤ) → min_by_ordering (int_cmp p z) p z ≡ int_min p z
lesser_of p z = grind (arith, ints)

-- ---- the last known value

abbrev first_found : List (Option ℤ) → Option ℤ
first_found values = option_flatten (find is_some values)

found_behind : (values : List (Option ℤ)) (value : Option ℤ) → first_found (values ++ value ∷ []) ≡ option_or (first_found values) value
found_behind [] None = refl
found_behind [] (Some v) = refl
found_behind (None ∷ values) value = found_behind values value
found_behind (Some v ∷ values) value = refl

last_from : (values : List (Option ℤ)) (o : Option ℤ) → option_or (first_found (reverse values)) o ≡ last_or o (known values)
last_from [] o = refl
last_from (value ∷ values) o =
    ap (λ vs. option_or (first_found vs) o) (reverse-append (value ∷ []) values)
    ∙ ap (λ f. option_or f o) (found_behind (reverse values) value)
    ∙ by value (first_found (reverse values)) (λ o. last_from values o)
  where
    by : (value f : Option ℤ) → ((o : Option ℤ) → option_or f o ≡ last_or o (known values)) → option_or (option_or f value) o ≡ last_or o (known (value ∷ values))
    by None None rest = rest o
    by None (Some v) rest = rest o
    by (Some w) None rest = rest (Some w)
    by (Some w) (Some v) rest = rest (Some w)

or_none : (o : Option ℤ) → o ≡ option_or o None
or_none None = refl
or_none (Some v) = refl

pub last_is : (values : List (Option ℤ)) → option_flatten (find is_some (reverse values)) ≡ last_or None (known values)
last_is values = or_none (first_found (reverse values)) ∙ last_from values None

-- ---- totals

pub total_short : (count : ℕ) (sum : ℤ) → count ≤ 4000000 → IsWithinSums count sum → unsigned_abs sum < 2 ^ 127
total_short count (pos n) few within =
    let greatest = within.greatest in
    omega (arith, ints)
total_short count (negsuc n) few within =
    let least = within.least in
    omega (arith, ints)
