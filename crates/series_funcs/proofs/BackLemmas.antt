-- Values and those before them.
use Rattle.std.proofs.Common.{◌≡◌, ℕ, ℤ, pos, ◌+◌, ◌+ℤ◌, ◌<◌, List, [], ◌∷◌, ◌++◌, length, get_or, take, fold, map, Option, Some, None, refl, sym, ap, ◌∙◌, arith, add-one}
use Rattle.std.specs.List.{cons_option, last_or, range_with_len}
use Rattle.std.specs.Option.{option_or}
use Rattle.std.proofs.lemmas.Int.{ints}
use Rattle.std.proofs.lemmas.List.{append-nil, get_or_read, take_more}
use Rattle.std.proofs.lemmas.List.Elements.{filter_map-append}
use Rattle.std.proofs.lemmas.List.Sums.{fold-append}
use Rattle.std.proofs.lemmas.Simd.{map-map}
use Rattle.series_set.specs.Average.{IsWithinSums, known, sum_of}
use Rattle.series_set.proofs.SumLemmas.{within_more}
use Rattle.fixed_num.specs.Milli.{IsMilli, value_of}
use Rattle.series_funcs.specs.declared.changing.Change.TheVariants.{NotBelow}
use Rattle.series_funcs.specs.Shaped.{at, before, change_at, changed_each, changed_value, derivative_at, differs, integral_at, last_known, minus, one_where, rises}
use Rattle.series_funcs.proofs.PlaceByPlace.{Placed, length-placed, placed_next}

-- what is read at the next place of a list that is changed in place
pub read_next : (f : ℕ → Option ℤ) (old now : List (Option ℤ)) (place : ℕ) (value : Option ℤ) → place < length old → value ≡ get_or now place value → Placed f old now place → value ≡ at old place
read_next f old now place value within is so_far =
    get_or_read now place value (omega (arith, length-placed f old now place so_far)) is None ∙ placed_next f old now place None so_far

pub before_next : (values : List (Option ℤ)) (place : ℕ) → at values place ≡ before values (place + 1)
before_next values place = rw add-one refl

pub known_next : (values : List (Option ℤ)) (i : ℕ) → i < length values → known (take (i + 1) values) ≡ known (take i values) ++ cons_option (at values i) []
known_next values i within = ap known (take_more values i None within) ∙ filter_map-append (λ value. value) (take i values) (get_or values i None ∷ [])

-- ---- sums

-- the exact sum of the known values before a place, and where it lies
pub record SumsUpTo (values : List (Option ℤ)) (place : ℕ) (sum : ℤ) : Type 0 where
  pub is : sum ≡ fold ◌+ℤ◌ (pos 0) (known (take place values))
  pub within : IsWithinSums place sum

within_next : (place : ℕ) (sum : ℤ) → IsWithinSums place sum → IsWithinSums (place + 1) sum
within_next place sum within =
    let least = within.least in
    let greatest = within.greatest in
    record { least = omega (arith, ints); greatest = omega (arith, ints) }

pub sums_missing : (values : List (Option ℤ)) (place : ℕ) (sum : ℤ) → place < length values → at values place ≡ None → SumsUpTo values place sum → SumsUpTo values (place + 1) sum
sums_missing values place sum within is so_far =
    let same : known (take (place + 1) values) ≡ known (take place values) = known_next values place within ∙ rw is (append-nil (known (take place values))) in
    record { is = so_far.is ∙ ap (fold ◌+ℤ◌ (pos 0)) (sym same); within = within_next place sum so_far.within }

pub sums_known : (values : List (Option ℤ)) (place : ℕ) (sum v : ℤ) → place < length values → at values place ≡ Some v → IsMilli v → SumsUpTo values place sum → SumsUpTo values (place + 1) (sum +ℤ v)
sums_known values place sum v within is fits so_far =
    let more : known (take (place + 1) values) ≡ known (take place values) ++ v ∷ [] = known_next values place within ∙ rw is refl in
    record {
      is = ap (λ (z : ℤ). z +ℤ v) so_far.is ∙ sym (fold-append ◌+ℤ◌ (pos 0) (known (take place values)) (v ∷ [])) ∙ ap (fold ◌+ℤ◌ (pos 0)) (sym more);
      within = within_more place sum v so_far.within fits;
    }

pub integral_missing : (values : List (Option ℤ)) (place : ℕ) → at values place ≡ None → integral_at values place ≡ at values place
unfolding integral_at
integral_missing values place is = rw is refl

pub integral_known : (values : List (Option ℤ)) (place : ℕ) (sum v : ℤ) → at values place ≡ Some v → SumsUpTo values (place + 1) sum → value_of sum ≡ integral_at values place
unfolding integral_at sum_of
integral_known values place sum v is so_far = rw is (ap value_of so_far.is)

-- ---- rises

-- by how much a value is above another, where it is not below it
abbrev pub risen_from : Option ℤ → Option ℤ → Option ℤ
risen_from value other = changed_value (NotBelow (pos 0)) (minus value other)

abbrev pub risen_at : List (Option ℤ) → ℕ → Option ℤ
risen_at values place = risen_from (at values place) (before values place)

pub rises_at : (values : List (Option ℤ)) → map (risen_at values) (range_with_len 0 (length values)) ≡ rises values
unfolding changed_each
rises_at values = sym (map-map (changed_value (NotBelow (pos 0))) (derivative_at values) (range_with_len 0 (length values)))

-- ---- the last known value

last_or-push : (o : Option ℤ) (xs : List ℤ) (x : ℤ) → last_or o (xs ++ x ∷ []) ≡ Some x
last_or-push o [] x = refl
last_or-push o (y ∷ xs) x = last_or-push (Some y) xs x

last_or-option : (xs : List ℤ) (value : Option ℤ) → last_or None (xs ++ cons_option value []) ≡ option_or value (last_or None xs)
last_or-option xs None = ap (last_or None) (append-nil xs)
last_or-option xs (Some v) = last_or-push None xs v

pub last_next : (values : List (Option ℤ)) (place : ℕ) → place < length values → option_or (at values place) (last_known (take place values)) ≡ last_known (take (place + 1) values)
last_next values place within = sym (ap (last_or None) (known_next values place within) ∙ last_or-option (known (take place values)) (at values place))

pub change_is : (values : List (Option ℤ)) (place : ℕ) (value last : Option ℤ) → value ≡ at values place → last ≡ last_known (take place values) → Some (one_where (differs value last)) ≡ change_at values place
unfolding change_at
change_is values place value last is last_is = rw (is, last_is) refl
