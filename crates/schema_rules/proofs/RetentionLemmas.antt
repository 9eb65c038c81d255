-- Lemmas on archives that are put in order of step.
use Rattle.std.proofs.Common.{◌≡◌, ℕ, zero, suc, ◌+◌, ◌<◌, ◌≤◌, ◌==◌, nat_lt, Bool, true, false, cond, List, [], ◌∷◌, ◌++◌, map, length, All, Contains, IsPermutation, MatchOption, Option, Some, None, option_and_then, option_map, ◌⊎◌, inl, inr, append-nil, refl, sym, ap, subst, ◌∙◌, arith, rules}
use Rattle.std.specs.Ordering.{nat_cmp, ordering_then, match_ordering}
use Rattle.std.specs.declared.cmp.Ordering.{Ordering}
use Rattle.std.specs.declared.cmp.Ordering.TheVariants.{Less, Equal, Greater}
use Rattle.std.specs.List.{slice_split}
use Rattle.std.specs.Map.{values_of}
use Rattle.std.proofs.lemmas.Bool.Decides.{nat_tests}
use Rattle.std.proofs.lemmas.List.Elements.{All-cons, All-weaker, Contains-append_right}
use Rattle.std.proofs.lemmas.List.Sorted.{IsPermutation-append, IsPermutation-cons, IsPermutation-map, IsPermutation-middle, IsPermutation-refl, IsPermutation-trans}
use Rattle.std.proofs.lemmas.Map.Views.{All-values-insert_entry}
use Rattle.ring_format.specs.declared.archive.Archive.{Archive}
use Rattle.ring_format.specs.Patch.{place_cmp}
use Rattle.rule_lines.specs.TextLines.{trimmed}
use Rattle.schema_rules.specs.Retentions.{InOrder, archive_of, archives_from, archives_of, is_comma, with_archive}
use Rattle.schema_rules.specs.RetentionLaws.{AreInOrder, AreOfPieces, StepsRise, pieces_of}

-- each archive stands at its own step, and at a number below n
abbrev Fits : ℕ → InOrder → Type 0
Fits n [] = Unit {0}
Fits n (e ∷ es) = (e.0.0 ≡ e.1.step) × (e.0.1 < n) × Fits n es

-- what stands in order and fits, behind one more archive
abbrev Inserted : InOrder → ℕ → Archive → InOrder → Type 0
Inserted es n a made = Fits (n + 1) made × IsPermutation (a ∷ values_of es) (values_of made) × StepsRise (values_of made)

fits_more : (n : ℕ) (es : InOrder) → Fits n es → Fits (n + 1) es
fits_more n [] fits = tt
fits_more n (e ∷ es) (own, below, rest) = (own, omega arith, fits_more n es rest)

-- the archive comes in front of one with a greater step
before : (e : (ℕ × ℕ) × Archive) (es : InOrder) (n : ℕ) (a : Archive) → Fits n (e ∷ es) → StepsRise (values_of (e ∷ es)) → a.step ≤ e.1.step
    → Inserted (e ∷ es) n a (((a.step, n), a) ∷ e ∷ es)
before e es n a fits rise less = (
  (refl, omega arith, fits_more n (e ∷ es) fits),
  IsPermutation-refl (a ∷ values_of (e ∷ es)),
  (All-cons (λ later. a.step ≤ later.step) e.1 (values_of es) less (All-weaker (λ later. e.1.step ≤ later.step) (λ later. a.step ≤ later.step) (λ later le. omega arith) (values_of es) rise.0), rise),
)

-- it comes behind one with no greater step
behind : (e : (ℕ × ℕ) × Archive) (es : InOrder) (n : ℕ) (a : Archive) → Fits n (e ∷ es) → StepsRise (values_of (e ∷ es)) → e.1.step ≤ a.step
    → Inserted es n a (with_archive es n a) → Inserted (e ∷ es) n a (e ∷ with_archive es n a)
behind e es n a fits rise less made =
    let below = fits.1 in (
      (fits.0, omega arith, made.0),
      IsPermutation-trans (a ∷ e.1 ∷ values_of es) (e.1 ∷ a ∷ values_of es) (e.1 ∷ values_of (with_archive es n a)) (IsPermutation-middle (a ∷ []) e.1 (values_of es)) (IsPermutation-cons e.1 (a ∷ values_of es) (values_of (with_archive es n a)) made.1),
      (All-values-insert_entry place_cmp (a.step, n) a (λ later. e.1.step ≤ later.step) es rise.0 less, made.2),
    )

-- the order of two places of which the second has the lower number
order_of : (step n : ℕ) (place : ℕ × ℕ) → place.1 < n → ((place_cmp (step, n) place ≡ Less) × (step < place.0)) ⊎ ((place_cmp (step, n) place ≡ Greater) × (place.0 ≤ step))
order_of step n place below = by (nat_lt step place.0) (step == place.0) refl refl
  where
    by : (less same : Bool) → nat_lt step place.0 ≡ less → (step == place.0) ≡ same → ((place_cmp (step, n) place ≡ Less) × (step < place.0)) ⊎ ((place_cmp (step, n) place ≡ Greater) × (place.0 ≤ step))
    by true same e s = inl (rw e refl, grind (arith, nat_tests))
    by false true e s =
        let over : nat_lt n place.1 ≡ false = grind (arith, nat_tests) in
        let other : (n == place.1) ≡ false = grind (arith, nat_tests) in
        inr (rw (e, s, over, other) refl, grind (arith, nat_tests))
    by false false e s = inr (rw (e, s) refl, grind (arith, nat_tests))

inserted : (es : InOrder) (n : ℕ) (a : Archive) → Fits n es → StepsRise (values_of es) → Inserted es n a (with_archive es n a)
inserted [] n a fits rise = ((refl, omega arith, tt), IsPermutation-refl (a ∷ []), (λ k d lt. absurd (omega arith), tt))
inserted (e ∷ es) n a fits rise = by (order_of a.step n e.0 fits.1) (inserted es n a fits.2 rise.1)
  where
    by : ((place_cmp (a.step, n) e.0 ≡ Less) × (a.step < e.0.0)) ⊎ ((place_cmp (a.step, n) e.0 ≡ Greater) × (e.0.0 ≤ a.step)) → Inserted es n a (with_archive es n a)
        → Inserted (e ∷ es) n a (with_archive (e ∷ es) n a)
    by (inl less) made =
        let own = fits.0 in
        let lt = less.1 in
        rw less.0 (before e es n a fits rise (omega arith))
    by (inr over) made =
        let own = fits.0 in
        let le = over.1 in
        rw over.0 (behind e es n a fits rise (omega arith) made)

-- ---- all pieces

abbrev held : List Archive → List (Option Archive)
held archives = map (λ archive. Some archive) archives

abbrev read_piece : List ℕ → Option Archive
read_piece piece = archive_of (trimmed piece)

-- what reading further pieces makes of the archives that were read
abbrev Reads : InOrder → List (Option Archive) → Option InOrder → Type 0
Reads es pieces out = MatchOption out (Contains pieces None) (λ made. AreInOrder (held (values_of es) ++ pieces) (values_of made))

-- a piece more, in front
reads_some : (es made : InOrder) (a : Archive) (pieces : List (Option Archive)) (out : Option InOrder) → IsPermutation (a ∷ values_of es) (values_of made)
    → Reads made pieces out → Reads es (Some a ∷ pieces) out
reads_some es made a pieces None same none = Contains-append_right (Some a ∷ []) pieces None none
reads_some es made a pieces (Some out) same reads = (
  IsPermutation-trans (held (values_of es) ++ Some a ∷ pieces) (Some a ∷ (held (values_of es) ++ pieces)) (held (values_of out))
      (IsPermutation-middle (held (values_of es)) (Some a) pieces)
      (IsPermutation-trans (Some a ∷ (held (values_of es) ++ pieces)) (held (values_of made) ++ pieces) (held (values_of out))
      (IsPermutation-append (Some a ∷ held (values_of es)) (held (values_of made)) pieces pieces (IsPermutation-map (λ archive. Some archive) (a ∷ values_of es) (values_of made) same) (IsPermutation-refl pieces))
      reads.0),
  reads.1,
)

reads_more : (es made : InOrder) (a : Archive) (first : Option Archive) (pieces : List (Option Archive)) (out : Option InOrder) → first ≡ Some a
    → IsPermutation (a ∷ values_of es) (values_of made) → Reads made pieces out → Reads es (first ∷ pieces) out
reads_more es made a first pieces out is same reads = subst (λ (first : Option Archive). Reads es (first ∷ pieces) out) (sym is) (reads_some es made a pieces out same reads)

read_from : (es : InOrder) (n : ℕ) (pieces : List (List ℕ)) → Fits n es → StepsRise (values_of es) → Reads es (map read_piece pieces) (archives_from es n pieces)
unfolding archives_from
read_from es n [] fits rise = (subst (λ (all : List (Option Archive)). IsPermutation all (held (values_of es))) (sym (append-nil (held (values_of es)))) (IsPermutation-refl (held (values_of es))), rise)
read_from es n (piece ∷ more) fits rise = by (read_piece piece) refl (λ a fits rise. read_from (with_archive es n a) (n + 1) more fits rise)
  where
    by : (o : Option Archive) → read_piece piece ≡ o
        → ((a : Archive) → Fits (n + 1) (with_archive es n a) → StepsRise (values_of (with_archive es n a)) → Reads (with_archive es n a) (map read_piece more) (archives_from (with_archive es n a) (n + 1) more))
        → Reads es (map read_piece (piece ∷ more)) (archives_from es n (piece ∷ more))
    by None e next = rw e (0, omega arith, e)
    by (Some a) e next =
        let made = inserted es n a fits rise in
        let same : archives_from es n (piece ∷ more) ≡ archives_from (with_archive es n a) (n + 1) more = ap (option_and_then (λ archive. archives_from (with_archive es n archive) (n + 1) more)) e in
        subst (λ (out : Option InOrder). Reads es (map read_piece (piece ∷ more)) out) (sym same) (reads_more es (with_archive es n a) a (read_piece piece) (map read_piece more) (archives_from (with_archive es n a) (n + 1) more) e made.1 (next a made.0 made.2))

listed : (pieces : List (Option Archive)) (out : Option InOrder) → Reads [] pieces out → MatchOption (option_map (values_of) out) (Contains pieces None) (AreInOrder pieces)
listed pieces None none = none
listed pieces (Some out) reads = reads

pub are_of_pieces : AreOfPieces
unfolding archives_of
are_of_pieces text = listed (pieces_of text) (archives_from [] 0 (slice_split is_comma text)) (read_from [] 0 (slice_split is_comma text) tt tt)
