-- The points of one archive after another.
use Rattle.std.proofs.Common.{◌≡◌, ℕ, ℤ, zero, suc, ◌+◌, ◌-◌, ◌<◌, ◌≤◌, Bool, true, false, cond, nat_le, Option, Some, None, inl, inr, List, [], ◌∷◌, length, refl, sym, ap, subst, ◌∙◌, arith}
use Rattle.std.specs.Prelude.{filter}
use Rattle.std.proofs.lemmas.Bool.{cases_lt}
use Rattle.std.proofs.lemmas.Bool.Decides.{eqb_tells}
use Rattle.std.proofs.lemmas.List.Elements.{All-cons, All-head, All-nil, All-tail}
use Rattle.std.proofs.lemmas.List.Quantifiers.{position-Some}
use Rattle.ring_format.specs.declared.archive.Archive.{Archive}
use Rattle.ring_format.specs.Layout.{LayoutValue, retention_of}
use Rattle.ring_format.specs.Patch.{PatchValue}
use Rattle.ring_archive.specs.Ring.{ReadsAs, Rings}
use Rattle.archive_update.specs.Batch.{Values, archive_for, is_home, latest_of_each, points_home, step_of, buckets_of_writes, level_writes, bucket_writes, rolled_up, with_writes, HaveNoHome}
use Rattle.archive_update.specs.Laid.{Writes}
use Rattle.archive_update.specs.Rolled.{HasNoOwn, Plans, PlansFirst, RollsUp}
use Rattle.archive_update.proofs.OwnLemmas.{some_latest}
use Rattle.archive_update.proofs.LayLemmas.{no_items, no_writes}

nothing_rolled : (layout : LayoutValue) (rings : Rings) (i left : ℕ) → rolled_up layout [] rings i left ≡ rings
unfolding buckets_of_writes level_writes
nothing_rolled layout rings i zero = refl
nothing_rolled layout rings i (suc left) = refl

abbrev own_rolled : LayoutValue → Rings → ℕ → List (ℕ × ℤ) → Rings
own_rolled layout rings i own = rolled_up layout own (with_writes layout.archives rings i own) i (length layout.archives - (i + 1))

-- an archive that is the home of no point
pub plans_none : (layout : LayoutValue) (now : ℕ) (points own : List (ℕ × ℤ)) (patch : PatchValue) (i : ℕ) (file : List ℕ) → own ≡ bucket_writes layout.archives now i points → length own ≡ 0 → Plans layout now points patch patch i file
plans_none layout now points own patch i file are none = λ rings reads k bucket.
    let empty = sym (no_items own none) ∙ are in
    let whole : own_rolled layout rings i (bucket_writes layout.archives now i points) ≡ with_writes layout.archives rings i [] =
    ap (own_rolled layout rings i) (sym empty) ∙ nothing_rolled layout (with_writes layout.archives rings i []) i (length layout.archives - (i + 1)) in
    reads k bucket ∙ ap (λ (values : Values). values bucket) (sym (no_writes layout.archives rings i k)) ∙ sym (ap (λ (rings : Rings). rings k bucket) whole)

pub plans_some : (layout : LayoutValue) (now : ℕ) (points own : List (ℕ × ℤ)) (a b c : PatchValue) (i : ℕ) (file : List ℕ) → own ≡ bucket_writes layout.archives now i points
    → Writes layout.archives a b i own file → RollsUp layout own b c i file → Plans layout now points a c i file
plans_some layout now points own a b c i file are writes rolls = λ rings reads.
    subst (λ (own : List (ℕ × ℤ)). ReadsAs c file (own_rolled layout rings i own)) are (rolls (with_writes layout.archives rings i own) (writes rings reads))

pub plans_more : (layout : LayoutValue) (now : ℕ) (points : List (ℕ × ℤ)) (a b c : PatchValue) (i : ℕ) (file : List ℕ) → PlansFirst layout now points a b i file → Plans layout now points b c i file → PlansFirst layout now points a c (suc i) file
plans_more layout now points a b c i file before here = λ rings reads. here _ (before rings reads)

-- ---- where nothing is laid

at_home : (k : ℕ) → is_home k (Some k) ≡ true
at_home k = elim (eqb_tells k k) [ inl same ↦ same.0 | inr apart ↦ absurd (apart.1 refl) ]

some_kept : {X : Type 0} (test : X → Bool) (x : X) (xs : List X) → filter test (x ∷ xs) ≡ [] → (test x ≡ false) × (filter test xs ≡ [])
some_kept {X = X} test x xs none =
    elim (test x) as (λ b. cond b (x ∷ filter test xs) (filter test xs) ≡ [] → (b ≡ false) × (filter test xs ≡ [])) [
      | true ↦ λ (e : x ∷ filter test xs ≡ []). absurd cc
      | false ↦ λ e. (refl, e)
    ] none

not_latest : (step : ℕ) (points : List (ℕ × ℤ)) → latest_of_each step points ≡ [] → points ≡ []
not_latest step [] none = refl
not_latest step (p ∷ ps) none = absurd (let some = some_latest step p ps in let count : length (latest_of_each step (p ∷ ps)) ≡ 0 = rw none refl in omega arith)

homeless : (archives : List Archive) (time : ℕ) (now : ℕ) → ((i : ℕ) → i < length archives → is_home i (archive_for archives now time) ≡ false) → archive_for archives now time ≡ None
homeless archives time now away = by (archive_for archives now time) refl
  where
    by : (home : Option ℕ) → archive_for archives now time ≡ home → archive_for archives now time ≡ None
    by None e = e
    by (Some k) e = absurd (let at : is_home k (archive_for archives now time) ≡ true = rw e (at_home k) in let far = away k (position-Some (λ archive. nat_le now (time + retention_of archive)) archives k (record { step = 0; points = 0 }) e).0 in let clash : true ≡ false = sym at ∙ far in cc)

pub no_homes : (archives : List Archive) (now : ℕ) (points : List (ℕ × ℤ)) → ((i : ℕ) → i < length archives → bucket_writes archives now i points ≡ []) → HaveNoHome archives now points
unfolding bucket_writes
no_homes archives now points none = by points (λ i lt. not_latest (step_of archives i) (points_home archives now i points) (none i lt))
  where
    by : (points : List (ℕ × ℤ)) → ((i : ℕ) → i < length archives → points_home archives now i points ≡ []) → HaveNoHome archives now points
    by [] away = All-nil (λ (p : ℕ × ℤ). archive_for archives now p.0 ≡ None)
    by (p ∷ ps) away =
        All-cons (λ (p : ℕ × ℤ). archive_for archives now p.0 ≡ None) p ps
        (homeless archives p.0 now (λ i lt. (some_kept (λ (p : ℕ × ℤ). is_home i (archive_for archives now p.0)) p ps (away i lt)).0))
        (by ps (λ i lt. (some_kept (λ (p : ℕ × ℤ). is_home i (archive_for archives now p.0)) p ps (away i lt)).1))

none_kept : (archives : List Archive) (now i : ℕ) (points : List (ℕ × ℤ)) → HaveNoHome archives now points → points_home archives now i points ≡ []
none_kept archives now i [] all = refl
none_kept archives now i (p ∷ ps) all =
    let here : archive_for archives now p.0 ≡ None = All-head (λ (p : ℕ × ℤ). archive_for archives now p.0 ≡ None) p ps all in
    rw here (none_kept archives now i ps (All-tail (λ (p : ℕ × ℤ). archive_for archives now p.0 ≡ None) p ps all))

pub no_own : (archives : List Archive) (now i : ℕ) (points : List (ℕ × ℤ)) → HaveNoHome archives now points → bucket_writes archives now i points ≡ []
unfolding bucket_writes
no_own archives now i points all = ap (latest_of_each (step_of archives i)) (none_kept archives now i points all)

pub none_more : (layout : LayoutValue) (now : ℕ) (points : List (ℕ × ℤ)) (n : ℕ) → HasNoOwn layout now points n → bucket_writes layout.archives now n points ≡ [] → HasNoOwn layout now points (n + 1)
none_more layout now points n before here = λ i lt. elim (cases_lt i n) [
  | inl less ↦ before i less
  | inr ge ↦ let same : i ≡ n = omega arith in ap (λ (i : ℕ). bucket_writes layout.archives now i points) same ∙ here
]

pub none_before : (layout : LayoutValue) (now : ℕ) (points : List (ℕ × ℤ)) (n m : ℕ) → n ≤ m → HasNoOwn layout now points m → HasNoOwn layout now points n
none_before layout now points n m le all = λ i lt. all i (omega arith)
