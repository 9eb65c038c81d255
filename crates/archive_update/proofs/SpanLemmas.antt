-- Where the points of a time go.
use Rattle.std.proofs.Common.{◌≡◌, ℕ, ◌+◌, ◌-◌, ◌<◌, ◌≤◌, ◌^◌, min, ◌&&◌, Bool, true, false, List, length, get_or, Option, Some, None, ⊎_elim, refl, sym, ap, ◌∙◌, arith}
use Rattle.std.specs.Prelude.{nat_le, nat_lt, position}
use Rattle.std.specs.List.{position_or_len}
use Rattle.std.proofs.lemmas.Bool.{cases_lt}
use Rattle.std.proofs.lemmas.Bool.Decides.{nat_tests}
use Rattle.std.proofs.lemmas.Grind.{common_steps}
use Rattle.std.proofs.lemmas.List.Quantifiers.{position-Some}
use Rattle.std.proofs.lemmas.List.Sums.{fails_before_first}
use Rattle.ring_format.specs.Layout.{retention_of}
use Rattle.ring_format.specs.declared.archive.Archive.{Archive}
use Rattle.archive_update.specs.Batch.{archive_for, is_home}
use Rattle.archive_update.specs.Spans.{IsOldestOf}

none_at : (p : Archive → Bool) (xs : List Archive) (k : ℕ) (d : Archive) → position p xs ≡ None → k < length xs → p (get_or xs k d) ≡ false
none_at p xs k d none within =
    let past : length xs ≤ position_or_len p xs = grind (arith, common_steps) in
    fails_before_first p xs k d (omega arith)

both : (a b : Bool) (x y : Bool) → a ≡ x → b ≡ y → (a && b) ≡ (x && y)
both a b x y e f = rw (e, f) refl

-- a time is within the span of an archive exactly where the archive is the home of its points
pub span_tells : (archives : List Archive) (archive now time since until : ℕ) (d : Archive) → archive < length archives → time < 2 ^ 32
    → since ≡ now - retention_of (get_or archives archive d) → IsOldestOf archives archive now until
    → (nat_le since time && nat_lt time until) ≡ is_home archive (archive_for archives now time)
span_tells archives archive now time since until d within short is oldest = by (archive_for archives now time) refl
  where
    reaches : Archive → Bool
    reaches a = nat_le now (time + retention_of a)

    by : (home : Option ℕ) → archive_for archives now time ≡ home → (nat_le since time && nat_lt time until) ≡ is_home archive home
    by None e =
        let far = none_at reaches archives archive d e within in
        let late : nat_le since time ≡ false = grind (arith, nat_tests) in
        rw late refl
    by (Some k) e =
        let at = position-Some reaches archives k d e in
        ⊎_elim
        (λ before.
        let least = oldest.least k d before in
        let there = at.1 in
        let late : nat_lt time until ≡ false = grind (arith, nat_tests) in
        let other : is_home archive (Some k) ≡ false = grind (arith, nat_tests) in
        both (nat_le since time) (nat_lt time until) (nat_le since time) false refl late ∙ none_second (nat_le since time) ∙ sym other)
        (λ behind. ⊎_elim
        (λ above.
        let far = at.2 archive above in
        let late : nat_le since time ≡ false = grind (arith, nat_tests) in
        let other : is_home archive (Some k) ≡ false = grind (arith, nat_tests) in
        rw late (sym other))
        (λ same_.
        let same : k ≡ archive = omega arith in
        let here : reaches (get_or archives archive d) ≡ true = rw same at at.1 in
        let near : nat_le since time ≡ true = grind (arith, nat_tests) in
        let first : time < until = oldest.reached time (omega arith) (λ j e' lt. finer j e' (omega arith)) in
        let early : nat_lt time until ≡ true = grind (arith, nat_tests) in
        let home : is_home archive (Some k) ≡ true = grind (arith, nat_tests) in
        rw (near, early) (sym home))
        (cases_lt archive k))
        (cases_lt k archive)
      where
        none_second : (a : Bool) → (a && false) ≡ false
        none_second true = refl
        none_second false = refl

        finer : (j : ℕ) (e' : Archive) → j < k → time < now - retention_of (get_or archives j e')
        finer j e' lt =
            let at = position-Some reaches archives k e' e in
            let far = at.2 j lt in
            grind (arith, nat_tests)

-- one more finer archive
pub one_finer : (archives : List Archive) (count now oldest later : ℕ) (d : Archive) → IsOldestOf archives count now oldest
    → later ≡ min oldest (now - retention_of (get_or archives count d)) → ((e : Archive) → get_or archives count e ≡ get_or archives count d) → IsOldestOf archives (count + 1) now later
one_finer archives count now oldest later d is least same = record {
  least = λ k e lt. ⊎_elim
      (λ before. let old = is.least k e before in omega (arith, least))
      (λ last. let at : k ≡ count = omega arith in let one : retention_of (get_or archives k e) ≡ retention_of (get_or archives count d) = rw at (ap retention_of (same e)) in omega (arith, least, one))
      (cases_lt k count);
  reached = λ time short all.
      let old = is.reached time short (λ k e lt. all k e (omega arith)) in
      let new = all count d (omega arith) in
      omega (arith, least, old, new);
}
