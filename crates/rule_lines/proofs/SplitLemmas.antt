-- Texts that are cut at their first line feed or comma.
use Rattle.std.proofs.Common.{◌≡◌, ℕ, ◌+◌, ◌<◌, ◌≤◌, Bool, ◌⊎◌, inl, inr, List, [], ◌∷◌, length, take, drop, Some, None, refl, arith, ap, ◌∙◌}
use Rattle.std.proofs.lemmas.Bool.{cases_lt, lt-ltb, le-ltb}
use Rattle.std.proofs.lemmas.List.Splits.{slice_split_first, slice_split_none, length-slice_split}
use Rattle.std.proofs.lemmas.List.Sums.{fails_before_first}
use Rattle.std.specs.List.{position, position_or_len, slice_split}
use Rattle.std.specs.Str.Lines.{strip_carriage_return}
use Rattle.rule_lines.specs.TextLines.{is_lf, lines_of, closed_lines}

first_of : (p : ℕ → Bool) (xs : List ℕ) (at : ℕ) → (position_or_len p xs < length xs) ⊎ (length xs ≤ position_or_len p xs) → position p xs ≡ Some at
    → slice_split p xs ≡ take at xs ∷ slice_split p (drop (at + 1) xs)
first_of p xs at (inl lt) h =
    let same : Some (position_or_len p xs) ≡ Some at = rw (lt-ltb _ _ lt) at h in
    let e : position_or_len p xs ≡ at = cc in
    rw (← e) (slice_split_first p xs 0 lt)
first_of p xs at (inr le) h =
    let nowhere : None ≡ Some at = rw (le-ltb _ _ le) at h in absurd cc

-- the first piece ends where the test first passes
pub split_first : (p : ℕ → Bool) (xs : List ℕ) (at : ℕ) → position p xs ≡ Some at → slice_split p xs ≡ take at xs ∷ slice_split p (drop (at + 1) xs)
split_first p xs at h = first_of p xs at (cases_lt (position_or_len p xs) (length xs)) h

none_of : (p : ℕ → Bool) (xs : List ℕ) → (position_or_len p xs < length xs) ⊎ (length xs ≤ position_or_len p xs) → position p xs ≡ None → slice_split p xs ≡ xs ∷ []
none_of p xs (inl lt) h =
    let somewhere : Some (position_or_len p xs) ≡ None = rw (lt-ltb _ _ lt) at h in absurd cc
none_of p xs (inr le) h = slice_split_none p xs (λ k d within. fails_before_first p xs k d (omega arith))

pub split_nowhere : (p : ℕ → Bool) (xs : List ℕ) → position p xs ≡ None → slice_split p xs ≡ xs ∷ []
split_nowhere p xs h = none_of p xs (cases_lt (position_or_len p xs) (length xs)) h

closed_more : (line : List ℕ) (parts : List (List ℕ)) → 0 < length parts → closed_lines (line ∷ parts) ≡ strip_carriage_return line ∷ closed_lines parts
closed_more line [] some = absurd (omega arith)
closed_more line (part ∷ parts) some = refl

-- the first line of a text with a line feed, and what follows
pub lines_first : (xs : List ℕ) (at : ℕ) → position is_lf xs ≡ Some at → lines_of xs ≡ strip_carriage_return (take at xs) ∷ lines_of (drop (at + 1) xs)
lines_first xs at h =
    ap closed_lines (split_first is_lf xs at h)
    ∙ closed_more (take at xs) (slice_split is_lf (drop (at + 1) xs)) (omega (arith, length-slice_split is_lf (drop (at + 1) xs)))

pub lines_none : (xs : List ℕ) → position is_lf xs ≡ None → lines_of xs ≡ xs ∷ []
lines_none xs h = ap closed_lines (split_nowhere is_lf xs h)
