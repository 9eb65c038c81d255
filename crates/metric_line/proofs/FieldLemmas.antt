-- How the fields of a text come from its front.
use Rattle.std.proofs.Common.{◌≡◌, ℕ, ◌+◌, ◌<◌, ◌≤◌, Bool, true, false, not, List, [], ◌∷◌, length, take, drop, get_or, filter, ltb, refl, sym, ap, ◌∙◌, ◌⊎◌, inl, inr, arith, add_comm, add-one, length-drop}
use Rattle.std.specs.List.{slice_split, position_or_len}
use Rattle.std.proofs.lemmas.Bool.{lt-ltb, cases_lt}
use Rattle.std.proofs.lemmas.List.{drop_more, drop_all, take_all, length-take-le}
use Rattle.std.proofs.lemmas.List.Splits.{slice_split-cons_yes, slice_split_first, slice_split_none, length-slice_split}
use Rattle.std.proofs.lemmas.List.Sums.{fails_before_first, passes_at_first, count_by-le-length, length-filter, prefix_len-le-length}
use Rattle.metric_line.specs.LineFields.{fields_of, is_blank}

-- whether a piece between two blanks is a field
abbrev pub has_bytes : List ℕ → Bool
has_bytes piece = ltb 0 (length piece)

abbrev pub is_no_blank : ℕ → Bool
is_no_blank b = not (is_blank b)

-- a blank before the others is no field
pub fields_of-blank : (b : ℕ) (text : List ℕ) → is_blank b ≡ true → fields_of (b ∷ text) ≡ fields_of text
unfolding fields_of
fields_of-blank b text blank = ap (filter has_bytes) (slice_split-cons_yes is_blank b text blank)

-- a text without bytes has no fields
pub fields_of-none : (text : List ℕ) → length text ≡ 0 → fields_of text ≡ []
unfolding fields_of
fields_of-none [] e = refl
fields_of-none (b ∷ text) e = absurd (omega arith)

filter_first : (piece : List ℕ) (pieces : List (List ℕ)) → 0 < length piece → filter has_bytes (piece ∷ pieces) ≡ piece ∷ filter has_bytes pieces
filter_first piece pieces some = rw (lt-ltb _ _ some) refl

from_more : (b : ℕ) (text : List ℕ) (t : Bool) → is_blank b ≡ t → fields_of (drop (position_or_len is_no_blank text) text) ≡ fields_of text
    → fields_of (drop (position_or_len is_no_blank (b ∷ text)) (b ∷ text)) ≡ fields_of (b ∷ text)
from_more b text true blank more =
    rw (blank, add_comm 1 (position_or_len is_no_blank text), add-one) (more ∙ sym (fields_of-blank b text blank))
from_more b text false other more = rw other refl

-- the blanks at the front of a text are no fields
pub fields_of-from : (text : List ℕ) → fields_of (drop (position_or_len is_no_blank text) text) ≡ fields_of text
fields_of-from [] = refl
fields_of-from (b ∷ text) = from_more b text (is_blank b) refl (fields_of-from text)

not_true : (b : Bool) → not b ≡ true → b ≡ false
not_true true e = cc
not_true false e = refl

-- a text whose first byte is no blank
front_of : (text : List ℕ) (b : ℕ) (rest : List ℕ) → text ≡ b ∷ rest → is_blank b ≡ false → 0 < position_or_len is_blank text
front_of text b rest e other = rw (e, other) (omega arith)

pub front_is_field : (text : List ℕ) → 0 < length (drop (position_or_len is_no_blank text) text) → 0 < position_or_len is_blank (drop (position_or_len is_no_blank text) text)
front_is_field text some =
    let at = position_or_len is_no_blank text in
    let within : at < length text = omega (arith, length-drop at text) in
    let passes : not (is_blank (get_or text at 0)) ≡ true = passes_at_first is_no_blank text 0 within in
    front_of _ _ _ (drop_more text at 0 within) (not_true _ passes)

first_of : (text : List ℕ) → 0 < position_or_len is_blank text → (position_or_len is_blank text < length text) ⊎ (length text ≤ position_or_len is_blank text)
    → fields_of text ≡ take (position_or_len is_blank text) text ∷ fields_of (drop (position_or_len is_blank text) text)
unfolding fields_of
first_of text some (inl within) =
    let at = position_or_len is_blank text in
    let blank = passes_at_first is_blank text 0 within in
    ap (filter has_bytes) (slice_split_first is_blank text 0 within)
    ∙ filter_first (take at text) (slice_split is_blank (drop (at + 1) text)) (omega (arith, length-take-le at text (omega arith)))
    ∙ ap (λ (rest : List (List ℕ)). take at text ∷ rest) (sym (ap fields_of (drop_more text at 0 within) ∙ fields_of-blank (get_or text at 0) (drop (at + 1) text) blank))
first_of text some (inr past) =
    let at = position_or_len is_blank text in
    ap (filter has_bytes) (slice_split_none is_blank text (λ k d within. fails_before_first is_blank text k d (omega arith)))
    ∙ filter_first text [] (omega (arith, prefix_len-le-length (λ b. not (is_blank b)) text))
    ∙ rw (take_all at text past, drop_all at text past) refl

-- a text whose first byte is no blank begins with a field
pub fields_of-first : (text : List ℕ) → 0 < position_or_len is_blank text
    → fields_of text ≡ take (position_or_len is_blank text) text ∷ fields_of (drop (position_or_len is_blank text) text)
fields_of-first text some = first_of text some (cases_lt (position_or_len is_blank text) (length text))

-- there are at most as many fields as bytes, and one more
pub length-fields_of : (text : List ℕ) → length (fields_of text) ≤ length text + 1
unfolding fields_of
length-fields_of text =
    omega (arith, length-filter has_bytes (slice_split is_blank text), count_by-le-length has_bytes (slice_split is_blank text), length-slice_split is_blank text, count_by-le-length is_blank text)
