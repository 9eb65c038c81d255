-- Where the parts of a glob's text end.
use Rattle.std.proofs.Common.{◌≡◌, ℕ, ◌+◌, ◌<◌, ◌≤◌, ◌==◌, ◌⊎◌, inl, inr, Bool, true, false, cond, List, [], ◌∷◌, ◌++◌, length, take, drop, get_or, map, Option, Some, None, All, refl, sym, ap, ◌∙◌, arith, add-one, append_assoc, append-nil, eqb, lt-ltb, le-ltb}
use Rattle.std.proofs.Math.Seq.{split_at}
use Rattle.std.proofs.lemmas.Bool.{cases_lt}
use Rattle.std.proofs.lemmas.Bool.Decides.{nat_tests}
use Rattle.std.proofs.lemmas.List.{get_or-take, length-take-le}
use Rattle.std.proofs.lemmas.List.Elements.{All-from_get_or, All-head, All-tail}
use Rattle.std.proofs.lemmas.List.Splits.{slice_split_at, slice_split_none}
use Rattle.std.proofs.lemmas.List.Sums.{fails_before_first, passes_at_first}
use Rattle.std.specs.List.{position, position_or_len, slice_split}
use Rattle.path_glob.specs.Glob.{Piece, Plain, Braces, OneOf}
use Rattle.path_glob.specs.Reading.{members_of, pieces_from, pieces_of, pieces_within, row_after, row_of, values_of}
use Rattle.path_glob.specs.Parts.{HasNone}

found : (p : ℕ → Bool) (xs : List ℕ) (at : ℕ) → (position_or_len p xs < length xs) ⊎ (length xs ≤ position_or_len p xs) → position p xs ≡ Some at
    → (at < length xs) × (position_or_len p xs ≡ at)
found p xs at (inl lt) h =
    let same : ◌≡◌ {A = Option ℕ} (Some (position_or_len p xs)) (Some at) = rw (lt-ltb _ _ lt) at h in
    let e : position_or_len p xs ≡ at = cc in (rw (← e) lt, e)
found p xs at (inr le) h =
    let nowhere : ◌≡◌ {A = Option ℕ} None (Some at) = rw (le-ltb _ _ le) at h in absurd cc

nowhere_of : (p : ℕ → Bool) (xs : List ℕ) → (position_or_len p xs < length xs) ⊎ (length xs ≤ position_or_len p xs) → position p xs ≡ None → length xs ≤ position_or_len p xs
nowhere_of p xs (inl lt) h =
    let somewhere : ◌≡◌ {A = Option ℕ} (Some (position_or_len p xs)) None = rw (lt-ltb _ _ lt) at h in absurd cc
nowhere_of p xs (inr le) h = le

is_equal : (x y : ℕ) → eqb x y ≡ true → x ≡ y
is_equal x y e = grind (arith, nat_tests)

-- a text is what stands before its first mark, the mark, and what follows it
pub cut_where_found : (mark : ℕ) (text : List ℕ) (at : ℕ) → position (λ b. b == mark) text ≡ Some at
    → (text ≡ take at text ++ mark ∷ drop (at + 1) text) × HasNone mark (take at text)
cut_where_found mark text at h =
    let f = found (λ b. b == mark) text at (cases_lt _ _) h in
    let passes : eqb (get_or text (position_or_len (λ b. b == mark) text) 0) mark ≡ true = passes_at_first (λ b. b == mark) text 0 (rw f.1 f.0) in
    let is_mark : get_or text at 0 ≡ mark = is_equal _ _ (rw f.1 at passes) in
    let onward : text ≡ take at text ++ get_or text at 0 ∷ drop (at + 1) text = rw add-one (split_at text at 0 f.0) in (
      onward ∙ ap (λ (b : ℕ). take at text ++ b ∷ drop (at + 1) text) is_mark,
      All-from_get_or (λ b. (b == mark) ≡ false) (take at text) 0 (λ k within.
          let near : k < at = omega (arith, length-take-le at text (omega (arith, f.0))) in
          rw (get_or-take at text k 0 near) (fails_before_first (λ b. b == mark) text k 0 (omega (arith, f.1, near)))),
    )

pub none_before : (test : ℕ → Bool) (text : List ℕ) (at : ℕ) → position test text ≡ Some at → All (λ b. test b ≡ false) (take at text)
none_before test text at h =
    let f = found test text at (cases_lt _ _) h in
    All-from_get_or (λ b. test b ≡ false) (take at text) 0 (λ k within.
    let near : k < at = omega (arith, length-take-le at text (omega (arith, f.0))) in
    rw (get_or-take at text k 0 near) (fails_before_first test text k 0 (omega (arith, f.1, near))))

pub none_where_nowhere : (test : ℕ → Bool) (text : List ℕ) → position test text ≡ None → All (λ b. test b ≡ false) text
none_where_nowhere test text h =
    let past = nowhere_of test text (cases_lt _ _) h in
    All-from_get_or (λ b. test b ≡ false) text 0 (λ k within. fails_before_first test text k 0 (omega arith))

pub no_mark_found : (mark : ℕ) (text : List ℕ) → position (λ b. b == mark) text ≡ None → HasNone mark text
no_mark_found mark text h = none_where_nowhere (λ b. b == mark) text h

pub same_byte : (b : ℕ) → eqb b b ≡ true
same_byte b = grind (arith, nat_tests)

-- the first part ends at the first mark
pub part_at : (mark : ℕ) (before after : List ℕ) → HasNone mark before
    → slice_split (λ b. b == mark) (before ++ mark ∷ after) ≡ before ∷ slice_split (λ b. b == mark) after
part_at mark before after none = slice_split_at (λ b. b == mark) before mark after none (same_byte mark)

pub part_nowhere : (mark : ℕ) (text : List ℕ) → HasNone mark text → slice_split (λ b. b == mark) text ≡ text ∷ []
part_nowhere mark text none = slice_split_none (λ b. b == mark) text none

pub first_differs : (mark b : ℕ) (text : List ℕ) → HasNone mark (b ∷ text) → (b == mark) ≡ false
first_differs mark b text none = All-head (λ x. (x == mark) ≡ false) b text none

pub others_differ : (mark b : ℕ) (text : List ℕ) → HasNone mark (b ∷ text) → HasNone mark text
others_differ mark b text none = All-tail (λ x. (x == mark) ≡ false) b text none

onto : (seen text : List ℕ) (b : ℕ) → (seen ++ b ∷ []) ++ text ≡ seen ++ b ∷ text
onto seen text b = append_assoc seen (b ∷ []) text

-- a list ends at the first bracket
pub list_at : (seen text more : List ℕ) → HasNone 93 text → row_after seen (text ++ 93 ∷ more) ≡ OneOf (members_of (seen ++ text)) ∷ row_of more
list_at seen [] more none = ap (λ (l : List ℕ). OneOf (members_of l) ∷ row_of more) (sym (append-nil seen))
list_at seen (b ∷ text) more none =
    ap (λ (t : Bool). cond t (OneOf (members_of seen) ∷ row_of (text ++ 93 ∷ more)) (row_after (seen ++ b ∷ []) (text ++ 93 ∷ more))) (first_differs 93 b text none)
    ∙ list_at (seen ++ b ∷ []) text more (others_differ 93 b text none)
    ∙ ap (λ (l : List ℕ). OneOf (members_of l) ∷ row_of more) (onto seen text b)

pub list_nowhere : (seen text : List ℕ) → HasNone 93 text → row_after seen text ≡ []
list_nowhere seen [] none = refl
list_nowhere seen (b ∷ text) none =
    ap (λ (t : Bool). cond t (OneOf (members_of seen) ∷ row_of text) (row_after (seen ++ b ∷ []) text)) (first_differs 93 b text none)
    ∙ list_nowhere (seen ++ b ∷ []) text (others_differ 93 b text none)

-- what stands before the first braces
pub opened_at : (seen text more : List ℕ) → HasNone 123 text → pieces_from seen (text ++ 123 ∷ more) ≡ pieces_within (seen ++ text) [] more
opened_at seen [] more none = ap (λ (l : List ℕ). pieces_within l [] more) (sym (append-nil seen))
opened_at seen (b ∷ text) more none =
    ap (λ (t : Bool). cond t (pieces_within seen [] (text ++ 123 ∷ more)) (pieces_from (seen ++ b ∷ []) (text ++ 123 ∷ more))) (first_differs 123 b text none)
    ∙ opened_at (seen ++ b ∷ []) text more (others_differ 123 b text none)
    ∙ ap (λ (l : List ℕ). pieces_within l [] more) (onto seen text b)

pub opened_nowhere : (seen text : List ℕ) → HasNone 123 text → pieces_from seen text ≡ map Plain (row_of (seen ++ text))
opened_nowhere seen [] none = ap (λ (l : List ℕ). map Plain (row_of l)) (sym (append-nil seen))
opened_nowhere seen (b ∷ text) none =
    ap (λ (t : Bool). cond t (pieces_within seen [] text) (pieces_from (seen ++ b ∷ []) text)) (first_differs 123 b text none)
    ∙ opened_nowhere (seen ++ b ∷ []) text (others_differ 123 b text none)
    ∙ ap (λ (l : List ℕ). map Plain (row_of l)) (onto seen text b)

-- braces end at the first brace that closes
abbrev with_braces : List ℕ → List ℕ → List ℕ → List Piece
with_braces before inner more = map Plain (row_of before) ++ Braces (values_of inner) ∷ pieces_from [] more

pub closed_at : (before seen text more : List ℕ) → HasNone 125 text → pieces_within before seen (text ++ 125 ∷ more) ≡ with_braces before (seen ++ text) more
closed_at before seen [] more none = ap (λ (l : List ℕ). with_braces before l more) (sym (append-nil seen))
closed_at before seen (b ∷ text) more none =
    ap (λ (t : Bool). cond t (with_braces before seen (text ++ 125 ∷ more)) (pieces_within before (seen ++ b ∷ []) (text ++ 125 ∷ more))) (first_differs 125 b text none)
    ∙ closed_at before (seen ++ b ∷ []) text more (others_differ 125 b text none)
    ∙ ap (λ (l : List ℕ). with_braces before l more) (onto seen text b)

pub closed_nowhere : (before seen text : List ℕ) → HasNone 125 text → pieces_within before seen text ≡ map Plain (row_of (before ++ 123 ∷ (seen ++ text)))
closed_nowhere before seen [] none = ap (λ (l : List ℕ). map Plain (row_of (before ++ 123 ∷ l))) (sym (append-nil seen))
closed_nowhere before seen (b ∷ text) none =
    ap (λ (t : Bool). cond t (with_braces before seen text) (pieces_within before (seen ++ b ∷ []) text)) (first_differs 125 b text none)
    ∙ closed_nowhere before (seen ++ b ∷ []) text (others_differ 125 b text none)
    ∙ ap (λ (l : List ℕ). map Plain (row_of (before ++ 123 ∷ l))) (onto seen text b)

-- the first braces of a node
pub braces_at : (before inner after : List ℕ) → HasNone 123 before → HasNone 125 inner
    → pieces_of (before ++ 123 ∷ (inner ++ 125 ∷ after)) ≡ with_braces before inner after
braces_at before inner after none_opened none_closed =
    opened_at [] before (inner ++ 125 ∷ after) none_opened ∙ closed_at before [] inner after none_closed

-- braces that no brace closes
pub braces_open : (before inner : List ℕ) → HasNone 123 before → HasNone 125 inner
    → pieces_of (before ++ 123 ∷ inner) ≡ map Plain (row_of (before ++ 123 ∷ inner))
braces_open before inner none_opened none_closed =
    opened_at [] before inner none_opened ∙ closed_nowhere before [] inner none_closed
