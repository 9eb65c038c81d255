-- Lemmas on the lines of a byte stream.
use Rattle.std.proofs.Common.{◌≡◌, ℕ, suc, ◌-◌, ◌<◌, ◌≤◌, true, false, List, [], ◌∷◌, ◌++◌, map, length, take, get_or, sym, ap, ◌∙◌, subst, refl, arith, append-nil, append_assoc, length-append, eqb-true, le-leb, ⊎_elim, ap₂}
use Rattle.std.specs.List.{slice_split}
use Rattle.std.proofs.lemmas.Bool.{lt-leb, cases_lt, cases_Bool}
use Rattle.std.proofs.lemmas.List.Elements.{All-nil, All-append, All-push}
use Rattle.std.proofs.lemmas.List.Splits.{slice_split_none, slice_split_at, length-slice_split}
use Rattle.line_frame.specs.Lines.{Line, Whole, TooLong, is_lf, line_of, lines, most_line_bytes, open_text}
use Rattle.line_frame.specs.Held.{HasNoLf}

-- one part more in front: what stands before the last part, and the last part
front-cons : (text : List ℕ) (parts : List (List ℕ)) → 0 < length parts → take (length (text ∷ parts) - 1) (text ∷ parts) ≡ text ∷ take (length parts - 1) parts
front-cons text [] some = absurd (omega (arith, some))
front-cons text (part ∷ parts) some = let e : length (text ∷ part ∷ parts) - 1 ≡ suc (length (part ∷ parts) - 1) = omega arith in rw e refl

last-cons : (text : List ℕ) (parts : List (List ℕ)) → 0 < length parts → get_or (text ∷ parts) (length (text ∷ parts) - 1) [] ≡ get_or parts (length parts - 1) []
last-cons text [] some = absurd (omega (arith, some))
last-cons text (part ∷ parts) some = let e : length (text ∷ part ∷ parts) - 1 ≡ suc (length (part ∷ parts) - 1) = omega arith in rw e refl

-- there is always a part
parts_some : (bytes : List ℕ) → 0 < length (slice_split is_lf bytes)
parts_some bytes = omega (arith, length-slice_split is_lf bytes)

-- bytes without an LF are no line
pub lines-open : (bytes : List ℕ) → HasNoLf bytes → lines bytes ≡ []
lines-open bytes clean = rw (slice_split_none is_lf bytes clean) refl

pub open_text-open : (bytes : List ℕ) → HasNoLf bytes → open_text bytes ≡ bytes
open_text-open bytes clean = rw (slice_split_none is_lf bytes clean) refl

-- a line, and what follows it
pub lines-line : (text later : List ℕ) → HasNoLf text → lines (text ++ 10 ∷ later) ≡ line_of text ∷ lines later
lines-line text later clean =
    ap (λ (parts : List (List ℕ)). map line_of (take (length parts - 1) parts)) (slice_split_at is_lf text 10 later clean refl)
    ∙ ap (map line_of) (front-cons text (slice_split is_lf later) (parts_some later))

pub open_text-line : (text later : List ℕ) → HasNoLf text → open_text (text ++ 10 ∷ later) ≡ open_text later
open_text-line text later clean =
    ap (λ (parts : List (List ℕ)). get_or parts (length parts - 1) []) (slice_split_at is_lf text 10 later clean refl)
    ∙ last-cons text (slice_split is_lf later) (parts_some later)

-- Induction over the lines of a stream: what holds of bytes without an LF, and of a line before what it holds
-- of, holds of each stream.
by_lines_from : (P : List ℕ → Type 0) → ((text : List ℕ) → HasNoLf text → P text) → ((text later : List ℕ) → HasNoLf text → P later → P (text ++ 10 ∷ later))
    → (bytes text : List ℕ) → HasNoLf text → P (text ++ bytes)
by_lines_from P unended ended [] text clean = subst P (sym (append-nil text)) (unended text clean)
by_lines_from P unended ended (b ∷ bytes) text clean =
    let at_lf : is_lf b ≡ true → P (text ++ b ∷ bytes) = λ e.
    subst (λ (x : ℕ). P (text ++ x ∷ bytes)) (sym (eqb-true b 10 e)) (ended text bytes clean (by_lines_from P unended ended bytes [] (All-nil _))) in
    let elsewhere : is_lf b ≡ false → P (text ++ b ∷ bytes) = λ e.
    subst P (append_assoc text (b ∷ []) bytes) (by_lines_from P unended ended bytes (text ++ b ∷ []) (All-push (λ x. is_lf x ≡ false) text b clean e)) in
    ⊎_elim at_lf elsewhere (cases_Bool (is_lf b))

pub by_lines : (P : List ℕ → Type 0) → ((text : List ℕ) → HasNoLf text → P text) → ((text later : List ℕ) → HasNoLf text → P later → P (text ++ 10 ∷ later)) → (bytes : List ℕ) → P bytes
by_lines P unended ended bytes = by_lines_from P unended ended bytes [] (All-nil _)

-- the lines of a stream that goes on
pub lines-append : (more bytes : List ℕ) → lines (bytes ++ more) ≡ lines bytes ++ lines (open_text bytes ++ more)
lines-append more =
    by_lines (λ bytes. lines (bytes ++ more) ≡ lines bytes ++ lines (open_text bytes ++ more))
    (λ text clean. rw (lines-open text clean, open_text-open text clean) refl)
    (λ text later clean held.
    ap lines (append_assoc text (10 ∷ later) more) ∙ lines-line text (later ++ more) clean ∙ ap (λ (l : List Line). line_of text ∷ l) held
    ∙ sym (ap₂ (λ (l : List Line) (o : List ℕ). l ++ lines (o ++ more)) (lines-line text later clean) (open_text-line text later clean)))

pub open_text-append : (more bytes : List ℕ) → open_text (bytes ++ more) ≡ open_text (open_text bytes ++ more)
open_text-append more =
    by_lines (λ bytes. open_text (bytes ++ more) ≡ open_text (open_text bytes ++ more))
    (λ text clean. rw (open_text-open text clean) refl)
    (λ text later clean held.
    ap open_text (append_assoc text (10 ∷ later) more) ∙ open_text-line text (later ++ more) clean ∙ held
    ∙ sym (ap (λ (o : List ℕ). open_text (o ++ more)) (open_text-line text later clean)))

-- the open line has no LF
pub open_text-clean : (bytes : List ℕ) → HasNoLf (open_text bytes)
open_text-clean =
    by_lines (λ bytes. HasNoLf (open_text bytes))
    (λ text clean. subst HasNoLf (sym (open_text-open text clean)) clean)
    (λ text later clean held. subst HasNoLf (sym (open_text-line text later clean)) held)

-- a line within the limit, and one above it
pub line_of-short : (text : List ℕ) → length text ≤ most_line_bytes → line_of text ≡ Whole text
line_of-short text short = rw (le-leb (length text) most_line_bytes short) refl

pub line_of-long : (text : List ℕ) → most_line_bytes < length text → line_of text ≡ TooLong
line_of-long text long = rw (lt-leb (length text) most_line_bytes long) refl

-- of an open line it is enough to know the line so far
pub line_of-append : (one other more : List ℕ) → line_of one ≡ line_of other → line_of (one ++ more) ≡ line_of (other ++ more)
line_of-append one other more same =
    ⊎_elim
    (λ long. ⊎_elim
    (λ long'. line_of-long (one ++ more) (omega (arith, length-append one more)) ∙ sym (line_of-long (other ++ more) (omega (arith, length-append other more))))
    (λ short'. let a = line_of-long one long in let b = line_of-short other short' in cc)
    (cases_lt most_line_bytes (length other)))
    (λ short. ⊎_elim
    (λ long'. let a = line_of-short one short in let b = line_of-long other long' in cc)
    (λ short'. let a = line_of-short one short in let b = line_of-short other short' in cc)
    (cases_lt most_line_bytes (length other)))
    (cases_lt most_line_bytes (length one))

-- two open lines that are one to a reader are one, however the stream goes on
pub lines-open_line : (one other : List ℕ) → HasNoLf one → HasNoLf other → line_of one ≡ line_of other → (more : List ℕ) → lines (one ++ more) ≡ lines (other ++ more)
lines-open_line one other clean clean' same =
    by_lines (λ more. lines (one ++ more) ≡ lines (other ++ more))
    (λ text held. lines-open (one ++ text) (All-append (λ x. is_lf x ≡ false) one text clean held) ∙ sym (lines-open (other ++ text) (All-append (λ x. is_lf x ≡ false) other text clean' held)))
    (λ text later held _.
    let known = line_of-append one other text same in
    let left = ap lines (sym (append_assoc one text (10 ∷ later))) ∙ lines-line (one ++ text) later (All-append (λ x. is_lf x ≡ false) one text clean held) in
    let right = ap lines (sym (append_assoc other text (10 ∷ later))) ∙ lines-line (other ++ text) later (All-append (λ x. is_lf x ≡ false) other text clean' held) in
    left ∙ ap (λ (l : Line). l ∷ lines later) known ∙ sym right)

pub open_text-open_line : (one other : List ℕ) → HasNoLf one → HasNoLf other → line_of one ≡ line_of other → (more : List ℕ) → line_of (open_text (one ++ more)) ≡ line_of (open_text (other ++ more))
open_text-open_line one other clean clean' same =
    by_lines (λ more. line_of (open_text (one ++ more)) ≡ line_of (open_text (other ++ more)))
    (λ text held.
    ap line_of (open_text-open (one ++ text) (All-append (λ x. is_lf x ≡ false) one text clean held)) ∙ line_of-append one other text same
    ∙ sym (ap line_of (open_text-open (other ++ text) (All-append (λ x. is_lf x ≡ false) other text clean' held))))
    (λ text later held _.
    let left = ap open_text (sym (append_assoc one text (10 ∷ later))) ∙ open_text-line (one ++ text) later (All-append (λ x. is_lf x ≡ false) one text clean held) in
    let right = ap open_text (sym (append_assoc other text (10 ∷ later))) ∙ open_text-line (other ++ text) later (All-append (λ x. is_lf x ≡ false) other text clean' held) in
    ap line_of (left ∙ sym right))
