-- What a reader makes of the pickle of a value.
use Rattle.std.proofs.Common.{◌≡◌, ℕ, zero, suc, ◌<◌, ◌≤◌, ◌^◌, ℤ, pos, negsuc, true, false, List, [], ◌∷◌, ◌++◌, length, Option, Some, option_map, FitsSigned, refl, ap, ap₂, sym, subst, ◌∙◌, ⊎_elim, arith, append_assoc, ltb-true, le-leb}
use Rattle.std.proofs.Math.Seq.{take-append_seam, drop-append_seam}
use Rattle.std.proofs.lemmas.Bool.{cases_Bool, cond-true, cond-false}
use Rattle.std.proofs.lemmas.Int.{to_z-of_z}
use Rattle.std.proofs.lemmas.List.{length-append}
use Rattle.std.proofs.lemmas.Nat.{from_be_bytes-to_be_bytes_8, from_le_bytes-to_le_bytes_4, from_le_bytes-to_le_bytes_8}
use Rattle.std.specs.Int.{w32, w64, cast_signed, cast_unsigned, from_be_bytes, from_le_bytes, to_be_bytes, to_le_bytes}
use Rattle.pickle_form.specs.Value.{FitsPickle, IsShort, Items, ItemsFit, Members, MembersFit, Value, boolean, double, item, mapping, member, no_items, no_members, none, sequence, text, whole}
use Rattle.pickle_form.specs.Pickle.{double_code, is_narrow, items_code, members_code, pickled, text_code, value_code, whole_code}
use Rattle.pickle_form.specs.Reading.{Entry, above_mark, appended, argument, entered, goes, goes_on, held, joined, mark, members_of, pushed, reads, run, text_turn, turn, with_items}

-- ---- opcodes

argument_front : (bytes rest : List ℕ) → argument (length bytes) (bytes ++ rest) ≡ Some (bytes, rest)
unfolding argument
argument_front bytes rest =
    cond-true _ _ _ (le-leb (length bytes) (length (bytes ++ rest)) (omega (arith, length-append bytes rest)))
    ∙ ap₂ (λ (t d : List ℕ). Some (t, d)) (take-append_seam bytes rest) (drop-append_seam bytes rest)

text_is_read : (bytes rest : List ℕ) (stack : List Entry) → IsShort bytes
    → turn (88 ∷ ((to_le_bytes w32 (length bytes) ++ bytes) ++ rest)) stack ≡ goes rest (held (text bytes) ∷ stack)
text_is_read bytes rest stack short =
    ap (text_turn stack) (argument_front (to_le_bytes w32 (length bytes)) (bytes ++ rest))
    ∙ ap (λ (n : ℕ). pushed text stack (argument n (bytes ++ rest))) (from_le_bytes-to_le_bytes_4 (length bytes) short)
    ∙ ap (pushed text stack) (argument_front bytes rest)

double_is_read : (bits : ℕ) (rest : List ℕ) (stack : List Entry) → bits < 2 ^ 64
    → turn (71 ∷ (to_be_bytes w64 bits ++ rest)) stack ≡ goes rest (held (double bits) ∷ stack)
double_is_read bits rest stack fits =
    ap (pushed (λ b. double (from_be_bytes w64 b)) stack) (argument_front (to_be_bytes w64 bits) rest)
    ∙ ap (λ (n : ℕ). goes rest (held (double n) ∷ stack)) (from_be_bytes-to_be_bytes_8 bits fits)

below_32 : (z : ℤ) → FitsSigned w32 z → cast_unsigned w32 z < 2 ^ 32
below_32 (pos n) fits = omega (arith, fits.sfits)
below_32 (negsuc n) fits = omega (arith, fits.sfits)

below_64 : (z : ℤ) → FitsSigned w64 z → cast_unsigned w64 z < 2 ^ 64
below_64 (pos n) fits = omega (arith, fits.sfits)
below_64 (negsuc n) fits = omega (arith, fits.sfits)

narrow_fits : (z : ℤ) → is_narrow z ≡ true → FitsSigned w32 z
narrow_fits (pos n) h = record { sfits = ltb-true n (2 ^ 31) h }
narrow_fits (negsuc n) h = record { sfits = ltb-true n (2 ^ 31) h }

narrow_is_read : (z : ℤ) (rest : List ℕ) (stack : List Entry) → FitsSigned w32 z
    → turn (74 ∷ (to_le_bytes w32 (cast_unsigned w32 z) ++ rest)) stack ≡ goes rest (held (whole z) ∷ stack)
narrow_is_read z rest stack fits =
    ap (pushed (λ b. whole (cast_signed w32 (from_le_bytes w32 b))) stack) (argument_front (to_le_bytes w32 (cast_unsigned w32 z)) rest)
    ∙ ap (λ (n : ℕ). goes rest (held (whole (cast_signed w32 n)) ∷ stack)) (from_le_bytes-to_le_bytes_4 (cast_unsigned w32 z) (below_32 z fits))
    ∙ ap (λ (y : ℤ). goes rest (held (whole y) ∷ stack)) (to_z-of_z w32 z fits)

wide_is_read : (z : ℤ) (rest : List ℕ) (stack : List Entry) → FitsSigned w64 z
    → turn (138 ∷ (8 ∷ (to_le_bytes w64 (cast_unsigned w64 z) ++ rest))) stack ≡ goes rest (held (whole z) ∷ stack)
wide_is_read z rest stack fits =
    ap (pushed (λ b. whole (cast_signed w64 (from_le_bytes w64 b))) stack) (argument_front (to_le_bytes w64 (cast_unsigned w64 z)) rest)
    ∙ ap (λ (n : ℕ). goes rest (held (whole (cast_signed w64 n)) ∷ stack)) (from_le_bytes-to_le_bytes_8 (cast_unsigned w64 z) (below_64 z fits))
    ∙ ap (λ (y : ℤ). goes rest (held (whole y) ∷ stack)) (to_z-of_z w64 z fits)

-- ---- runs

-- With as many opcodes as there are bytes a reader comes to the rest with as many as it has bytes.
abbrev Passes : ℕ → List ℕ → List Entry → List ℕ → List Entry → Type 0
Passes m bytes stack rest after = (n : ℕ) × (length rest ≤ n) × (run m bytes stack ≡ run n rest after)

one_turn : (m code : ℕ) (bytes rest : List ℕ) (stack after : List Entry)
    → length (code ∷ bytes) ≤ m → turn (code ∷ bytes) stack ≡ goes rest after → length rest ≤ length bytes → Passes m (code ∷ bytes) stack rest after
unfolding run
one_turn zero code bytes rest stack after long is shorter = absurd (omega (arith, long))
one_turn (suc n) code bytes rest stack after long is shorter = (n, omega (arith, long, shorter), ap (goes_on (run n)) is)

then_passes : (m : ℕ) (a b c : List ℕ) (s t u : List Entry) → Passes m a s b t → ((n : ℕ) → length b ≤ n → Passes n b t c u) → Passes m a s c u
then_passes m a b c s t u p next = let q = next p.0 p.1 in (q.0, q.1, p.2 ∙ q.2)

regrouped : (m : ℕ) (a b c : List ℕ) (s : List Entry) (rest : List ℕ) (after : List Entry) → length ((a ++ b) ++ c) ≤ m
    → (length (a ++ (b ++ c)) ≤ m → Passes m (a ++ (b ++ c)) s rest after) → Passes m ((a ++ b) ++ c) s rest after
regrouped m a b c s rest after long p =
    subst (λ t. Passes m t s rest after) (sym (append_assoc a b c)) (p (subst (λ t. length t ≤ m) (append_assoc a b c) long))

coded : (code : List ℕ) (first : ℕ) (body : List ℕ) → code ≡ first ∷ body → (m : ℕ) (rest : List ℕ) (stack after : List Entry)
    → turn (first ∷ (body ++ rest)) stack ≡ goes rest after → length (code ++ rest) ≤ m → Passes m (code ++ rest) stack rest after
coded code first body is m rest stack after read long =
    subst (λ x. length (x ++ rest) ≤ m → Passes m (x ++ rest) stack rest after) (sym is)
    (λ l. one_turn m first (body ++ rest) rest stack after l read (omega (arith, length-append body rest))) long

text_passes : (bytes : List ℕ) → IsShort bytes → (m : ℕ) (rest : List ℕ) (stack : List Entry) → length (text_code bytes ++ rest) ≤ m
    → Passes m (text_code bytes ++ rest) stack rest (held (text bytes) ∷ stack)
unfolding text_code
text_passes bytes short m rest stack long =
    coded _ 88 (to_le_bytes w32 (length bytes) ++ bytes) refl m rest stack _ (text_is_read bytes rest stack short) long

double_passes : (bits : ℕ) → bits < 2 ^ 64 → (m : ℕ) (rest : List ℕ) (stack : List Entry) → length (double_code bits ++ rest) ≤ m
    → Passes m (double_code bits ++ rest) stack rest (held (double bits) ∷ stack)
unfolding double_code
double_passes bits fits m rest stack long =
    coded _ 71 (to_be_bytes w64 bits) refl m rest stack _ (double_is_read bits rest stack fits) long

whole_passes : (z : ℤ) → FitsSigned w64 z → (m : ℕ) (rest : List ℕ) (stack : List Entry) → length (whole_code z ++ rest) ≤ m
    → Passes m (whole_code z ++ rest) stack rest (held (whole z) ∷ stack)
unfolding whole_code
whole_passes z fits m rest stack long =
    ⊎_elim
    (λ narrow.
    coded _ 74 (to_le_bytes w32 (cast_unsigned w32 z)) (cond-true (is_narrow z) _ _ narrow) m rest stack _ (narrow_is_read z rest stack (narrow_fits z narrow)) long)
    (λ wide.
    coded _ 138 (8 ∷ to_le_bytes w64 (cast_unsigned w64 z)) (cond-false (is_narrow z) _ _ wide) m rest stack _ (wide_is_read z rest stack fits) long)
    (cases_Bool (is_narrow z))

-- ---- sequences and mappings

-- the items on a stack, the last on top
abbrev stacked : Items → List Entry → List Entry
stacked no_items stack = stack
stacked (item value items) stack = stacked items (held value ∷ stack)

above_stacked : (items : Items) (stack : List Entry) (more : Items) → above_mark (stacked items stack) more ≡ above_mark stack (with_items items more)
above_stacked no_items stack more = refl
above_stacked (item value items) stack more = above_stacked items (held value ∷ stack) more

with_none : (items : Items) → with_items items no_items ≡ items
with_none no_items = refl
with_none (item value items) = ap (item value) (with_none items)

marked : (items : Items) (stack : List Entry) → above_mark (stacked items (mark ∷ stack)) no_items ≡ Some (items, stack)
marked items stack = above_stacked items (mark ∷ stack) no_items ∙ ap (λ (i : Items). Some (i, stack)) (with_none items)

-- keys and values in turn
abbrev in_turn : Members → Items
in_turn no_members = no_items
in_turn (member key value members) = item (text key) (item value (in_turn members))

members_in_turn : (members : Members) → members_of (in_turn members) ≡ Some members
members_in_turn no_members = refl
members_in_turn (member key value members) = ap (option_map (member key value)) (members_in_turn members)

mutual
  pub value_passes : (value : Value) → FitsPickle value → (m : ℕ) (rest : List ℕ) (stack : List Entry) → length (value_code value ++ rest) ≤ m → Passes m (value_code value ++ rest) stack rest (held value ∷ stack)
  value_passes none fits m rest stack long = one_turn m 78 rest rest stack (held none ∷ stack) long refl (omega arith)
  value_passes (boolean true) fits m rest stack long = one_turn m 136 rest rest stack (held (boolean true) ∷ stack) long refl (omega arith)
  value_passes (boolean false) fits m rest stack long = one_turn m 137 rest rest stack (held (boolean false) ∷ stack) long refl (omega arith)
  value_passes (whole number) fits m rest stack long = whole_passes number fits m rest stack long
  value_passes (double bits) fits m rest stack long = double_passes bits fits m rest stack long
  value_passes (text bytes) fits m rest stack long = text_passes bytes fits m rest stack long
  value_passes (sequence items) fits m rest stack long =
      let end = (items_code items ++ 101 ∷ []) ++ rest in
      let below = held (sequence no_items) ∷ stack in
      let after = held (sequence items) ∷ stack in
      then_passes m (93 ∷ (40 ∷ end)) (40 ∷ end) rest stack below after (one_turn m 93 (40 ∷ end) (40 ∷ end) stack below long refl (omega arith)) (λ n l.
      then_passes n (40 ∷ end) end rest below (mark ∷ below) after (one_turn n 40 end end below (mark ∷ below) l refl (omega arith)) (λ n' l'.
      regrouped n' (items_code items) (101 ∷ []) rest (mark ∷ below) rest after l' (λ l''.
      then_passes n' (items_code items ++ 101 ∷ rest) (101 ∷ rest) rest (mark ∷ below) (stacked items (mark ∷ below)) after (items_pass items fits n' (101 ∷ rest) (mark ∷ below) l'') (λ k few.
      one_turn k 101 rest rest (stacked items (mark ∷ below)) after few (ap (appended rest) (marked items below)) (omega arith)))))
  value_passes (mapping members) fits m rest stack long =
      let end = (members_code members ++ 117 ∷ []) ++ rest in
      let below = held (mapping no_members) ∷ stack in
      let after = held (mapping members) ∷ stack in
      then_passes m (125 ∷ (40 ∷ end)) (40 ∷ end) rest stack below after (one_turn m 125 (40 ∷ end) (40 ∷ end) stack below long refl (omega arith)) (λ n l.
      then_passes n (40 ∷ end) end rest below (mark ∷ below) after (one_turn n 40 end end below (mark ∷ below) l refl (omega arith)) (λ n' l'.
      regrouped n' (members_code members) (117 ∷ []) rest (mark ∷ below) rest after l' (λ l''.
      then_passes n' (members_code members ++ 117 ∷ rest) (117 ∷ rest) rest (mark ∷ below) (stacked (in_turn members) (mark ∷ below)) after (members_pass members fits n' (117 ∷ rest) (mark ∷ below) l'') (λ k few.
      one_turn k 117 rest rest (stacked (in_turn members) (mark ∷ below)) after few
      (ap (entered rest) (marked (in_turn members) below) ∙ ap (λ (ms : Option Members). joined rest ms below) (members_in_turn members)) (omega arith)))))

  items_pass : (items : Items) → ItemsFit items → (m : ℕ) (rest : List ℕ) (stack : List Entry) → length (items_code items ++ rest) ≤ m → Passes m (items_code items ++ rest) stack rest (stacked items stack)
  items_pass no_items fits m rest stack long = (m, long, refl)
  items_pass (item value items) fits m rest stack long =
      regrouped m (value_code value) (items_code items) rest stack rest (stacked (item value items) stack) long (λ l.
      then_passes m (value_code value ++ (items_code items ++ rest)) (items_code items ++ rest) rest stack (held value ∷ stack) (stacked (item value items) stack)
      (value_passes value fits.0 m (items_code items ++ rest) stack l) (λ n few.
      items_pass items fits.1 n rest (held value ∷ stack) few))

  members_pass : (members : Members) → MembersFit members → (m : ℕ) (rest : List ℕ) (stack : List Entry) → length (members_code members ++ rest) ≤ m → Passes m (members_code members ++ rest) stack rest (stacked (in_turn members) stack)
  members_pass no_members fits m rest stack long = (m, long, refl)
  members_pass (member key value members) fits m rest stack long =
      regrouped m (text_code key) (value_code value ++ members_code members) rest stack rest (stacked (in_turn (member key value members)) stack) long (λ l.
      let after = stacked (in_turn (member key value members)) stack in
      let further = (value_code value ++ members_code members) ++ rest in
      then_passes m (text_code key ++ further) further rest stack (held (text key) ∷ stack) after (text_passes key fits.0 m further stack l) (λ n few.
      regrouped n (value_code value) (members_code members) rest (held (text key) ∷ stack) rest after few (λ l'.
      then_passes n (value_code value ++ (members_code members ++ rest)) (members_code members ++ rest) rest (held (text key) ∷ stack) (held value ∷ (held (text key) ∷ stack)) after
      (value_passes value fits.1 n (members_code members ++ rest) (held (text key) ∷ stack) l') (λ k less.
      members_pass members fits.2 k rest (held value ∷ (held (text key) ∷ stack)) less))))

-- ---- the whole

ends_at : (n : ℕ) (value : Value) → 1 ≤ n → run n (46 ∷ []) (held value ∷ []) ≡ Some value
unfolding run
ends_at zero value some = absurd (omega (arith, some))
ends_at (suc n) value some = refl

pub read_back : (value : Value) → FitsPickle value → reads (pickled value) ≡ Some value
read_back value fits =
    let p = value_passes value fits (length (value_code value ++ 46 ∷ [])) (46 ∷ []) [] (omega arith) in
    p.2 ∙ ends_at p.0 value (omega (arith, p.1))
