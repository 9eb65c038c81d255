-- What the states of rows cover, and where a byte leads from them.
use Rattle.std.proofs.Common.{◌≡◌, ℕ, zero, suc, ◌<◌, ◌≤◌, ◌⊎◌, inl, inr, Bool, true, false, ◌&&◌, ◌||◌, List, [], ◌∷◌, ◌++◌, length, drop, Some, None, refl, sym, ap, ◌∙◌, subst, arith, append_assoc, append-nil}
use Rattle.path_glob.specs.Bits.{shifted}
use Rattle.path_glob.specs.Glob.{Simple, Exact, AnyByte, AnyRow, OneOf, RowCovers, SomeCovers}
use Rattle.path_glob.specs.Parts.{covers_byte, simple_said}
use Rattle.path_glob.specs.States.{Mark, First, Star, End, Over, AreRows, AreStates, LeadOut, has_mark, leads_on, leads_out, mark_at, state_of}
use Rattle.path_glob.specs.declared.cut.ByteSet.{ByteSet}
use Rattle.path_glob.specs.declared.cut.ByteSet.TheVariants.{One, Any, Members}
use Rattle.path_glob.specs.declared.cut.SimplePiece.TheVariants.{Byte}
use Rattle.path_glob.specs.declared.states.State.{State}
use Rattle.path_glob.proofs.CoverLemmas.{Tells, tells_no}
use Rattle.path_glob.proofs.PositionLemmas.{and_true, both_true, either_true, from_piece, one_true, to_piece}

-- what a row covers, behind a `*` or not
abbrev pub Behind : Bool → List Simple → List ℕ → Type 0
Behind false row bytes = RowCovers row bytes
Behind true row bytes = RowCovers (AnyRow ∷ row) bytes

-- ---- a star takes one byte more, or none

star_takes : (row : List Simple) (b : ℕ) (bytes : List ℕ) → RowCovers (AnyRow ∷ row) (b ∷ bytes) → RowCovers row (b ∷ bytes) ⊎ RowCovers (AnyRow ∷ row) bytes
star_takes row b bytes ([], rest, is, any, covers) = inl (subst (RowCovers row) (sym is) covers)
star_takes row b bytes (x ∷ front, rest, is, any, covers) = let more : bytes ≡ front ++ rest = cc in inr (front, rest, more, tt, covers)

star_skips : (row : List Simple) (bytes : List ℕ) → RowCovers row bytes → RowCovers (AnyRow ∷ row) bytes
star_skips row bytes covers = ([], bytes, refl, tt, covers)

star_takes_one : (row : List Simple) (b : ℕ) (bytes : List ℕ) → RowCovers (AnyRow ∷ row) bytes → RowCovers (AnyRow ∷ row) (b ∷ bytes)
star_takes_one row b bytes (front, rest, is, any, covers) = (b ∷ front, rest, ap (λ (l : List ℕ). b ∷ l) is, tt, covers)

star_at_end : (row : List Simple) → RowCovers (AnyRow ∷ row) [] → RowCovers row []
star_at_end row ([], rest, is, any, covers) = subst (RowCovers row) (sym is) covers
star_at_end row (x ∷ front, rest, is, any, covers) = absurd cc

-- two stars are one
one_star : (row : List Simple) (bytes : List ℕ) → RowCovers (AnyRow ∷ AnyRow ∷ row) bytes → RowCovers (AnyRow ∷ row) bytes
one_star row bytes (front, rest, is, any, (more, left, split, some, covers)) =
    (front ++ more, left, is ∙ ap (λ (l : List ℕ). front ++ l) split ∙ sym (append_assoc front more left), tt, covers)

-- ---- a piece of one byte takes one

byte_takes : (set : ByteSet) (row : List Simple) (b : ℕ) (bytes : List ℕ) → RowCovers (simple_said (Byte set) ∷ row) (b ∷ bytes) → (covers_byte set b ≡ true) × RowCovers row bytes
byte_takes set row b bytes (front, rest, is, one, covers) =
    let o = from_piece set front one in
    let whole : ◌≡◌ {A = List ℕ} (b ∷ bytes) (o.0 ∷ rest) = is ∙ ap (λ (l : List ℕ). l ++ rest) o.1 in
    let byte : o.0 ≡ b = cc in
    let others : rest ≡ bytes = cc in
    (subst (λ (x : ℕ). covers_byte set x ≡ true) byte o.2, subst (RowCovers row) others covers)

byte_taken : (set : ByteSet) (row : List Simple) (b : ℕ) (bytes : List ℕ) → covers_byte set b ≡ true → RowCovers row bytes → RowCovers (simple_said (Byte set) ∷ row) (b ∷ bytes)
byte_taken set row b bytes one covers = (b ∷ [], bytes, refl, to_piece set (b ∷ []) (b, refl, one), covers)

byte_at_end : (set : ByteSet) (row : List Simple) → RowCovers (simple_said (Byte set) ∷ row) [] → ⊥
byte_at_end set row (front, rest, is, one, covers) =
    let o = from_piece set front one in
    let whole : ◌≡◌ {A = List ℕ} [] (o.0 ∷ rest) = is ∙ ap (λ (l : List ℕ). l ++ rest) o.1 in
    cc

-- ---- a row

end_leads : (first star : Bool) (more : List State) (bytes : List ℕ) → Tells (leads_out (state_of first star None ∷ more) bytes) (Behind star [] bytes)
end_leads first false more [] = (λ e. refl, λ covers. refl)
end_leads first true more [] = (λ e. ([], [], refl, tt, refl), λ covers. refl)
end_leads first false more (b ∷ bytes) = tells_no (λ covers. let none : ◌≡◌ {A = List ℕ} (b ∷ bytes) [] = covers in cc)
end_leads first true more (b ∷ bytes) = (
  λ e. (b ∷ bytes, [], sym (append-nil (b ∷ bytes)), tt, refl),
  λ covers. one_true (leads_out (state_of first true None ∷ more) bytes) false (inl ((end_leads first true more bytes).1 (bytes, [], sym (append-nil bytes), tt, refl))),
)

byte_leads : (first star : Bool) (set : ByteSet) (row : List Simple) (others : List State) → ((bytes : List ℕ) → Tells (leads_out others bytes) (RowCovers row bytes))
    → (bytes : List ℕ) → Tells (leads_out (state_of first star (Some set) ∷ others) bytes) (Behind star (simple_said (Byte set) ∷ row) bytes)
byte_leads first false set row others tells [] = tells_no (byte_at_end set row)
byte_leads first true set row others tells [] = tells_no (λ covers. byte_at_end set row (star_at_end (simple_said (Byte set) ∷ row) covers))
byte_leads first false set row others tells (b ∷ bytes) = (
  λ e. let both = and_true (covers_byte set b) (leads_out others bytes) e in byte_taken set row b bytes both.0 ((tells bytes).0 both.1),
  λ covers. let w = byte_takes set row b bytes covers in both_true (covers_byte set b) (leads_out others bytes) w.0 ((tells bytes).1 w.1),
)
byte_leads first true set row others tells (b ∷ bytes) =
    let pieces = simple_said (Byte set) ∷ row in
    let stay = leads_out (state_of first true (Some set) ∷ others) bytes in
    let on = covers_byte set b && leads_out others bytes in (
      λ e. elim (either_true stay on e) [
        | inl more ↦ star_takes_one pieces b bytes ((byte_leads first true set row others tells bytes).0 more)
        | inr one ↦
            let both = and_true (covers_byte set b) (leads_out others bytes) one in
            star_skips pieces (b ∷ bytes) (byte_taken set row b bytes both.0 ((tells bytes).0 both.1))
      ],
      λ covers. one_true stay on (elim (star_takes pieces b bytes covers) [
        | inl here ↦ let w = byte_takes set row b bytes here in inr (both_true (covers_byte set b) (leads_out others bytes) w.0 ((tells bytes).1 w.1))
        | inr later ↦ inl ((byte_leads first true set row others tells bytes).1 later)
      ]),
    )

-- the states of a row that begins with a piece of one byte
abbrev ByteFirst : Bool → Bool → Simple → List Simple → List State → Type 0
ByteFirst first star piece row states =
    (set : ByteSet) × (others : List State) × (states ≡ state_of first star (Some set) ∷ others)
    × (simple_said (Byte set) ≡ piece) × AreStates false false row others

first_leads : (first star : Bool) (piece : Simple) (row : List Simple) (states : List State)
    → ((others : List State) → AreStates false false row others → (more : List State) (bytes : List ℕ) → Tells (leads_out (others ++ more) bytes) (RowCovers row bytes))
    → ByteFirst first star piece row states → (more : List State) (bytes : List ℕ) → Tells (leads_out (states ++ more) bytes) (Behind star (piece ∷ row) bytes)
first_leads first star piece row states lead (set, others, is, said, are) more bytes =
    subst (λ (l : List State). Tells (leads_out (l ++ more) bytes) (Behind star (piece ∷ row) bytes)) (sym is)
    (subst (λ (p : Simple). Tells (leads_out (state_of first star (Some set) ∷ (others ++ more)) bytes) (Behind star (p ∷ row) bytes)) said
    (byte_leads first star set row (others ++ more) (lead others are more) bytes))

pub states_lead : (first star : Bool) (row : List Simple) (states : List State) → AreStates first star row states → (more : List State) (bytes : List ℕ)
    → Tells (leads_out (states ++ more) bytes) (Behind star row bytes)
states_lead first star [] states is more bytes =
    subst (λ (l : List State). Tells (leads_out (l ++ more) bytes) (Behind star [] bytes)) (sym is) (end_leads first star more bytes)
states_lead first false (AnyRow ∷ row) states are more bytes = states_lead first true row states are more bytes
states_lead first true (AnyRow ∷ row) states are more bytes =
    let tells = states_lead first true row states are more bytes in
    (λ e. star_skips (AnyRow ∷ row) bytes (tells.0 e), λ covers. tells.1 (one_star row bytes covers))
states_lead first star (Exact b ∷ row) states are more bytes = first_leads first star (Exact b) row states (states_lead false false row) are more bytes
states_lead first star (AnyByte ∷ row) states are more bytes = first_leads first star AnyByte row states (states_lead false false row) are more bytes
states_lead first star (OneOf ranges ∷ row) states are more bytes = first_leads first star (OneOf ranges) row states (states_lead false false row) are more bytes

-- what the first piece of a row makes of the states of what follows it
pub star_first : (first star : Bool) (row after : List Simple) (states : List State) → row ≡ AnyRow ∷ after → AreStates first true after states → AreStates first star row states
star_first first star row after states is are = subst (λ (r : List Simple). AreStates first star r states) (sym is) are

pub byte_first : (first star : Bool) (set : ByteSet) (row after : List Simple) (states : List State) → row ≡ simple_said (Byte set) ∷ after → AreStates false false after states
    → AreStates first star row (state_of first star (Some set) ∷ states)
byte_first first star (One b) row after states is are = subst (λ (r : List Simple). AreStates first star r (state_of first star (Some (One b)) ∷ states)) (sym is) (One b, states, refl, refl, are)
byte_first first star Any row after states is are = subst (λ (r : List Simple). AreStates first star r (state_of first star (Some Any) ∷ states)) (sym is) (Any, states, refl, refl, are)
byte_first first star (Members members) row after states is are =
    subst (λ (r : List Simple). AreStates first star r (state_of first star (Some (Members members)) ∷ states)) (sym is) (Members members, states, refl, refl, are)

pub row_ends : (first star : Bool) (row : List Simple) → row ≡ [] → AreStates first star row (state_of first star None ∷ [])
row_ends first star row is = subst (λ (r : List Simple). AreStates first star r (state_of first star None ∷ [])) (sym is) refl

pub states_onto : (old added tail new : List State) → new ≡ old ++ added → new ++ tail ≡ old ++ (added ++ tail)
states_onto old added tail new is = ap (λ (l : List State). l ++ tail) is ∙ append_assoc old added tail

-- ---- rows

-- whether bytes lead from the first state of a row to its end
abbrev row_leads_out : List State → List ℕ → Bool
row_leads_out [] bytes = false
row_leads_out (state ∷ states) bytes = (state.is_first && leads_out (state ∷ states) bytes) || row_leads_out states bytes

past_first : (star : Bool) (row : List Simple) (one others : List State) (bytes : List ℕ) → AreStates false star row one → row_leads_out (one ++ others) bytes ≡ row_leads_out others bytes
past_first star [] one others bytes is = ap (λ (l : List State). row_leads_out (l ++ others) bytes) is
past_first star (AnyRow ∷ row) one others bytes are = past_first true row one others bytes are
past_first star (Exact b ∷ row) one others bytes (set, left, is, said, are) = ap (λ (l : List State). row_leads_out (l ++ others) bytes) is ∙ past_first false row left others bytes are
past_first star (AnyByte ∷ row) one others bytes (set, left, is, said, are) = ap (λ (l : List State). row_leads_out (l ++ others) bytes) is ∙ past_first false row left others bytes are
past_first star (OneOf ranges ∷ row) one others bytes (set, left, is, said, are) = ap (λ (l : List State). row_leads_out (l ++ others) bytes) is ∙ past_first false row left others bytes are

-- the rest of a row behind its first state
behind_first : (star : Bool) (set : ByteSet) (row : List Simple) (one left others : List State) (bytes : List ℕ) → one ≡ state_of true star (Some set) ∷ left → AreStates false false row left
    → row_leads_out (one ++ others) bytes ≡ (leads_out (one ++ others) bytes || row_leads_out others bytes)
behind_first star set row one left others bytes is are =
    ap (λ (l : List State). row_leads_out (l ++ others) bytes) is
    ∙ ap (λ (x : Bool). leads_out (state_of true star (Some set) ∷ (left ++ others)) bytes || x) (past_first false row left others bytes are)
    ∙ ap (λ (l : List State). leads_out (l ++ others) bytes || row_leads_out others bytes) (sym is)

row_first : (star : Bool) (row : List Simple) (one others : List State) (bytes : List ℕ) → AreStates true star row one
    → row_leads_out (one ++ others) bytes ≡ (leads_out (one ++ others) bytes || row_leads_out others bytes)
row_first star [] one others bytes is =
    ap (λ (l : List State). row_leads_out (l ++ others) bytes) is ∙ ap (λ (l : List State). leads_out (l ++ others) bytes || row_leads_out others bytes) (sym is)
row_first star (AnyRow ∷ row) one others bytes are = row_first true row one others bytes are
row_first star (Exact b ∷ row) one others bytes (set, left, is, said, are) = behind_first star set row one left others bytes is are
row_first star (AnyByte ∷ row) one others bytes (set, left, is, said, are) = behind_first star set row one left others bytes is are
row_first star (OneOf ranges ∷ row) one others bytes (set, left, is, said, are) = behind_first star set row one left others bytes is are

rows_tell : (rows : List (List Simple)) (states : List State) → AreRows rows states → (bytes : List ℕ) → Tells (row_leads_out states bytes) (SomeCovers rows bytes)
rows_tell [] states is bytes = subst (λ (l : List State). Tells (row_leads_out l bytes) ⊥) (sym is) (tells_no (λ none. none))
rows_tell (row ∷ rows) states (one, others, is, row_states, row_others) bytes =
    let here = states_lead true false row one row_states others bytes in
    let there = rows_tell rows others row_others bytes in
    let e : row_leads_out states bytes ≡ (leads_out (one ++ others) bytes || row_leads_out others bytes) =
    ap (λ (l : List State). row_leads_out l bytes) is ∙ row_first false row one others bytes row_states in (
      λ yes. elim (either_true (leads_out (one ++ others) bytes) (row_leads_out others bytes) (sym e ∙ yes)) [ inl one ↦ inl (here.0 one) | inr other ↦ inr (there.0 other) ],
      λ covers. e ∙ one_true (leads_out (one ++ others) bytes) (row_leads_out others bytes) (elim covers [ inl one ↦ inl (here.1 one) | inr other ↦ inr (there.1 other) ]),
    )

firsts_lead : (states : List State) (bytes : List ℕ) → row_leads_out states bytes ≡ true → LeadOut (mark_at First states) states bytes
firsts_lead [] bytes e = absurd cc
firsts_lead (state ∷ states) bytes e = elim (either_true (state.is_first && leads_out (state ∷ states) bytes) (row_leads_out states bytes) e) [
  | inl here ↦ let both = and_true state.is_first (leads_out (state ∷ states) bytes) here in (0, both.0, both.1)
  | inr there ↦ let w = firsts_lead states bytes there in (suc w.0, w.1, w.2)
]

lead_firsts : (states : List State) (place : ℕ) (bytes : List ℕ) → mark_at First states place ≡ true → leads_out (drop place states) bytes ≡ true → row_leads_out states bytes ≡ true
lead_firsts [] place bytes first leads = absurd cc
lead_firsts (state ∷ states) zero bytes first leads =
    one_true (state.is_first && leads_out (state ∷ states) bytes) (row_leads_out states bytes) (inl (both_true state.is_first (leads_out (state ∷ states) bytes) first leads))
lead_firsts (state ∷ states) (suc place) bytes first leads =
    one_true (state.is_first && leads_out (state ∷ states) bytes) (row_leads_out states bytes) (inr (lead_firsts states place bytes first leads))

-- what leads from the first states of rows to their ends is what one of them covers
pub rows_lead : (rows : List (List Simple)) (states : List State) (bytes : List ℕ) → AreRows rows states → LeadOut (mark_at First states) states bytes → SomeCovers rows bytes
rows_lead rows states bytes are (place, first, leads) = (rows_tell rows states are bytes).0 (lead_firsts states place bytes first leads)

pub lead_rows : (rows : List (List Simple)) (states : List State) (bytes : List ℕ) → AreRows rows states → SomeCovers rows bytes → LeadOut (mark_at First states) states bytes
lead_rows rows states bytes are covers = firsts_lead states bytes ((rows_tell rows states are bytes).1 covers)

-- ---- a byte more

-- the state at a place
pub record At (states : List State) (place : ℕ) : Type 0 where
  pub state : State
  pub left : drop place states ≡ state ∷ drop (suc place) states
  pub marks : (mark : Mark) → mark_at mark states place ≡ has_mark mark state

pub state_at : (states : List State) (place : ℕ) → place < length states → At states place
state_at [] place within = absurd (omega (arith, within))
state_at (state ∷ states) zero within = record { state = state; left = refl; marks = λ mark. refl }
state_at (state ∷ states) (suc place) within =
    let at = state_at states place (omega (arith, within)) in
    record { state = at.state; left = at.left; marks = at.marks }

pub none_past : (mark : Mark) (states : List State) (place : ℕ) → length states ≤ place → mark_at mark states place ≡ false
none_past mark [] place past = refl
none_past mark (state ∷ states) zero past = absurd (omega (arith, past))
none_past mark (state ∷ states) (suc place) past = none_past mark states place (omega (arith, past))

pub leads_within : (states : List State) (place : ℕ) (bytes : List ℕ) → leads_out (drop place states) bytes ≡ true → place < length states
leads_within [] zero bytes leads = absurd cc
leads_within [] (suc place) bytes leads = absurd cc
leads_within (state ∷ states) zero bytes leads = omega arith
leads_within (state ∷ states) (suc place) bytes leads = let near = leads_within states place bytes leads in omega (arith, near)

-- the states that are held after a byte, by those that were held before it
abbrev pub IsStep : List State → ℕ → (ℕ → Bool) → (ℕ → Bool) → Type 0
IsStep states b old new =
    (place : ℕ) → place < length states
    → new place ≡ (shifted (λ q. old q && mark_at (Over b) states q) place || (old place && mark_at Star states place))

-- from a state a byte leads on to the next, or back where a star stands
stays_or_goes : (states : List State) (b place : ℕ) (bytes : List ℕ) → At states place → leads_out (drop place states) (b ∷ bytes) ≡ true
    → ((mark_at Star states place ≡ true) × (leads_out (drop place states) bytes ≡ true)) ⊎ ((mark_at (Over b) states place ≡ true) × (leads_out (drop (suc place) states) bytes ≡ true))
stays_or_goes states b place bytes at leads =
    let state = at.state in
    let e : ((state.has_star && leads_out (state ∷ drop (suc place) states) bytes) || (leads_on state.next b && leads_out (drop (suc place) states) bytes)) ≡ true =
    sym (ap (λ (l : List State). leads_out l (b ∷ bytes)) at.left) ∙ leads in
    elim (either_true (state.has_star && leads_out (state ∷ drop (suc place) states) bytes) (leads_on state.next b && leads_out (drop (suc place) states) bytes) e) [
      | inl stays ↦
          let both = and_true state.has_star (leads_out (state ∷ drop (suc place) states) bytes) stays in
          inl (at.marks Star ∙ both.0, ap (λ (l : List State). leads_out l bytes) at.left ∙ both.1)
      | inr goes ↦
          let both = and_true (leads_on state.next b) (leads_out (drop (suc place) states) bytes) goes in
          inr (at.marks (Over b) ∙ both.0, both.1)
    ]

stays : (states : List State) (b place : ℕ) (bytes : List ℕ) → At states place → mark_at Star states place ≡ true → leads_out (drop place states) bytes ≡ true → leads_out (drop place states) (b ∷ bytes) ≡ true
stays states b place bytes at star leads =
    let state = at.state in
    ap (λ (l : List State). leads_out l (b ∷ bytes)) at.left
    ∙ one_true (state.has_star && leads_out (state ∷ drop (suc place) states) bytes) (leads_on state.next b && leads_out (drop (suc place) states) bytes)
    (inl (both_true state.has_star (leads_out (state ∷ drop (suc place) states) bytes) (sym (at.marks Star) ∙ star) (sym (ap (λ (l : List State). leads_out l bytes) at.left) ∙ leads)))

goes : (states : List State) (b place : ℕ) (bytes : List ℕ) → At states place → mark_at (Over b) states place ≡ true → leads_out (drop (suc place) states) bytes ≡ true → leads_out (drop place states) (b ∷ bytes) ≡ true
goes states b place bytes at over leads =
    let state = at.state in
    ap (λ (l : List State). leads_out l (b ∷ bytes)) at.left
    ∙ one_true (state.has_star && leads_out (state ∷ drop (suc place) states) bytes) (leads_on state.next b && leads_out (drop (suc place) states) bytes)
    (inr (both_true (leads_on state.next b) (leads_out (drop (suc place) states) bytes) (sym (at.marks (Over b)) ∙ over) leads))

pub before_step : (states : List State) (b : ℕ) (old new : ℕ → Bool) (bytes : List ℕ) → IsStep states b old new → LeadOut old states (b ∷ bytes) → LeadOut new states bytes
before_step states b old new bytes is (place, held, leads) =
    let within = leads_within states place (b ∷ bytes) leads in
    elim (stays_or_goes states b place bytes (state_at states place within) leads) [
      | inl stay ↦ (
        place,
        is place within ∙ one_true (shifted (λ q. old q && mark_at (Over b) states q) place) (old place && mark_at Star states place) (inr (both_true (old place) (mark_at Star states place) held stay.0)),
        stay.1,
      )
      | inr go ↦ (
        suc place,
        is (suc place) (leads_within states (suc place) bytes go.1)
            ∙ one_true (old place && mark_at (Over b) states place) (old (suc place) && mark_at Star states (suc place)) (inl (both_true (old place) (mark_at (Over b) states place) held go.0)),
        go.1,
      )
    ]

-- where a state that is held came from
came_from : (states : List State) (b : ℕ) (old : ℕ → Bool) (place : ℕ) (bytes : List ℕ)
    → (shifted (λ q. old q && mark_at (Over b) states q) place ≡ true) ⊎ ((old place && mark_at Star states place) ≡ true)
    → leads_out (drop place states) bytes ≡ true → place < length states → LeadOut old states (b ∷ bytes)
came_from states b old place bytes (inr stay) leads within =
    let both = and_true (old place) (mark_at Star states place) stay in
    (place, both.0, stays states b place bytes (state_at states place within) both.1 leads)
came_from states b old zero bytes (inl go) leads within = absurd cc
came_from states b old (suc place) bytes (inl go) leads within =
    let both = and_true (old place) (mark_at (Over b) states place) go in
    (place, both.0, goes states b place bytes (state_at states place (omega (arith, within))) both.1 leads)

pub after_step : (states : List State) (b : ℕ) (old new : ℕ → Bool) (bytes : List ℕ) → IsStep states b old new → LeadOut new states bytes → LeadOut old states (b ∷ bytes)
after_step states b old new bytes is (place, held, leads) =
    let within = leads_within states place bytes leads in
    came_from states b old place bytes (either_true (shifted (λ q. old q && mark_at (Over b) states q) place) (old place && mark_at Star states place) (sym (is place within) ∙ held)) leads within

-- where no byte is left, a state leads out that is the end of its row
pub at_end : (states : List State) (old : ℕ → Bool) → LeadOut old states [] → (place : ℕ) × (old place ≡ true) × (mark_at End states place ≡ true)
at_end states old (place, held, leads) =
    let at = state_at states place (leads_within states place [] leads) in
    (place, held, at.marks End ∙ sym (ap (λ (l : List State). leads_out l []) at.left) ∙ leads)

end_place : (states : List State) (place : ℕ) → mark_at End states place ≡ true → leads_out (drop place states) [] ≡ true
end_place [] place end = absurd cc
end_place (state ∷ states) zero end = end
end_place (state ∷ states) (suc place) end = end_place states place end

pub end_at : (states : List State) (old : ℕ → Bool) (place : ℕ) → old place ≡ true → mark_at End states place ≡ true → LeadOut old states []
end_at states old place held end = (place, held, end_place states place end)
