-- How positions in a node lead on, piece by piece.
use Rattle.std.proofs.Common.{◌≡◌, ℕ, zero, suc, ◌+◌, ◌-◌, ◌<◌, ◌≤◌, ◌⊎◌, inl, inr, Bool, true, false, ◌&&◌, ◌||◌, List, [], ◌∷◌, ◌++◌, map, length, drop, take, get_or, refl, sym, ap, ◌∙◌, subst, arith, append_assoc, append-nil, length-append}
use Rattle.std.proofs.Math.Seq.{drop-append_seam, drop-length}
use Rattle.std.proofs.lemmas.List.{drop-drop, drop_more, get_or-drop, length-drop, take-append-drop}
use Rattle.std.proofs.lemmas.Bool.{cases_lt, eqb-true}
use Rattle.path_glob.specs.declared.cut.ByteSet.{ByteSet}
use Rattle.path_glob.specs.declared.cut.ByteSet.TheVariants.{One, Any, Members}
use Rattle.path_glob.specs.declared.cut.SimplePiece.TheVariants.{Byte}
use Rattle.path_glob.specs.Parts.{covers_byte, simple_said}
use Rattle.path_glob.proofs.PartLemmas.{same_byte}
use Rattle.path_glob.specs.Glob.{Simple, AnyRow, Piece, Plain, Braces, Covers, NodeCovers, RowCovers, SomeCovers}
use Rattle.path_glob.specs.Positions.{Adds, Leads}

-- what stands before the rest of a node is as long as the way to it
pub lengths : (node bytes : List ℕ) (i j : ℕ) → i ≤ length node → j ≤ length node → drop i node ≡ bytes ++ drop j node → i + length bytes ≡ j
lengths node bytes i j low high is =
    omega (arith, ap length is, length-append bytes (drop j node), length-drop i node, length-drop j node)

-- the bytes of two parts, one after the other
abbrev pub InTurn : (List ℕ → Type 0) → (List ℕ → Type 0) → List ℕ → Type 0
InTurn first then bytes = (front : List ℕ) × (rest : List ℕ) × (bytes ≡ front ++ rest) × first front × then rest

pub leads_in_turn : {R S : List ℕ → Type 0} (node : List ℕ) (a b c : ℕ → Bool) → Leads R node a b → Leads S node b c → Leads (InTurn R S) node a c
leads_in_turn node a b c first then j within = (
  λ new.
      let s = (then j within).0 new in
      let f = (first s.0 s.2).0 s.3 in
      (f.0, f.1 ++ s.1, f.2, f.3, f.4 ∙ ap (λ (l : List ℕ). f.1 ++ l) s.4 ∙ sym (append_assoc f.1 s.1 (drop j node)), (f.1, s.1, refl, f.5, s.5)),
  λ w.
      let i = w.0 in
      let front = w.5.0 in
      let rest = w.5.1 in
      let is : drop i node ≡ front ++ (rest ++ drop j node) = w.4 ∙ ap (λ (l : List ℕ). l ++ drop j node) w.5.2 ∙ append_assoc front rest (drop j node) in
      let onward : drop (i + length front) node ≡ rest ++ drop j node = sym (drop-drop (length front) i node) ∙ ap (drop (length front)) is ∙ drop-append_seam front (rest ++ drop j node) in
      let fits : i + length front ≤ length node = omega (arith, w.2, ap length is, length-append front (rest ++ drop j node), length-drop i node) in
      (then j within).1 (i + length front, rest, fits, (first (i + length front) fits).1 (i, front, w.2, w.3, is ∙ ap (λ (l : List ℕ). front ++ l) (sym onward), w.5.3), onward, w.5.4),
)

-- no piece leads nowhere else
pub leads_nowhere : (node : List ℕ) (a : ℕ → Bool) → Leads (λ bytes. bytes ≡ []) node a a
leads_nowhere node a j within = (
  λ has. (j, [], within, has, refl, refl),
  λ w. subst (λ (i : ℕ). a i ≡ true) (omega (arith, lengths node w.1 w.0 j w.2 within w.4, ap length w.5)) w.3,
)

-- relations that hold of the same bytes lead alike
pub leads_alike : {R S : List ℕ → Type 0} (node : List ℕ) (a b : ℕ → Bool) → ((bytes : List ℕ) → R bytes → S bytes) → ((bytes : List ℕ) → S bytes → R bytes) → Leads R node a b → Leads S node a b
leads_alike node a b to back leads j within = (
  λ has. let w = (leads j within).0 has in (w.0, w.1, w.2, w.3, w.4, to w.1 w.5),
  λ w. (leads j within).1 (w.0, w.1, w.2, w.3, w.4, back w.1 w.5),
)

-- a row of simple pieces before other pieces
pub row_then : (row : List Simple) (pieces : List Piece) (bytes : List ℕ) → InTurn (RowCovers row) (NodeCovers pieces) bytes → NodeCovers (map Plain row ++ pieces) bytes
row_then [] pieces bytes (front, rest, is, none, covers) = subst (NodeCovers pieces) (sym (is ∙ ap (λ (l : List ℕ). l ++ rest) none)) covers
row_then (piece ∷ row) pieces bytes (front, rest, is, (one, others, split, first, more), covers) =
    (one, others ++ rest, is ∙ ap (λ (l : List ℕ). l ++ rest) split ∙ append_assoc one others rest, first, row_then row pieces (others ++ rest) (others, rest, refl, more, covers))

pub then_row : (row : List Simple) (pieces : List Piece) (bytes : List ℕ) → NodeCovers (map Plain row ++ pieces) bytes → InTurn (RowCovers row) (NodeCovers pieces) bytes
then_row [] pieces bytes covers = ([], bytes, refl, refl, covers)
then_row (piece ∷ row) pieces bytes (one, rest, is, first, covers) =
    let w = then_row row pieces rest covers in
    (one ++ w.0, w.1, is ∙ ap (λ (l : List ℕ). one ++ l) w.2 ∙ sym (append_assoc one w.0 w.1), (one, w.0, refl, first, w.3), w.4)

-- a set of positions to which values add: at the start, one value more, and the last value
pub adds_none : {R : List ℕ → Type 0} (node : List ℕ) (old none new : ℕ → Bool) → ((j : ℕ) → none j ≡ false) → Adds R node old none new → Leads R node old new
adds_none node old none new empty adds j within = (
  λ has. elim ((adds j within).0 has) [ inl here ↦ absurd (let e = sym (empty j) ∙ here in cc) | inr there ↦ there ],
  λ w. (adds j within).1 (inr w),
)

pub adds_more : (value : List Simple) (values : List (List Simple)) (node : List ℕ) (old a b new : ℕ → Bool) → Adds (RowCovers value) node old a b → Adds (SomeCovers values) node old b new → Adds (SomeCovers (value ∷ values)) node old a new
adds_more value values node old a b new one others j within = (
  λ has. elim ((others j within).0 has) [
    | inl here ↦ elim ((one j within).0 here) [ inl before ↦ inl before | inr w ↦ inr (w.0, w.1, w.2, w.3, w.4, inl w.5) ]
    | inr w ↦ inr (w.0, w.1, w.2, w.3, w.4, inr w.5)
  ],
  λ has. (others j within).1 (elim has [
    | inl before ↦ inl ((one j within).1 (inl before))
    | inr w ↦ elim w.5 [
      | inl here ↦ inl ((one j within).1 (inr (w.0, w.1, w.2, w.3, w.4, here)))
      | inr there ↦ inr (w.0, w.1, w.2, w.3, w.4, there)
    ]
  ]),
)

-- any row of bytes
pub leads_any_row : (node : List ℕ) (old new : ℕ → Bool)
    → ((j : ℕ) → j ≤ length node → (new j ≡ true → (i : ℕ) × (i ≤ j) × (old i ≡ true)) × ((i : ℕ) × (i ≤ j) × (old i ≡ true) → new j ≡ true))
    → Leads (Covers AnyRow) node old new
leads_any_row node old new is j within = (
  λ has.
      let w = (is j within).0 has in
      let onward : drop w.0 node ≡ take (j - w.0) (drop w.0 node) ++ drop j node =
      sym (take-append-drop (j - w.0) (drop w.0 node)) ∙ ap (λ (l : List ℕ). take (j - w.0) (drop w.0 node) ++ l) (drop-drop (j - w.0) w.0 node ∙ ap (λ (n : ℕ). drop n node) (omega (arith, w.1))) in
      (w.0, take (j - w.0) (drop w.0 node), omega (arith, w.1, within), w.2, onward, tt),
  λ w. (is j within).1 (w.0, omega (arith, lengths node w.1 w.0 j w.2 within w.4), w.3),
)

-- no position leads nowhere
pub leads_none : {R : List ℕ → Type 0} (node : List ℕ) (a : ℕ → Bool) → ((j : ℕ) → j ≤ length node → a j ≡ false) → Leads R node a a
leads_none node a none j within = (
  λ has. absurd (let e = sym (none j within) ∙ has in cc),
  λ w. absurd (let e = sym (none w.0 w.2) ∙ w.3 in cc),
)

-- one byte that passes a test
abbrev pub OneByte : (ℕ → Bool) → List ℕ → Type 0
OneByte test bytes = (b : ℕ) × (bytes ≡ b ∷ []) × (test b ≡ true)

pub and_true : (x y : Bool) → (x && y) ≡ true → (x ≡ true) × (y ≡ true)
and_true true y e = (refl, e)
and_true false y e = absurd cc

pub both_true : (x y : Bool) → x ≡ true → y ≡ true → (x && y) ≡ true
both_true x y e f = rw e f

-- what one byte is that comes before the rest of a node
byte_at : (node : List ℕ) (k b j : ℕ) → drop k node ≡ (b ∷ []) ++ drop j node → get_or node k 0 ≡ b
byte_at node k b j is =
    ap (λ (n : ℕ). get_or node n 0) (let e : k ≡ k + 0 = omega arith in e) ∙ sym (get_or-drop k node 0 0) ∙ ap (λ (l : List ℕ). get_or l 0 0) is

pub leads_one_byte : (test : ℕ → Bool) (node : List ℕ) (a b : ℕ → Bool) → b 0 ≡ false
    → ((j : ℕ) → j < length node → b (j + 1) ≡ (a j && test (get_or node j 0))) → Leads (OneByte test) node a b
leads_one_byte test node a b first next zero within = (
  λ has. absurd (let e = sym first ∙ has in cc),
  λ w. absurd (omega (arith, lengths node w.1 w.0 0 w.2 within w.4, ap length w.5.1)),
)
leads_one_byte test node a b first next (suc k) within =
    let e : suc k ≡ k + 1 = omega arith in
    let room : k < length node = omega (arith, within) in
    let here = next k room in (
      λ has.
          let parts = and_true (a k) (test (get_or node k 0)) (sym here ∙ sym (ap b e) ∙ has) in
          (k, get_or node k 0 ∷ [], omega (arith, within), parts.0, drop_more node k 0 room ∙ ap (λ (n : ℕ). get_or node k 0 ∷ drop n node) (sym e), (get_or node k 0, refl, parts.1)),
      λ w.
          let place : w.0 ≡ k = omega (arith, lengths node w.1 w.0 (suc k) w.2 within w.4, ap length w.5.1) in
          let byte : get_or node k 0 ≡ w.5.0 = byte_at node k w.5.0 (suc k) (ap (λ (n : ℕ). drop n node) (sym place) ∙ w.4 ∙ ap (λ (l : List ℕ). l ++ drop (suc k) node) w.5.1) in
          ap b e ∙ here ∙ both_true (a k) (test (get_or node k 0)) (subst (λ (i : ℕ). a i ≡ true) place w.3) (ap test byte ∙ w.5.2),
    )

pub to_piece : (set : ByteSet) (bytes : List ℕ) → OneByte (covers_byte set) bytes → Covers (simple_said (Byte set)) bytes
to_piece (One x) bytes (b, is, same) = is ∙ ap (λ (y : ℕ). y ∷ []) (eqb-true b x same)
to_piece Any bytes (b, is, same) = (b, is)
to_piece (Members members) bytes (b, is, same) = (b, is, same)

pub from_piece : (set : ByteSet) (bytes : List ℕ) → Covers (simple_said (Byte set)) bytes → OneByte (covers_byte set) bytes
from_piece (One x) bytes is = (x, is, same_byte x)
from_piece Any bytes (b, is) = (b, is, refl)
from_piece (Members members) bytes (b, is, same) = (b, is, same)

-- one byte that the piece covers
pub leads_byte : (set : ByteSet) (node : List ℕ) (a b : ℕ → Bool) → b 0 ≡ false
    → ((j : ℕ) → j < length node → b (j + 1) ≡ (a j && covers_byte set (get_or node j 0))) → Leads (Covers (simple_said (Byte set))) node a b
leads_byte set node a b first next =
    leads_alike node a b (to_piece set) (from_piece set) (leads_one_byte (covers_byte set) node a b first next)

pub either_true : (x y : Bool) → (x || y) ≡ true → (x ≡ true) ⊎ (y ≡ true)
either_true true y e = inl refl
either_true false y e = inr e

pub one_true : (x y : Bool) → (x ≡ true) ⊎ (y ≡ true) → (x || y) ≡ true
one_true x y (inl e) = rw e refl
one_true true y (inr e) = refl
one_true false y (inr e) = e

-- values that lead to some more positions
pub adds_one : {R : List ℕ → Type 0} (node : List ℕ) (old own a b : ℕ → Bool) → length node ≤ 240 → Leads R node old own → ((j : ℕ) → j < 241 → b j ≡ (a j || own j)) → Adds R node old a b
adds_one node old own a b short leads is j within =
    let e = is j (omega (arith, short, within)) in (
      λ has. elim (either_true (a j) (own j) (sym e ∙ has)) [ inl before ↦ inl before | inr here ↦ inr ((leads j within).0 here) ],
      λ has. e ∙ one_true (a j) (own j) (elim has [ inl before ↦ inl before | inr w ↦ inr ((leads j within).1 w) ]),
    )

pub adds_last : (value : List Simple) (node : List ℕ) (old a b : ℕ → Bool) → Adds (RowCovers value) node old a b → Adds (SomeCovers (value ∷ [])) node old a b
adds_last value node old a b adds j within = (
  λ has. elim ((adds j within).0 has) [ inl before ↦ inl before | inr w ↦ inr (w.0, w.1, w.2, w.3, w.4, inl w.5) ],
  λ has. (adds j within).1 (elim has [
    | inl before ↦ inl before
    | inr w ↦ elim w.5 [ inl here ↦ inr (w.0, w.1, w.2, w.3, w.4, here) | inr none ↦ absurd none ]
  ]),
)

-- simple pieces alone
pub row_alone : (row : List Simple) (bytes : List ℕ) → RowCovers row bytes → NodeCovers (map Plain row) bytes
row_alone [] bytes is = is
row_alone (piece ∷ row) bytes (front, rest, is, first, others) = (front, rest, is, first, row_alone row rest others)

pub alone_row : (row : List Simple) (bytes : List ℕ) → NodeCovers (map Plain row) bytes → RowCovers row bytes
alone_row [] bytes is = is
alone_row (piece ∷ row) bytes (front, rest, is, first, others) = (front, rest, is, first, alone_row row rest others)

pub leads_row : (row : List Simple) (node : List ℕ) (a b : ℕ → Bool) → Leads (RowCovers row) node a b → Leads (NodeCovers (map Plain row)) node a b
leads_row row node a b leads = leads_alike node a b (row_alone row) (alone_row row) leads

-- a row, braces and the pieces behind them
pub leads_braces : (row : List Simple) (values : List (List Simple)) (pieces : List Piece) (node : List ℕ) (a b c new : ℕ → Bool)
    → Leads (RowCovers row) node a b → Leads (SomeCovers values) node b c → Leads (NodeCovers pieces) node c new
    → Leads (NodeCovers (map Plain row ++ Braces values ∷ pieces)) node a new
leads_braces row values pieces node a b c new first braces others =
    leads_alike node a new (row_then row (Braces values ∷ pieces)) (then_row row (Braces values ∷ pieces))
    (leads_in_turn node a b new first (leads_in_turn {R = SomeCovers values} {S = NodeCovers pieces} node b c new braces others))

at_start : (R : List ℕ → Type 0) (node : List ℕ) (a : ℕ → Bool) (i : ℕ) (bytes : List ℕ) → (0 < i) ⊎ (i ≤ 0) → ((j : ℕ) → 0 < j → a j ≡ false) → a i ≡ true
    → drop i node ≡ bytes ++ drop (length node) node → R bytes → R node
at_start R node a i bytes (inl later) other has is covers = absurd (let e = sym (other i later) ∙ has in cc)
at_start R node a i bytes (inr start) other has is covers =
    let first : i ≡ 0 = omega (arith, start) in
    let whole : node ≡ bytes ++ drop (length node) node = rw first at is in
    let all : bytes ≡ node = sym (append-nil bytes) ∙ ap (λ (l : List ℕ). bytes ++ l) (sym (drop-length node)) ∙ sym whole in
    subst R all covers

-- from the first position to the last
pub leads_over : (R : List ℕ → Type 0) (node : List ℕ) (a b : ℕ → Bool) → a 0 ≡ true → ((j : ℕ) → 0 < j → a j ≡ false) → Leads R node a b
    → (b (length node) ≡ true → R node) × (R node → b (length node) ≡ true)
leads_over R node a b first other leads = (
  λ has.
      let w = (leads (length node) (omega arith)).0 has in
      at_start R node a w.0 w.1 (cases_lt 0 w.0) other w.3 w.4 w.5,
  λ covers. (leads (length node) (omega arith)).1 (0, node, omega arith, first, sym (ap (λ (l : List ℕ). node ++ l) (drop-length node) ∙ append-nil node), covers),
)
