-- Bits of words that are put together, or that move on.
use Rattle.std.proofs.Common.{◌≡◌, ℕ, zero, suc, add-one, ◌+◌, ◌*◌, ◌/◌, ◌%◌, ◌^◌, ◌==◌, ◌<◌, ◌≤◌, inl, inr, Bool, true, false, ◌&&◌, ◌||◌, List, length, get_or, set, take, drop, ◌++◌, [], refl, sym, ap, ap₂, ◌∙◌, subst, arith, append-nil}
use Rattle.std.proofs.lemmas.Bool.{cases_eq, cases_lt}
use Rattle.std.proofs.lemmas.List.{get_or-set_other, get_or-set_same, get_or_past}
use Rattle.std.proofs.Math.Seq.{drop-length, take-length}
use Rattle.std.proofs.lemmas.Nat.{and_le_l}
use Rattle.std.proofs.lemmas.Nat.Bits.{bit_at-zero}
use Rattle.std.specs.Int.{bit_at}
use Rattle.std.specs.Int.Bits.{bit_and, bit_or}
use Rattle.path_glob.specs.Bits.{Meet, shifted}
use Rattle.path_glob.specs.Positions.{bit_of}
use Rattle.path_glob.proofs.BitLemmas.{both_held, either_held, has_bit, no_bits, past_of}

-- the bit of a place by its word and the place in it
pub bit_in : (xs : List ℕ) (k i p : ℕ) → p ≡ 64 * k + i → i < 64 → bit_of xs p ≡ (bit_at (get_or xs k 0) i == 1)
unfolding bit_of
bit_in xs k i p is low =
    let q : p / 64 ≡ k = omega (arith, is, low) in
    let r : p % 64 ≡ i = omega (arith, is, low) in
    rw (q, r) refl

pub past_bit : (xs : List ℕ) (p : ℕ) → length xs ≤ p / 64 → bit_of xs p ≡ false
unfolding bit_of
past_bit xs p past =
    ap (λ (w : ℕ). bit_at w (p % 64) == 1) (get_or_past xs (p / 64) 0 past) ∙ ap (λ (b : ℕ). b == 1) (bit_at-zero (p % 64))

own_bit : (xs : List ℕ) (p : ℕ) → bit_of xs p ≡ (bit_at (get_or xs (p / 64) 0) (p % 64) == 1)
own_bit xs p = bit_in xs (p / 64) (p % 64) p (omega arith) (omega arith)

pub either_bits : (xs ys zs : List ℕ) → length ys ≡ length xs → length zs ≡ length xs
    → ((k : ℕ) → k < length xs → get_or zs k 0 ≡ bit_or (get_or xs k 0) (get_or ys k 0))
    → (p : ℕ) → bit_of zs p ≡ (bit_of xs p || bit_of ys p)
either_bits xs ys zs size room each p = elim (cases_lt (p / 64) (length xs)) [
  | inl within ↦
      own_bit zs p ∙ ap (λ (w : ℕ). bit_at w (p % 64) == 1) (each (p / 64) within) ∙ either_held (get_or xs (p / 64) 0) (get_or ys (p / 64) 0) (p % 64)
      ∙ sym (ap₂ (λ (x y : Bool). x || y) (own_bit xs p) (own_bit ys p))
  | inr past ↦
      past_bit zs p (omega (arith, room, past))
      ∙ sym (ap₂ (λ (x y : Bool). x || y) (past_bit xs p past) (past_bit ys p (omega (arith, size, past))))
]

-- a bit of two words is one that the sets have in common
both_set : (x y : Bool) → (x && y) ≡ true → (x ≡ true) × (y ≡ true)
both_set true y e = (refl, e)
both_set false y e = absurd cc

pub do_meet : (xs ys : List ℕ) (k : ℕ) → get_or xs k 0 < 2 ^ 64 → 0 < bit_and (get_or xs k 0) (get_or ys k 0) → Meet xs ys
do_meet xs ys k small some =
    let x = get_or xs k 0 in
    let y = get_or ys k 0 in
    let s = has_bit (bit_and x y) (omega (arith, small, and_le_l x y)) some in
    let low : s.0 < 64 = omega (arith, s.1) in
    let both = both_set (bit_at x s.0 == 1) (bit_at y s.0 == 1) (sym (both_held x y s.0) ∙ ap (λ (b : ℕ). b == 1) s.2) in
    (64 * k + s.0, bit_in xs k s.0 (64 * k + s.0) refl low ∙ both.0, bit_in ys k s.0 (64 * k + s.0) refl low ∙ both.1)

pub none_meet : (xs ys : List ℕ) → ((k : ℕ) → k < length xs → bit_and (get_or xs k 0) (get_or ys k 0) ≡ 0) → Meet xs ys → ⊥
none_meet xs ys none (p, one, other) = elim (cases_lt (p / 64) (length xs)) [
  | inl within ↦
      let e : (bit_at (bit_and (get_or xs (p / 64) 0) (get_or ys (p / 64) 0)) (p % 64) == 1) ≡ true =
      both_held (get_or xs (p / 64) 0) (get_or ys (p / 64) 0) (p % 64) ∙ ap₂ (λ (x y : Bool). x && y) (sym (own_bit xs p) ∙ one) (sym (own_bit ys p) ∙ other) in
      let f : (bit_at (bit_and (get_or xs (p / 64) 0) (get_or ys (p / 64) 0)) (p % 64) == 1) ≡ false =
      ap (λ (w : ℕ). bit_at w (p % 64) == 1) (none (p / 64) within) ∙ ap (λ (b : ℕ). b == 1) (bit_at-zero (p % 64)) in
      absurd (let g : ◌≡◌ {A = Bool} true false = sym e ∙ f in cc)
  | inr past ↦ absurd (let g : ◌≡◌ {A = Bool} true false = sym one ∙ past_bit xs p past in cc)
]

-- what was found in common of the words up to this one
pub record FoundMeet (xs ys : List ℕ) (common k : ℕ) : Type 0 where
  pub met : 0 < common → Meet xs ys
  pub none : common ≡ 0 → (j : ℕ) → j < k → bit_and (get_or xs j 0) (get_or ys j 0) ≡ 0

pub none_yet : (xs ys : List ℕ) → FoundMeet xs ys 0 0
none_yet xs ys = record { met = λ some. absurd (omega (arith, some)); none = λ e j below. absurd (omega (arith, below)) }

pub found_more : (xs ys : List ℕ) (common k : ℕ) → get_or xs k 0 < 2 ^ 64 → FoundMeet xs ys common k → FoundMeet xs ys (bit_or common (bit_and (get_or xs k 0) (get_or ys k 0))) (k + 1)
found_more xs ys common k small found =
    let here = bit_and (get_or xs k 0) (get_or ys k 0) in
    record {
      met = λ some. elim (past_of common here some) [ inl before ↦ found.met before | inr now ↦ do_meet xs ys k small now ];
      none = λ e j below.
          let both = no_bits common here e in
          elim (cases_eq j k) [
            | inl same ↦ ap (λ (i : ℕ). bit_and (get_or xs i 0) (get_or ys i 0)) same ∙ both.1
            | inr other ↦ found.none both.0 j (omega (arith, below, other))
          ];
    }

pub has_met : (xs ys : List ℕ) (common k : ℕ) → length xs ≤ k → FoundMeet xs ys common k → Meet xs ys → 0 < common
has_met xs ys common k last found met = elim (cases_lt 0 common) [
  | inl some ↦ some
  | inr none ↦ absurd (none_meet xs ys (λ j within. found.none (omega (arith, none)) j (omega (arith, within, last))) met)
]

-- ---- places one on

-- the bits of a word, one on, behind the last one of the word before it
abbrev pub carried : ℕ → ℕ → ℕ → Bool
carried before word zero = bit_at before 63 == 1
carried before word (suc place) = bit_at word place == 1

-- the bits of a word that move on, and those of the word before it
abbrev pub moving : List ℕ → List ℕ → ℕ → ℕ
moving words on k = bit_and (get_or words k 0) (get_or on k 0)

abbrev pub moving_before : List ℕ → List ℕ → ℕ → ℕ
moving_before words on zero = 0
moving_before words on (suc k) = moving words on k

-- what a word becomes whose bits move on, or stay, or both
abbrev pub HasMoved : List ℕ → List ℕ → List ℕ → ℕ → ℕ → Type 0
HasMoved words on stay k word =
    (place : ℕ) → place < 64 → (bit_at word place == 1)
    ≡ (carried (moving_before words on k) (moving words on k) place
    || ((bit_at (get_or words k 0) place == 1) && (bit_at (get_or stay k 0) place == 1)))

-- what moves on into a word, by the places
carried_is : (xs on : List ℕ) (k i p : ℕ) → p ≡ 64 * k + i → i < 64
    → carried (moving_before xs on k) (moving xs on k) i ≡ shifted (λ q. bit_of xs q && bit_of on q) p
carried_is xs on k (suc i) zero is low = absurd (omega (arith, is))
carried_is xs on k (suc i) (suc p) is low =
    let at : p ≡ 64 * k + i = omega (arith, is) in
    let within : i < 64 = omega (arith, low) in
    both_held (get_or xs k 0) (get_or on k 0) i ∙ sym (ap₂ (λ (x y : Bool). x && y) (bit_in xs k i p at within) (bit_in on k i p at within))
carried_is xs on zero zero zero is low = ap (λ (b : ℕ). b == 1) (bit_at-zero 63)
carried_is xs on zero zero (suc p) is low = absurd (omega (arith, is))
carried_is xs on (suc k) zero zero is low = absurd (omega (arith, is))
carried_is xs on (suc k) zero (suc p) is low =
    let at : p ≡ 64 * k + 63 = omega (arith, is) in
    let within : 63 < 64 = omega arith in
    both_held (get_or xs k 0) (get_or on k 0) 63 ∙ sym (ap₂ (λ (x y : Bool). x && y) (bit_in xs k 63 p at within) (bit_in on k 63 p at within))

pub moved_bits : (xs on stay zs : List ℕ) → ((k : ℕ) → k < length xs → HasMoved xs on stay k (get_or zs k 0))
    → (p : ℕ) → p < 64 * length xs → bit_of zs p ≡ (shifted (λ q. bit_of xs q && bit_of on q) p || (bit_of xs p && bit_of stay p))
moved_bits xs on stay zs each p within =
    own_bit zs p ∙ each (p / 64) (omega (arith, within)) (p % 64) (omega arith)
    ∙ ap₂ (λ (x y : Bool). x || y) (carried_is xs on (p / 64) (p % 64) p (omega arith) (omega arith))
    (sym (ap₂ (λ (x y : Bool). x && y) (own_bit xs p) (own_bit stay p)))

-- the bits of a word that have moved on
behind_word : (before word r i : ℕ) → bit_at r 0 ≡ bit_at before 63 → ((n : ℕ) → n < 63 → bit_at r (n + 1) ≡ bit_at word n) → i < 64 → (bit_at r i == 1) ≡ carried before word i
behind_word before word r zero first next low = ap (λ (b : ℕ). b == 1) first
behind_word before word r (suc i) first next low =
    ap (λ (b : ℕ). b == 1) (ap (bit_at r) (sym (add-one i)) ∙ next i (omega (arith, low)))

pub word_moved : (xs on stay : List ℕ) (k before r : ℕ) → before ≡ moving_before xs on k → bit_at r 0 ≡ bit_at before 63
    → ((n : ℕ) → n < 63 → bit_at r (n + 1) ≡ bit_at (moving xs on k) n) → HasMoved xs on stay k (bit_or r (bit_and (get_or xs k 0) (get_or stay k 0)))
word_moved xs on stay k before r is first next place low =
    either_held r (bit_and (get_or xs k 0) (get_or stay k 0)) place
    ∙ ap₂ (λ (x y : Bool). x || y)
    (behind_word before (moving xs on k) r place first next low ∙ ap (λ (b : ℕ). carried b (moving xs on k) place) is)
    (both_held (get_or xs k 0) (get_or stay k 0) place)

-- one word more has moved
abbrev pub AreMoved : List ℕ → List ℕ → List ℕ → List ℕ → ℕ → Type 0
AreMoved xs on stay ws k = ((j : ℕ) → j < k → HasMoved xs on stay j (get_or ws j 0)) × ((j : ℕ) → k ≤ j → get_or ws j 0 ≡ get_or xs j 0)

pub moved_more : (xs on stay ws : List ℕ) (k before r : ℕ) → k < length ws → before ≡ moving_before xs on k → AreMoved xs on stay ws k → bit_at r 0 ≡ bit_at before 63
    → ((n : ℕ) → n < 63 → bit_at r (n + 1) ≡ bit_at (bit_and (get_or ws k 0) (get_or on k 0)) n)
    → AreMoved xs on stay (set ws k (bit_or r (bit_and (get_or ws k 0) (get_or stay k 0)))) (k + 1)
moved_more xs on stay ws k before r within is are first next =
    let own : get_or ws k 0 ≡ get_or xs k 0 = are.1 k (omega arith) in
    let here : HasMoved xs on stay k (bit_or r (bit_and (get_or xs k 0) (get_or stay k 0))) =
    word_moved xs on stay k before r is first (λ n low. next n low ∙ ap (λ (w : ℕ). bit_at (bit_and w (get_or on k 0)) n) own) in (
      λ j below. elim (cases_eq j k) [
        | inl same ↦
            subst (λ (i : ℕ). HasMoved xs on stay i (get_or (set ws k (bit_or r (bit_and (get_or ws k 0) (get_or stay k 0)))) i 0)) (sym same)
            (subst (HasMoved xs on stay k) (sym (get_or-set_same ws k _ 0 within ∙ ap (λ (w : ℕ). bit_or r (bit_and w (get_or stay k 0))) own)) here)
        | inr other ↦ subst (HasMoved xs on stay j) (sym (get_or-set_other ws k j _ 0 other)) (are.0 j (omega (arith, below, other)))
      ],
      λ j above. get_or-set_other ws k j _ 0 (λ e. absurd (omega (arith, above, e))) ∙ are.1 j (omega (arith, above)),
    )

pub now_moving : (xs on ws : List ℕ) (k : ℕ) → get_or ws k 0 ≡ get_or xs k 0 → bit_and (get_or ws k 0) (get_or on k 0) ≡ moving_before xs on (k + 1)
now_moving xs on ws k own = ap (λ (w : ℕ). bit_and w (get_or on k 0)) own ∙ ap (moving_before xs on) (sym (add-one k))

-- words that were written over all the words of a vector
pub written_back : {A : Type 0} (n : ℕ) (xs ys : List A) → length xs ≡ n → length ys ≡ n → take n (xs ++ drop (length xs) ys) ≡ xs
written_back {A} n xs ys size room =
    let none : ◌≡◌ {A = List A} (drop (length xs) ys) [] = ap (λ (k : ℕ). drop k ys) (size ∙ sym room) ∙ drop-length ys in
    ap (λ (l : List A). take n (xs ++ l)) none ∙ ap (take n) (append-nil xs) ∙ ap (λ (k : ℕ). take k xs) (sym size) ∙ take-length xs

pub none_in : (xs : List ℕ) → ((k : ℕ) → k < length xs → get_or xs k 0 ≡ 0) → (p : ℕ) → bit_of xs p ≡ false
none_in xs none p = elim (cases_lt (p / 64) (length xs)) [
  | inl within ↦ own_bit xs p ∙ ap (λ (w : ℕ). bit_at w (p % 64) == 1) (none (p / 64) within) ∙ ap (λ (b : ℕ). b == 1) (bit_at-zero (p % 64))
  | inr past ↦ past_bit xs p past
]
