-- Bits that words hold, 64 to each.
use Rattle.std.proofs.Common.{◌≡◌, ℕ, zero, suc, add-one, ◌+◌, ◌-◌, ◌*◌, ◌/◌, ◌%◌, ◌^◌, ◌==◌, ◌<◌, ◌≤◌, ◌⊎◌, inl, inr, Bool, true, false, ◌&&◌, ◌||◌, List, [], ◌∷◌, length, get_or, set, replicate, min, max, refl, sym, ap, ap₂, ◌∙◌, subst, arith, w64}
use Rattle.std.proofs.lemmas.Bool.{cases_lt, cases_eq, eqb-true}
use Rattle.std.proofs.lemmas.List.{get_or-set_other, get_or-set_same}
use Rattle.std.proofs.lemmas.Nat.{le_or_l, le_or_r}
use Rattle.std.proofs.lemmas.Nat.Bits.{bit_at-lt, bit_at-pow_other, bit_at-suc, bit_at-trailing_zeros, bit_at-zero, bit_at_above, bit_at_and, bit_at_cat_low, bit_at_lowest, bit_at_mask_below, bit_at_mask_inside, bit_at_ones, bit_at_or, bit_at_set_other, bit_at_set_same, ones_shl}
use Rattle.std.specs.Int.{bit_at, trailing_zeros}
use Rattle.std.specs.Int.Bits.{bit_and, bit_or, or_zero_l}
use Rattle.path_glob.specs.Positions.{SetBefore, bit_of}

-- a place in the first word, or in those behind it
place_cases : (j : ℕ) → (j < 64) ⊎ (64 ≤ j)
place_cases j = cases_lt j 64

pub first_word : (w : ℕ) (ws : List ℕ) (j : ℕ) → j < 64 → bit_of (w ∷ ws) j ≡ (bit_at w j == 1)
unfolding bit_of
first_word w ws j low =
    let q : j / 64 ≡ 0 = omega (arith, low) in
    let r : j % 64 ≡ j = omega (arith, low) in
    rw (q, r) refl

pub next_words : (w : ℕ) (ws : List ℕ) (j : ℕ) → bit_of (w ∷ ws) (64 + j) ≡ bit_of ws j
unfolding bit_of
next_words w ws j =
    let q : (64 + j) / 64 ≡ suc (j / 64) = omega arith in
    let r : (64 + j) % 64 ≡ j % 64 = omega arith in
    rw (q, r) refl

behind : (w : ℕ) (ws : List ℕ) (j : ℕ) → 64 ≤ j → bit_of (w ∷ ws) j ≡ bit_of ws (j - 64)
behind w ws j high = ap (bit_of (w ∷ ws)) (let e : j ≡ 64 + (j - 64) = omega (arith, high) in e) ∙ next_words w ws (j - 64)

-- words none of whose bits is set
zero_word : (n k : ℕ) → get_or (replicate n zero) k zero ≡ zero
zero_word zero k = refl
zero_word (suc n) zero = refl
zero_word (suc n) (suc k) = zero_word n k

pub none_held : (n j : ℕ) → bit_of (replicate n 0) j ≡ false
unfolding bit_of
none_held n j = ap (λ (w : ℕ). bit_at w (j % 64) == 1) (zero_word n (j / 64)) ∙ ap (λ (b : ℕ). b == 1) (bit_at-zero (j % 64))

-- the first bit alone
pub first_alone : (n j : ℕ) → 0 < j → bit_of (1 ∷ replicate n 0) j ≡ false
first_alone n j later = elim (place_cases j) [
  | inl low ↦ first_word 1 (replicate n 0) j low ∙ ap (λ (b : ℕ). b == 1) (bit_at-pow_other 0 j (λ e. absurd (omega (arith, later, e))))
  | inr high ↦ behind 1 (replicate n 0) j high ∙ none_held n (j - 64)
]

-- words that are one for one made of others
abbrev pub joined : (ℕ → ℕ → ℕ) → List ℕ → List ℕ → List ℕ
joined f [] ys = []
joined f (x ∷ xs) [] = []
joined f (x ∷ xs) (y ∷ ys) = f x y ∷ joined f xs ys

either_bit : (x y : ℕ) → x < 2 → y < 2 → (max x y == 1) ≡ ((x == 1) || (y == 1))
either_bit zero zero p q = refl
either_bit zero (suc zero) p q = refl
either_bit (suc zero) zero p q = refl
either_bit (suc zero) (suc zero) p q = refl
either_bit (suc (suc x)) y p q = absurd (omega (arith, p))
either_bit x (suc (suc y)) p q = absurd (omega (arith, q))

both_bits : (x y : ℕ) → x < 2 → y < 2 → (min x y == 1) ≡ ((x == 1) && (y == 1))
both_bits zero zero p q = refl
both_bits zero (suc zero) p q = refl
both_bits (suc zero) zero p q = refl
both_bits (suc zero) (suc zero) p q = refl
both_bits (suc (suc x)) y p q = absurd (omega (arith, p))
both_bits x (suc (suc y)) p q = absurd (omega (arith, q))

pub either_held : (x y i : ℕ) → (bit_at (bit_or x y) i == 1) ≡ ((bit_at x i == 1) || (bit_at y i == 1))
either_held x y i = ap (λ (b : ℕ). b == 1) (bit_at_or x y i) ∙ either_bit (bit_at x i) (bit_at y i) (bit_at-lt x i) (bit_at-lt y i)

pub both_held : (x y i : ℕ) → (bit_at (bit_and x y) i == 1) ≡ ((bit_at x i == 1) && (bit_at y i == 1))
both_held x y i = ap (λ (b : ℕ). b == 1) (bit_at_and x y i) ∙ both_bits (bit_at x i) (bit_at y i) (bit_at-lt x i) (bit_at-lt y i)

pub joined_word : (f : ℕ → ℕ → ℕ) (xs ys : List ℕ) (k : ℕ) → f 0 0 ≡ 0 → length xs ≡ length ys → get_or (joined f xs ys) k 0 ≡ f (get_or xs k 0) (get_or ys k 0)
joined_word f [] [] k none same = sym none
joined_word f [] (y ∷ ys) k none same = absurd (omega (arith, same))
joined_word f (x ∷ xs) [] k none same = absurd (omega (arith, same))
joined_word f (x ∷ xs) (y ∷ ys) zero none same = refl
joined_word f (x ∷ xs) (y ∷ ys) (suc k) none same = joined_word f xs ys k none (omega (arith, same))

pub or_held : (xs ys : List ℕ) (j : ℕ) → length xs ≡ length ys → bit_of (joined bit_or xs ys) j ≡ (bit_of xs j || bit_of ys j)
unfolding bit_of
or_held xs ys j same =
    ap (λ (w : ℕ). bit_at w (j % 64) == 1) (joined_word bit_or xs ys (j / 64) refl same) ∙ either_held (get_or xs (j / 64) 0) (get_or ys (j / 64) 0) (j % 64)

pub and_held : (xs ys : List ℕ) (j : ℕ) → length xs ≡ length ys → bit_of (joined bit_and xs ys) j ≡ (bit_of xs j && bit_of ys j)
unfolding bit_of
and_held xs ys j same =
    ap (λ (w : ℕ). bit_at w (j % 64) == 1) (joined_word bit_and xs ys (j / 64) refl same) ∙ both_held (get_or xs (j / 64) 0) (get_or ys (j / 64) 0) (j % 64)

-- four words, one by one
abbrev pub four : List ℕ → List ℕ
four ws = get_or ws 0 0 ∷ get_or ws 1 0 ∷ get_or ws 2 0 ∷ get_or ws 3 0 ∷ []

same_word : (ws : List ℕ) (k : ℕ) → k < 4 → get_or (four ws) k 0 ≡ get_or ws k 0
same_word ws zero within = refl
same_word ws (suc zero) within = refl
same_word ws (suc (suc zero)) within = refl
same_word ws (suc (suc (suc zero))) within = refl
same_word ws (suc (suc (suc (suc k)))) within = absurd (omega (arith, within))

pub four_held : (ws : List ℕ) (j : ℕ) → j < 256 → bit_of (four ws) j ≡ bit_of ws j
unfolding bit_of
four_held ws j small = ap (λ (w : ℕ). bit_at w (j % 64) == 1) (same_word ws (j / 64) (omega (arith, small)))

pub either_four : (xs ys : List ℕ) (j : ℕ) → j < 256 → bit_of (joined bit_or (four xs) (four ys)) j ≡ (bit_of xs j || bit_of ys j)
either_four xs ys j small = or_held (four xs) (four ys) j refl ∙ ap₂ (λ (x y : Bool). x || y) (four_held xs j small) (four_held ys j small)

pub both_four : (xs ys : List ℕ) (j : ℕ) → j < 256 → bit_of (joined bit_and (four xs) (four ys)) j ≡ (bit_of xs j && bit_of ys j)
both_four xs ys j small = and_held (four xs) (four ys) j refl ∙ ap₂ (λ (x y : Bool). x && y) (four_held xs j small) (four_held ys j small)

-- one bit more is set
pub added_held : (ws : List ℕ) (place : ℕ) → place / 64 < length ws
    → bit_of (set ws (place / 64) (bit_or (get_or ws (place / 64) 0) (1 * 2 ^ (place % 64) % 2 ^ 64))) place ≡ true
unfolding bit_of
added_held ws place within =
    ap (λ (w : ℕ). bit_at w (place % 64) == 1) (get_or-set_same ws (place / 64) _ 0 within)
    ∙ ap (λ (b : ℕ). b == 1) (bit_at_set_same w64 (get_or ws (place / 64) 0) (place % 64) (omega arith))

pub others_held : (ws : List ℕ) (place j : ℕ) → place / 64 < length ws → (j ≡ place → ⊥)
    → bit_of (set ws (place / 64) (bit_or (get_or ws (place / 64) 0) (1 * 2 ^ (place % 64) % 2 ^ 64))) j ≡ bit_of ws j
unfolding bit_of
others_held ws place j within other = elim (cases_eq (j / 64) (place / 64)) [
  | inl same ↦
      ap (λ (k : ℕ). bit_at (get_or (set ws (place / 64) (bit_or (get_or ws (place / 64) 0) (1 * 2 ^ (place % 64) % 2 ^ 64))) k 0) (j % 64) == 1) same
      ∙ ap (λ (w : ℕ). bit_at w (j % 64) == 1) (get_or-set_same ws (place / 64) _ 0 within)
      ∙ ap (λ (b : ℕ). b == 1) (bit_at_set_other w64 (get_or ws (place / 64) 0) (place % 64) (omega arith) (j % 64) (λ e. other (omega (arith, same, e))))
      ∙ ap (λ (k : ℕ). bit_at (get_or ws k 0) (j % 64) == 1) (sym same)
  | inr apart ↦ ap (λ (w : ℕ). bit_at w (j % 64) == 1) (get_or-set_other ws (place / 64) (j / 64) _ 0 apart)
]

-- the places up to this one were looked at, and those that pass the test were entered
abbrev pub AreDone : (ℕ → Bool) → (ℕ → Bool) → ℕ → Type 0
AreDone test found i = ((j : ℕ) → j < i → found j ≡ test j) × ((j : ℕ) → i ≤ j → found j ≡ false)

pub done_more : (test old new : ℕ → Bool) (i : ℕ) → new i ≡ test i → ((j : ℕ) → (j ≡ i → ⊥) → new j ≡ old j) → AreDone test old i → AreDone test new (i + 1)
done_more test old new i here others done = (
  λ j within. elim (cases_eq j i) [
    | inl same ↦ ap new same ∙ here ∙ ap test (sym same)
    | inr other ↦ others j other ∙ done.0 j (omega (arith, within, other))
  ],
  λ j within. others j (λ e. absurd (omega (arith, within, e))) ∙ done.1 j (omega (arith, within)),
)

-- words that have no bit
pub no_bits : (x y : ℕ) → bit_or x y ≡ 0 → (x ≡ 0) × (y ≡ 0)
no_bits x y e = (omega (arith, e, le_or_l x y), omega (arith, e, le_or_r x y))

pub none_of_four : (ws : List ℕ) (j : ℕ) → j < 256 → bit_or (bit_or (bit_or (get_or ws 0 0) (get_or ws 1 0)) (get_or ws 2 0)) (get_or ws 3 0) ≡ 0 → bit_of ws j ≡ false
none_of_four ws j small e =
    let d = no_bits (bit_or (bit_or (get_or ws 0 0) (get_or ws 1 0)) (get_or ws 2 0)) (get_or ws 3 0) e in
    let c = no_bits (bit_or (get_or ws 0 0) (get_or ws 1 0)) (get_or ws 2 0) d.0 in
    let b = no_bits (get_or ws 0 0) (get_or ws 1 0) c.0 in
    let is : four ws ≡ replicate 4 0 = rw (b.0, b.1, c.1, d.1) refl in
    sym (four_held ws j small) ∙ ap (λ (l : List ℕ). bit_of l j) is ∙ none_held 4 j

-- ---- one place on

abbrev pub AreNext : ℕ → List ℕ → List ℕ → Type 0
AreNext before [] rs = Unit {0}
AreNext before (w ∷ ws) [] = ⊥
AreNext before (w ∷ ws) (r ∷ rs) = (bit_at r 0 ≡ bit_at before 63) × ((i : ℕ) → i < 63 → bit_at r (i + 1) ≡ bit_at w i) × AreNext w ws rs

pub next_first : (r : ℕ) (rs : List ℕ) → bit_at r 0 ≡ bit_at 0 63 → bit_of (r ∷ rs) 0 ≡ false
next_first r rs first = first_word r rs 0 (omega arith) ∙ ap (λ (b : ℕ). b == 1) (first ∙ bit_at-zero 63)

-- the bit that follows the last of a word is the first of the next
over_seam : (w : ℕ) (ws rs : List ℕ) → AreNext w ws rs → 0 < length ws → bit_of rs 0 ≡ (bit_at w 63 == 1)
over_seam w [] rs next some = absurd (omega (arith, some))
over_seam w (v ∷ ws) [] next some = absurd next
over_seam w (v ∷ ws) (r ∷ rs) next some = first_word r rs 0 (omega arith) ∙ ap (λ (b : ℕ). b == 1) next.0

pub next_held : (ws rs : List ℕ) (before j : ℕ) → AreNext before ws rs → j + 1 < 64 * length ws → bit_of rs (j + 1) ≡ bit_of ws j
next_held [] rs before j next within = absurd (omega (arith, within))
next_held (w ∷ ws) [] before j next within = absurd next
next_held (w ∷ ws) (r ∷ rs) before j next within = elim (cases_lt j 63) [
  | inl low ↦ first_word r rs (j + 1) (omega (arith, low)) ∙ ap (λ (b : ℕ). b == 1) (next.1 j low) ∙ sym (first_word w ws j (omega (arith, low)))
  | inr high ↦ elim (cases_lt j 64) [
    | inl last ↦
        let is : j ≡ 63 = omega (arith, high, last) in
        let room : 0 < length ws = omega (arith, within, is) in
        ap (λ (i : ℕ). bit_of (r ∷ rs) (i + 1)) is ∙ next_words r rs 0 ∙ over_seam w ws rs next.2 room
        ∙ sym (first_word w ws 63 (omega arith)) ∙ ap (bit_of (w ∷ ws)) (sym is)
    | inr far ↦
        let e : j + 1 ≡ 64 + ((j - 64) + 1) = omega (arith, far) in
        ap (bit_of (r ∷ rs)) e ∙ next_words r rs ((j - 64) + 1) ∙ next_held ws rs w (j - 64) next.2 (omega (arith, within, far)) ∙ sym (behind w ws j far)
  ]
]

max_of : (x : ℕ) → x < 2 → max 0 x ≡ x
max_of zero small = refl
max_of (suc zero) small = refl
max_of (suc (suc x)) small = absurd (omega (arith, small))

of_max : (x : ℕ) → x < 2 → max x 0 ≡ x
of_max zero small = refl
of_max (suc zero) small = refl
of_max (suc (suc x)) small = absurd (omega (arith, small))

pub word_first : (w before : ℕ) → bit_at (bit_or (w * 2 % 2 ^ 64) (before / 2 ^ 63)) 0 ≡ bit_at before 63
word_first w before =
    let shifted : bit_at (w * 2 % 2 ^ 64) 0 ≡ 0 = bit_at_lowest (w * 2 % 2 ^ 64) ∙ omega arith in
    bit_at_or (w * 2 % 2 ^ 64) (before / 2 ^ 63) 0 ∙ ap₂ max shifted (bit_at_lowest (before / 2 ^ 63)) ∙ max_of (bit_at before 63) (bit_at-lt before 63)

low_bits : (w i : ℕ) → i < 63 → bit_at (w % 2 ^ 63) i ≡ bit_at w i
low_bits w i low =
    sym (bit_at_cat_low (w / 2 ^ 63) 63 (w % 2 ^ 63) i low) ∙ ap (λ (n : ℕ). bit_at n i) (let e : w / 2 ^ 63 * 2 ^ 63 + w % 2 ^ 63 ≡ w = omega arith in e)

pub word_next : (w before i : ℕ) → before < 2 ^ 64 → i < 63 → bit_at (bit_or (w * 2 % 2 ^ 64) (before / 2 ^ 63)) (i + 1) ≡ bit_at w i
word_next w before i small low =
    let half : w * 2 % 2 ^ 64 / 2 ≡ w % 2 ^ 63 = omega arith in
    let own : bit_at (w * 2 % 2 ^ 64) (i + 1) ≡ bit_at w i =
    ap (bit_at (w * 2 % 2 ^ 64)) (add-one i) ∙ bit_at-suc (w * 2 % 2 ^ 64) i ∙ ap (λ (n : ℕ). bit_at n i) half ∙ low_bits w i low in
    let none : bit_at (before / 2 ^ 63) (i + 1) ≡ 0 = bit_at_above (before / 2 ^ 63) 1 (i + 1) (omega (arith, small)) (omega arith) in
    bit_at_or (w * 2 % 2 ^ 64) (before / 2 ^ 63) (i + 1) ∙ ap₂ max own none ∙ of_max (bit_at w i) (bit_at-lt w i)

pub next_of_four : (ws rs : List ℕ) (j : ℕ) → AreNext 0 (four ws) rs → j < 240 → bit_of rs (j + 1) ≡ bit_of ws j
next_of_four ws rs j next small = next_held (four ws) rs 0 j next (omega (arith, small)) ∙ four_held ws j (omega (arith, small))

-- ---- from the lowest on

-- what is set of a word from its lowest bit on, or all where words before it have a bit
abbrev pub OnFrom : ℕ → ℕ → ℕ → Type 0
OnFrom before w r = (i : ℕ) → i < 64 → (bit_at r i ≡ 1 → (0 < before) ⊎ SetBefore w i) × ((0 < before) ⊎ SetBefore w i → bit_at r i ≡ 1)

pub all_where_past : (before w : ℕ) → 0 < before → OnFrom before w (2 ^ 64 - 1)
all_where_past before w past i low = (λ e. inl past, λ e. bit_at_ones 64 i low)

pub from_lowest : (w : ℕ) → w < 2 ^ 64 → 0 < w → OnFrom 0 w ((2 ^ 64 - 1) * 2 ^ trailing_zeros w64 w % 2 ^ 64)
from_lowest w small some i low =
    let t = bit_at-trailing_zeros w64 w some small in
    let k = trailing_zeros w64 w in
    let mask : (2 ^ 64 - 1) * 2 ^ k % 2 ^ 64 ≡ 2 ^ 64 - 2 ^ k = ones_shl 64 k (omega (arith, t.0)) in (
      λ e. elim (cases_lt i k) [
        | inl below ↦ absurd (omega (arith, bit_at_mask_below k 64 i below, ap (λ (n : ℕ). bit_at n i) mask, e))
        | inr above ↦ inr (k, above, t.1)
      ],
      λ e. elim e [
        | inl past ↦ absurd (omega (arith, past))
        | inr s ↦ elim (cases_lt s.0 k) [
          | inl below ↦ absurd (omega (arith, t.2 s.0 below, s.2))
          | inr above ↦ ap (λ (n : ℕ). bit_at n i) mask ∙ bit_at_mask_inside k 64 i (omega (arith, above, s.1)) low
        ]
      ],
    )

-- a word that is not 0 has a bit
pub has_bit : (w : ℕ) → w < 2 ^ 64 → 0 < w → SetBefore w 63
has_bit w small some =
    let t = bit_at-trailing_zeros w64 w some small in
    (trailing_zeros w64 w, omega (arith, t.0), t.1)

abbrev pub AreOnward : ℕ → List ℕ → List ℕ → Type 0
AreOnward before [] rs = Unit {0}
AreOnward before (w ∷ ws) [] = ⊥
AreOnward before (w ∷ ws) (r ∷ rs) = (0 < w → SetBefore w 63) × OnFrom before w r × AreOnward (bit_or before w) ws rs

-- one of the bits up to this one is set
abbrev pub BitBefore : List ℕ → ℕ → Type 0
BitBefore ws j = (i : ℕ) × (i ≤ j) × (bit_of ws i ≡ true)

is_set : (n : ℕ) → n ≡ 1 → (n == 1) ≡ true
is_set n e = ap (λ (x : ℕ). x == 1) e

pub past_of : (before w : ℕ) → 0 < bit_or before w → (0 < before) ⊎ (0 < w)
past_of (suc before) w e = inl (omega arith)
past_of zero w e = inr (subst (λ (n : ℕ). 0 < n) (or_zero_l w) e)

is_past : (before w : ℕ) → (0 < before) ⊎ (0 < w) → 0 < bit_or before w
is_past before w (inl e) = omega (arith, e, le_or_l before w)
is_past before w (inr e) = omega (arith, e, le_or_r before w)

some_where_set : (w i : ℕ) → bit_at w i ≡ 1 → 0 < w
some_where_set zero i e = absurd (omega (arith, bit_at-zero i, e))
some_where_set (suc w) i e = omega arith

set_in_first : (w : ℕ) (ws : List ℕ) (i : ℕ) → i < 64 → bit_of (w ∷ ws) i ≡ true → bit_at w i ≡ 1
set_in_first w ws i low e = eqb-true (bit_at w i) 1 (sym (first_word w ws i low) ∙ e)

onward_held : (ws rs : List ℕ) (before j : ℕ) → AreOnward before ws rs → j < 64 * length ws
    → (bit_of rs j ≡ true → (0 < before) ⊎ BitBefore ws j) × ((0 < before) ⊎ BitBefore ws j → bit_of rs j ≡ true)
onward_held [] rs before j are within = absurd (omega (arith, within))
onward_held (w ∷ ws) [] before j are within = absurd are
onward_held (w ∷ ws) (r ∷ rs) before j are within = elim (place_cases j) [
  | inl low ↦ (
    λ has. elim ((are.1 j low).0 (set_in_first r rs j low has)) [
      | inl past ↦ inl past
      | inr s ↦ inr (s.0, s.1, first_word w ws s.0 (omega (arith, low, s.1)) ∙ is_set (bit_at w s.0) s.2)
    ],
    λ some. first_word r rs j low ∙ is_set (bit_at r j) ((are.1 j low).1 (elim some [
      | inl past ↦ inl past
      | inr b ↦ inr (b.0, b.1, set_in_first w ws b.0 (omega (arith, low, b.1)) b.2)
    ])),
  )
  | inr high ↦
      let others = onward_held ws rs (bit_or before w) (j - 64) are.2 (omega (arith, within, high)) in (
        λ has. elim (others.0 (sym (behind r rs j high) ∙ has)) [
          | inl past ↦ elim (past_of before w past) [
            | inl earlier ↦ inl earlier
            | inr some ↦ let s = are.0 some in inr (s.0, omega (arith, high, s.1), first_word w ws s.0 (omega (arith, s.1)) ∙ is_set (bit_at w s.0) s.2)
          ]
          | inr b ↦ inr (64 + b.0, omega (arith, high, b.1), next_words w ws b.0 ∙ b.2)
        ],
        λ some. behind r rs j high ∙ others.1 (elim some [
          | inl past ↦ inl (is_past before w (inl past))
          | inr b ↦ elim (place_cases b.0) [
            | inl low ↦ inl (is_past before w (inr (some_where_set w b.0 (set_in_first w ws b.0 low b.2))))
            | inr far ↦ inr (b.0 - 64, omega (arith, far, b.1), sym (behind w ws b.0 far) ∙ b.2)
          ]
        ]),
      )
]

-- the four words from their lowest bit on
pub onward_of_four : (ws rs : List ℕ) (j : ℕ) → AreOnward 0 (four ws) rs → j < 256
    → (bit_of rs j ≡ true → BitBefore ws j) × (BitBefore ws j → bit_of rs j ≡ true)
onward_of_four ws rs j are small =
    let all = onward_held (four ws) rs 0 j are (omega (arith, small)) in (
      λ has. elim (all.0 has) [
        | inl past ↦ absurd (omega (arith, past))
        | inr b ↦ (b.0, b.1, sym (four_held ws b.0 (omega (arith, small, b.1))) ∙ b.2)
      ],
      λ b. all.1 (inr (b.0, b.1, four_held ws b.0 (omega (arith, small, b.1)) ∙ b.2)),
    )
