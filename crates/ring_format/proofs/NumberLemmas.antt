-- Lemmas on the numbers of a head: what is written is read, and what is read is written again.
use Rattle.std.proofs.Common.{◌≡◌, ℕ, ◌+◌, ◌<◌, ◌≤◌, ◌^◌, List, ◌++◌, length, get_or, take, drop, inl, inr, refl, ap, ◌∙◌, arith, length-take, length-drop}
use Rattle.std.specs.Int.{w32, to_be_bytes, from_be_bytes}
use Rattle.std.proofs.Math.Seq.{take-add}
use Rattle.std.proofs.lemmas.Bool.{cases_lt}
use Rattle.std.proofs.lemmas.List.{drop-drop, drop_at, take_at, get_or-drop, get_or-take, get_or_past}
use Rattle.std.proofs.lemmas.Nat.{be_bytes_4, from_be_bytes-to_be_bytes_4}
use Rattle.ring_format.specs.Head.{number_at, number_bytes}
use Rattle.ring_format.specs.LayoutFile.{row_size}

abbrev pub IsBytes : List ℕ → Type 0
IsBytes bytes = (i : ℕ) → get_or bytes i 0 < 256

IsBytes-drop : (n : ℕ) (bytes : List ℕ) → IsBytes bytes → IsBytes (drop n bytes)
IsBytes-drop n bytes fits i = rw get_or-drop (fits (n + i))

IsBytes-take : (n : ℕ) (bytes : List ℕ) → IsBytes bytes → IsBytes (take n bytes)
IsBytes-take n bytes fits i =
    elim (cases_lt i n) [
      | inl lt ↦ rw (get_or-take n bytes i 0 lt) (fits i)
      | inr le ↦ rw (get_or_past (take n bytes) i 0 (omega (arith, length-take n bytes))) (omega arith)
    ]

pub length-number_bytes : (n : ℕ) → length (number_bytes n) ≡ 4
unfolding number_bytes
length-number_bytes n = refl

-- a number that stands behind `at` bytes is read there
pub number_at-written : (before : List ℕ) (n : ℕ) (after : List ℕ) (at : ℕ) → length before ≡ at → n < 2 ^ 32 → number_at at (before ++ (number_bytes n ++ after)) ≡ n
unfolding number_at number_bytes
number_at-written before n after at here fits =
    let rest : drop at (before ++ (to_be_bytes w32 n ++ after)) ≡ to_be_bytes w32 n ++ after = drop_at before (to_be_bytes w32 n ++ after) at here in
    ap (λ (xs : List ℕ). from_be_bytes w32 (take 4 xs)) rest ∙ ap (from_be_bytes w32) (take_at (to_be_bytes w32 n) after 4 refl) ∙ from_be_bytes-to_be_bytes_4 n fits

-- the bytes of a number that is read are those that stand there
pub number_bytes-read : (bytes : List ℕ) (at : ℕ) → IsBytes bytes → at + 4 ≤ length bytes → number_bytes (number_at at bytes) ≡ take 4 (drop at bytes)
unfolding number_at number_bytes
number_bytes-read bytes at fits room =
    be_bytes_4 (take 4 (drop at bytes)) _ (omega (arith, length-take 4 (drop at bytes), length-drop at bytes)) (IsBytes-take 4 (drop at bytes) (IsBytes-drop at bytes fits)) refl

-- twelve bytes are three numbers
pub three_numbers : (bytes : List ℕ) (at : ℕ) → take row_size (drop at bytes) ≡ take 4 (drop at bytes) ++ (take 4 (drop (at + 4) bytes) ++ take 4 (drop (at + 8) bytes))
three_numbers bytes at =
    take-add 4 8 (drop at bytes) ∙ ap (λ (xs : List ℕ). take 4 (drop at bytes) ++ take 8 xs) (drop-drop 4 at bytes)
    ∙ ap (λ (xs : List ℕ). take 4 (drop at bytes) ++ xs) (take-add 4 4 (drop (at + 4) bytes))
    ∙ ap (λ (xs : List ℕ). take 4 (drop at bytes) ++ (take 4 (drop (at + 4) bytes) ++ take 4 xs)) (drop-drop 4 (at + 4) bytes ∙ ap (λ (n : ℕ). drop n bytes) (let sum : (at + 4) + 4 ≡ at + 8 = omega arith in sum))
