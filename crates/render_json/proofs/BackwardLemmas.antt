-- Texts that are written from their end to their front.
use Rattle.std.proofs.Common.{◌≡◌, ◌≢◌, ℕ, zero, suc, ◌+◌, ◌-◌, ◌*◌, ◌/◌, ◌%◌, ◌^◌, ◌<◌, ◌≤◌, Bool, true, ◌&&◌, T, eqb, List, [], ◌∷◌, ◌++◌, length, take, drop, get_or, refl, ap, sym, ◌∙◌, inl, inr, arith, eq-zero-or-pos, eqb→eq, append_assoc, length-append, decimal, codes, take_at, drop_at}
use Rattle.std.proofs.lemmas.List.{drop-drop, drop-take, length-drop, length-take-le, take-append-drop, take-take}
use Rattle.std.proofs.Math.Seq.{take-append-add}
use Rattle.std.proofs.lemmas.Fmt.{decimal_step_wide, length-decimal-le}
use lib.Ieee.Fits.{and_l, and_r}
use Rattle.itoa.proofs.Decimal.{decimal_four, pair}
use Rattle.fixed_num.specs.Print.{decimals_text, unsigned_milli_text}
use Rattle.fixed_num.proofs.PrintLemmas as print
use Rattle.render_json.specs.Json.{no_text, time_tail}
use Rattle.render_json.specs.declared.backward.TheConstants.{PAIRS}

-- ---- two digits

abbrev are_pairs : ℕ → Bool
are_pairs zero = true
are_pairs (suc p) = (eqb (get_or PAIRS (p * 2) 0) (48 + p / 10) && eqb (get_or PAIRS (p * 2 + 1) 0) (48 + p % 10)) && are_pairs p

below : (n p : ℕ) → T (are_pairs n) → p < n → (get_or PAIRS (p * 2) 0 ≡ 48 + p / 10) × (get_or PAIRS (p * 2 + 1) 0 ≡ 48 + p % 10)
below zero p t h = absurd (omega arith)
below (suc n) p t h =
    elim (eq-zero-or-pos (n - p)) [
      | inl z ↦ let e : p ≡ n = omega arith in let a = and_l _ (are_pairs n) t in rw e (eqb→eq _ _ (and_l _ _ a), eqb→eq _ _ (and_r _ _ a))
      | inr g ↦ below n p (and_r _ (are_pairs n) t) (omega arith)
    ]

pub PAIRS_at : (p : ℕ) → p < 100 → (get_or PAIRS (p * 2) 0 ≡ 48 + p / 10) × (get_or PAIRS (p * 2 + 1) 0 ≡ 48 + p % 10)
PAIRS_at p h = below 100 p tt h

pub number_short : (n : ℕ) → n < 2 ^ 64 → length (decimal n) ≤ 20
number_short n h = length-decimal-le 20 n (omega arith) (omega arith) h

pub unsigned_short : (n : ℕ) → n ≤ 10 ^ 30 → length (unsigned_milli_text n) ≤ 32
unfolding unsigned_milli_text
unsigned_short n h = omega (arith, length-append (decimal (n / 1000)) (46 ∷ decimals_text (n % 1000)), print.whole_short n h, print.decimals_short (n % 1000) (omega arith))

-- the last two digits of a number that 64 bits may not hold
pub wide_pair : (n : ℕ) → 100 ≤ n → n < 2 ^ 128 → decimal n ≡ decimal (n / 100) ++ pair (n % 100)
wide_pair n lo hi =
    let a : n / 10 / 10 ≡ n / 100 = omega arith in
    let b : n / 10 % 10 ≡ n % 100 / 10 = omega arith in
    let c : n % 10 ≡ n % 100 % 10 = omega arith in
    rw (decimal_step_wide n (omega arith) (omega arith), decimal_step_wide (n / 10) (omega arith) (omega arith), append_assoc, a, b, ← c)

pub wide_pair_long : (n : ℕ) → 100 ≤ n → n < 2 ^ 128 → length (decimal n) ≡ length (decimal (n / 100)) + 2
wide_pair_long n lo hi = ap length (wide_pair n lo hi) ∙ length-append _ _

-- ---- one to three decimals

pub two_decimals : (n : ℕ) → n % 10 ≡ 0 → n / 10 % 10 ≢ 0 → decimals_text n ≡ (48 + n / 10 / 10) ∷ (48 + n / 10 % 10) ∷ []
two_decimals n last hundredths = let tenths : n / 10 / 10 ≡ n / 100 = omega arith in rw tenths (print.two_decimals n last hundredths)

pub three_decimals : (n : ℕ) → n % 10 ≢ 0 → decimals_text n ≡ (48 + n / 10 / 10) ∷ (48 + n / 10 % 10) ∷ (48 + n % 10) ∷ []
three_decimals n last = let tenths : n / 10 / 10 ≡ n / 100 = omega arith in rw tenths (print.three_decimals n last)

-- ---- what stands behind a piece, and before it

-- a piece in the place of k bytes
pub put_behind : (start k end : ℕ) (xs ys : List ℕ) → start ≤ length xs → start + k ≡ end → drop start (take start xs ++ (ys ++ drop k (drop start xs))) ≡ ys ++ drop end xs
put_behind start k end xs ys h e =
    drop_at (take start xs) (ys ++ drop k (drop start xs)) start (length-take-le start xs h)
    ∙ ap (λ l. ys ++ l) (drop-drop k start xs ∙ ap (λ n. drop n xs) e)

-- behind a piece that was written stands what stood there
pub kept_behind : (xs ys piece : List ℕ) (start end : ℕ) → drop start xs ≡ piece ++ ys → start + length piece ≡ end → drop end xs ≡ ys
kept_behind xs ys piece start end written long =
    ap (λ n. drop n xs) (sym long) ∙ (sym (drop-drop (length piece) start xs) ∙ (ap (drop (length piece)) written ∙ drop_at piece ys (length piece) refl))

-- and from each later place on
pub kept_later : (xs ys piece : List ℕ) (start end n : ℕ) → drop start xs ≡ piece ++ drop end ys → start + length piece ≡ end → end ≤ n → drop n xs ≡ drop n ys
kept_later xs ys piece start end n written long h = print.drop_later xs ys end n (kept_behind xs (drop end ys) piece start end written long) h

-- lists that are alike up to a place are alike up to each earlier one
pub take_earlier : (k n : ℕ) (xs ys : List ℕ) → k ≤ n → take n xs ≡ take n ys → take k xs ≡ take k ys
take_earlier k n xs ys h e = sym (take-take k n xs h) ∙ (ap (take k) e ∙ take-take k n ys h)

-- where the last bytes are written anew, those before them stay
pub new_end : (xs ys head tail last : List ℕ) (at end : ℕ) → take end ys ≡ take end xs → drop end ys ≡ last → drop at xs ≡ head ++ tail → at + length head ≡ end → drop at ys ≡ head ++ last
new_end xs ys head tail last at end same written is long =
    let front : take (length head) (drop at ys) ≡ head =
    sym (drop-take at (length head) ys) ∙ (ap (λ n. drop at (take n ys)) long ∙ (ap (drop at) same ∙ (ap (λ n. drop at (take n xs)) (sym long) ∙ (drop-take at (length head) xs ∙ (ap (take (length head)) is ∙ take_at head tail (length head) refl))))) in
    let rest : drop (length head) (drop at ys) ≡ last = drop-drop (length head) at ys ∙ (ap (λ n. drop n ys) long ∙ written) in
    sym (take-append-drop (length head) (drop at ys)) ∙ (ap (λ l. l ++ drop (length head) (drop at ys)) front ∙ ap (λ l. head ++ l) rest)

-- ---- the time of a point

-- the last four digits and what stands behind them
abbrev pub last_of : ℕ → List ℕ → List ℕ
last_of digits behind = pair (digits / 100) ++ (pair (digits % 100) ++ (codes "]" ++ behind))

time_of : (n : ℕ) (behind : List ℕ) → 10000 ≤ n → n < 2 ^ 64 → time_tail n behind ≡ (codes ", " ++ decimal (n / 10000)) ++ last_of (n % 10000) behind
time_of n behind lo hi =
    ap (λ l. codes ", " ++ (l ++ (codes "]" ++ behind))) (decimal_four n lo hi)
    ∙ (ap (λ l. codes ", " ++ l) (append_assoc (decimal (n / 10000)) (pair (n % 10000 / 100) ++ pair (n % 10000 % 100)) (codes "]" ++ behind))
    ∙ sym (append_assoc (codes ", ") (decimal (n / 10000)) (last_of (n % 10000) behind)))

pub next_time : (xs ys behind : List ℕ) (at time next : ℕ) → length xs ≡ 128 → length behind ≡ 64 → at ≤ 64 → time < 2 ^ 64 → next < 2 ^ 64 → 10000 ≤ next → next / 10000 ≡ time / 10000
    → take 59 ys ≡ take 59 xs → drop 59 ys ≡ last_of (next % 10000) behind → drop at xs ≡ time_tail time behind → drop at ys ≡ time_tail next behind
next_time xs ys behind at time next long far within small below some same before written is =
    let head = codes ", " ++ decimal (time / 10000) in
    let old : drop at xs ≡ head ++ last_of (time % 10000) behind = is ∙ time_of time behind (omega (arith, some, same)) small in
    let count : length (drop at xs) ≡ length head + length (last_of (time % 10000) behind) = ap length old ∙ length-append head (last_of (time % 10000) behind) in
    let ends : at + length head ≡ 59 = omega (arith, count, length-drop at xs, long, far, within) in
    new_end xs ys head (last_of (time % 10000) behind) (last_of (next % 10000) behind) at 59 before written old ends
    ∙ (ap (λ n. (codes ", " ++ decimal n) ++ last_of (next % 10000) behind) (sym same) ∙ sym (time_of next behind some below))

pub no_text_long : length no_text ≡ 64
unfolding no_text
no_text_long = refl

-- bytes that are appended and in part taken back
pub cut_back : (out xs : List ℕ) (n k len : ℕ) → len ≡ length out → n ≤ k → take (len + n) (out ++ take k xs) ≡ out ++ take n xs
cut_back out xs n k len long few = rw long (take-append-add out (take k xs) n ∙ ap (λ l. out ++ l) (take-take n k xs few))

-- what stands behind a point
pub behind_time : (xs behind : List ℕ) (at time : ℕ) → length xs ≡ 128 → length behind ≡ 64 → at ≤ 64 → drop at xs ≡ time_tail time behind → drop 64 xs ≡ behind
behind_time xs behind at time long far within is =
    let piece = codes ", " ++ (decimal time ++ codes "]") in
    let whole : drop at xs ≡ piece ++ behind = is ∙ ap (λ l. codes ", " ++ l) (sym (append_assoc (decimal time) (codes "]") behind)) in
    let count : length (drop at xs) ≡ length piece + length behind = ap length whole ∙ length-append piece behind in
    kept_behind xs behind piece at 64 whole (omega (arith, count, length-drop at xs, long, far, within))

-- a point is what stands before the middle
pub point_before : (xs sep value behind : List ℕ) (time from : ℕ) → length xs ≡ 128 → length behind ≡ 64 → from ≤ 64 → drop from xs ≡ sep ++ (codes "[" ++ (value ++ time_tail time behind))
    → take (64 - from) (drop from xs) ≡ sep ++ (codes "[" ++ (value ++ (codes ", " ++ (decimal time ++ codes "]"))))
point_before xs sep value behind time from long far within is =
    let point = sep ++ (codes "[" ++ (value ++ (codes ", " ++ (decimal time ++ codes "]")))) in
    let whole : drop from xs ≡ point ++ behind =
    is ∙ sym (append_assoc sep (codes "[" ++ (value ++ (codes ", " ++ (decimal time ++ codes "]")))) behind
    ∙ (ap (λ l. sep ++ (codes "[" ++ l)) (append_assoc value (codes ", " ++ (decimal time ++ codes "]")) behind)
    ∙ ap (λ l. sep ++ (codes "[" ++ (value ++ (codes ", " ++ l)))) (append_assoc (decimal time) (codes "]") behind))) in
    let count : length (drop from xs) ≡ length point + length behind = ap length whole ∙ length-append point behind in
    ap (take (64 - from)) whole ∙ take_at point behind (64 - from) (omega (arith, count, length-drop from xs, long, far, within))
