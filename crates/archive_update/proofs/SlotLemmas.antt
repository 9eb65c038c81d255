-- The slots of buckets. Buckets are multiples of the step; two stand in one slot exactly where they are multiples of the
-- retention apart.
use Rattle.std.proofs.Common.{◌≡◌, ℕ, pos, negsuc, suc, ◌+◌, ◌-◌, ◌*◌, ◌/◌, ◌%◌, ◌<◌, ◌≤◌, ◌==◌, ◌+ℤ◌, ◌-ℤ◌, false, inl, inr, refl, sym, ap, ◌∙◌, arith}
use Rattle.std.specs.Prelude.{nat_abs}
use Rattle.std.specs.Int.{int_div_euclid}
use Rattle.std.proofs.Math.Nat.{mul-le-mul_left, mod-add-mod, add-mul-mod_self_right}
use Rattle.std.proofs.lemmas.Bool.{cases_lt}
use Rattle.std.proofs.lemmas.Bool.Decides.{eqb_tells}
use Rattle.std.proofs.lemmas.Int.{ints, int_rem_euclid_is}
use Rattle.std.proofs.lemmas.Nat.{div-add-mod', div-mul-add, mod-mul-add}
use Rattle.ring_format.specs.declared.archive.Archive.{Archive}
use Rattle.ring_format.specs.Layout.{retention_of}
use Rattle.ring_format.specs.Slot.{slot_of}

-- ---- remainders

at_least_once : (r n : ℕ) → 1 ≤ n → r ≤ r * n
at_least_once r n some = omega (arith, mul-le-mul_left r some)

turned_back : (x r n : ℕ) → 1 ≤ n → ((x + r) % n + (r * n - r)) % n ≡ x % n
turned_back x r n some =
    let le = at_least_once r n some in
    let whole : (x + r) + (r * n - r) ≡ x + r * n = omega (arith, le) in
    mod-add-mod (x + r) n (r * n - r) ∙ ap (λ (y : ℕ). y % n) whole ∙ add-mul-mod_self_right x r n

-- a turn of the ring keeps apart what was apart
same_before_turn : (a b r n : ℕ) → 1 ≤ n → (a + r) % n ≡ (b + r) % n → a % n ≡ b % n
same_before_turn a b r n some e = sym (turned_back a r n some) ∙ ap (λ (y : ℕ). (y + (r * n - r)) % n) e ∙ turned_back b r n some

same_after_turn : (a b r n : ℕ) → a % n ≡ b % n → (a + r) % n ≡ (b + r) % n
same_after_turn a b r n e = sym (mod-add-mod a n r) ∙ ap (λ (y : ℕ). (y + r) % n) e ∙ mod-add-mod b n r

-- the place in the retention of a multiple of the step
multiple_in : (q s n : ℕ) → 1 ≤ n → 1 ≤ s → (q * s) % (s * n) ≡ (q % n) * s
multiple_in q s n some step =
    let whole = div-add-mod' q n in
    let parts : q * s ≡ q / n * (s * n) + (q % n) * s = ap (λ (x : ℕ). x * s) (sym whole) ∙ omega arith in
    let small : q % n + 1 ≤ n = omega arith in
    ap (λ (x : ℕ). x % (s * n)) parts ∙ mod-mul-add (q / n) (s * n) ((q % n) * s) (omega (arith, mul-le-mul_left s small))

times_apart : (a b s : ℕ) → 1 ≤ s → a * s ≡ b * s → a ≡ b
times_apart a b s some e = sym (div-mul-add a s 0 some) ∙ ap (λ (x : ℕ). x / s) (omega (arith, e)) ∙ div-mul-add b s 0 some

pub same_test : (a b c d : ℕ) → (a ≡ b → c ≡ d) → (c ≡ d → a ≡ b) → (a == b) ≡ (c == d)
same_test a b c d there back =
    elim (eqb_tells a b) [
      | inl same ↦ elim (eqb_tells c d) [ inl also ↦ same.0 ∙ sym also.0 | inr other ↦ absurd (other.1 (there same.1)) ]
      | inr apart ↦ elim (eqb_tells c d) [ inl also ↦ absurd (apart.1 (back also.1)) | inr other ↦ apart.0 ∙ sym other.0 ]
    ]

-- ---- the slot of a bucket

negative_sum : (t c q : ℕ) → c ≡ suc q + t → negsuc t +ℤ pos c ≡ pos q
negative_sum t c q e = grind (arith, ints)

-- the steps from a base to a bucket, with those that the base is from 0, rounded up
steps_between : (k base s q c r : ℕ) → r < s → k ≡ q * s → base + r ≡ c * s → int_div_euclid (pos k -ℤ pos base) (pos s) +ℤ pos c ≡ pos q
steps_between k base s q c r small at up =
    elim (cases_lt q c) [
      | inl lt ↦
          let t : ℕ = c - suc q in
          let sum : c ≡ suc q + t = omega arith in
          let product : c * s ≡ (suc q + t) * s = ap (λ (x : ℕ). x * s) sum in
          let below : pos k -ℤ pos base ≡ negsuc (t * s + (s - suc r)) = omega (arith, ints, product) in
          let quotient : (t * s + (s - suc r)) / s ≡ t = div-mul-add t s (s - suc r) (omega arith) in
          rw below (rw quotient (negative_sum t c q sum))
      | inr le ↦
          let t : ℕ = q - c in
          let sum : q ≡ t + c = omega arith in
          let product : q * s ≡ (t + c) * s = ap (λ (x : ℕ). x * s) sum in
          let above : pos k -ℤ pos base ≡ pos (t * s + r) = omega (arith, ints, product) in
          let quotient : (t * s + r) / s ≡ t = div-mul-add t s r small in
          rw above (rw quotient (omega (arith, ints, sum)))
    ]

-- the steps from 0 to a base, rounded up
abbrev steps_up : ℕ → ℕ → ℕ
steps_up base step = (base + (step - 1)) / step

-- how far the ring is turned by a base
abbrev pub turn : ℕ → Archive → ℕ
turn base archive = steps_up base archive.step * archive.points - steps_up base archive.step

pub slot_turned : (base k : ℕ) (archive : Archive) → 1 ≤ archive.step → 1 ≤ archive.points → (base == 0) ≡ false → k % archive.step ≡ 0
    → slot_of base k archive ≡ (k / archive.step + turn base archive) % archive.points
slot_turned base k archive step points some multiple =
    let s : ℕ = archive.step in
    let n : ℕ = archive.points in
    let c : ℕ = steps_up base archive.step in
    let q : ℕ = k / archive.step in
    let whole : k ≡ q * s = omega (arith, div-add-mod' k archive.step) in
    let up = div-add-mod' (base + (archive.step - 1)) archive.step in
    let rest : ℕ = archive.step - 1 - (base + (archive.step - 1)) % archive.step in
    let small : (base + (archive.step - 1)) % archive.step < archive.step = omega arith in
    let between = steps_between k base s q c rest (omega arith) whole (omega (arith, up, small)) in
    let le = at_least_once c n points in
    let turned : int_div_euclid (pos k -ℤ pos base) (pos s) +ℤ pos (c * n) ≡ pos (q + (c * n - c)) = omega (arith, ints, between, le) in
    rw some (ap nat_abs (int_rem_euclid_is (int_div_euclid (pos k -ℤ pos base) (pos s)) (pos n) n c (q + (c * n - c)) points refl turned))

-- two buckets share a slot exactly where they are multiples of the retention apart
pub slot_agrees : (base k b : ℕ) (archive : Archive) → 1 ≤ archive.step → 1 ≤ archive.points → (base == 0) ≡ false → k % archive.step ≡ 0 → b % archive.step ≡ 0
    → (slot_of base k archive == slot_of base b archive) ≡ (k % retention_of archive == b % retention_of archive)
slot_agrees base k b archive step points some first second =
    let s : ℕ = archive.step in
    let n : ℕ = archive.points in
    let one = slot_turned base k archive step points some first in
    let other = slot_turned base b archive step points some second in
    let whole : k ≡ k / archive.step * archive.step = omega (arith, div-add-mod' k archive.step) in
    let whole2 : b ≡ b / archive.step * archive.step = omega (arith, div-add-mod' b archive.step) in
    let place : k % retention_of archive ≡ (k / archive.step % archive.points) * archive.step = ap (λ (x : ℕ). x % (archive.step * archive.points)) whole ∙ multiple_in (k / archive.step) archive.step archive.points points step in
    let place2 : b % retention_of archive ≡ (b / archive.step % archive.points) * archive.step = ap (λ (x : ℕ). x % (archive.step * archive.points)) whole2 ∙ multiple_in (b / archive.step) archive.step archive.points points step in
    same_test _ _ _ _
    (λ e. place ∙ ap (λ (x : ℕ). x * archive.step) (same_before_turn (k / archive.step) (b / archive.step) (turn base archive) archive.points points (sym one ∙ e ∙ other)) ∙ sym place2)
    (λ e. one ∙ same_after_turn (k / archive.step) (b / archive.step) (turn base archive) archive.points
    (times_apart (k / archive.step % archive.points) (b / archive.step % archive.points) archive.step step (sym place ∙ e ∙ place2)) ∙ sym other)

-- a base stands in the first slot
pub slot_of_base : (base : ℕ) (archive : Archive) → 1 ≤ archive.step → 1 ≤ archive.points → (base == 0) ≡ false → slot_of base base archive ≡ 0
slot_of_base base archive step points some =
    let none : pos base -ℤ pos base ≡ pos 0 = omega (arith, ints) in
    let zeros : 0 ≡ 0 * archive.step + 0 = omega arith in
    let quotient : 0 / archive.step ≡ 0 = ap (λ (x : ℕ). x / archive.step) zeros ∙ div-mul-add 0 archive.step 0 step in
    let rest : 0 % archive.points ≡ 0 = omega arith in
    rw some (rw none (rw quotient (rw rest refl)))

-- a bucket in the first slot may be the base as well
pub rebased : (base b k : ℕ) (archive : Archive) → 1 ≤ archive.step → 1 ≤ archive.points → (base == 0) ≡ false → (b == 0) ≡ false → b % archive.step ≡ 0 → k % archive.step ≡ 0
    → slot_of base b archive ≡ 0 → slot_of b k archive ≡ slot_of base k archive
rebased base b k archive step points some some2 multiple multiple2 first =
    let q : ℕ = b / archive.step in
    let n : ℕ = archive.points in
    let one = slot_turned base b archive step points some multiple in
    let two = slot_turned b b archive step points some2 multiple in
    let same : (q + turn base archive) % archive.points ≡ (q + turn b archive) % archive.points = sym one ∙ first ∙ sym (slot_of_base b archive step points some2) ∙ two in
    let turned : (turn base archive + q) % archive.points ≡ (turn b archive + q) % archive.points = ap (λ (x : ℕ). x % archive.points) (omega arith) ∙ same ∙ ap (λ (x : ℕ). x % archive.points) (omega arith) in
    let turns = same_before_turn (turn base archive) (turn b archive) q archive.points points turned in
    let more = same_after_turn (turn b archive) (turn base archive) (k / archive.step) archive.points (sym turns) in
    slot_turned b k archive step points some2 multiple2 ∙ ap (λ (x : ℕ). x % archive.points) (omega arith) ∙ more ∙ ap (λ (x : ℕ). x % archive.points) (omega arith)
    ∙ sym (slot_turned base k archive step points some multiple2)

pub slot_within : (base k : ℕ) (archive : Archive) → 1 ≤ archive.step → 1 ≤ archive.points → (base == 0) ≡ false → k % archive.step ≡ 0 → slot_of base k archive < archive.points
slot_within base k archive step points some multiple = rw (slot_turned base k archive step points some multiple) (omega arith)
