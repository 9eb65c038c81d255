-- The slots of buckets that lie whole steps apart.
use Rattle.std.proofs.Common.{◌≡◌, ◌∙◌, ℕ, pos, negsuc, ◌+◌, ◌-◌, ◌*◌, ◌/◌, ◌%◌, ◌<◌, ◌≤◌, Bool, true, false, inl, inr, refl, sym, ap, arith}
use Rattle.std.specs.Prelude.{◌+ℤ◌, ◌-ℤ◌, nat_abs, ◌==◌}
use Rattle.std.specs.Int.{int_div_euclid}
use Rattle.std.proofs.lemmas.Bool.{cases_lt}
use Rattle.std.proofs.lemmas.Int.{int_rem_euclid_is, ints}
use Rattle.std.proofs.lemmas.Nat.{div-mul-add, div-add-mod', mod_below}
use Rattle.std.proofs.Math.Nat.{add-mul-div_right, mod-add-mod, le-mul_of_pos_right, mul-le-mul_left}
use Rattle.ring_format.specs.declared.archive.Archive.{Archive}
use Rattle.ring_format.specs.Slot.{slot_of}

-- e steps and a rest before some whole steps
steps_before : (e step t : ℕ) → 0 < step → e < t * step → (t * step - (e + 1)) / step + (e / step + 1) ≡ t
steps_before e step t some less =
    elim (cases_lt (e / step) t) [
      | inl lt ↦
          let u : ℕ = t - (e / step + 1) in
          let r : ℕ = step - (e % step + 1) in
          let whole : e / step * step + e % step ≡ e = div-add-mod' e step in
          let rest : e % step < step = mod_below e step some in
          let sum : u + (e / step + 1) ≡ t = omega arith in
          let spread : u * step + (e / step * step + step) ≡ t * step = omega (arith, ap (λ (n : ℕ). n * step) sum) in
          let is : t * step - (e + 1) ≡ u * step + r = omega arith in
          ap (λ (n : ℕ). n / step + (e / step + 1)) is ∙ (omega (arith, div-mul-add u step r (omega arith)))
      | inr le ↦ absurd (omega (arith, mul-le-mul_left step le, div-add-mod' e step))
    ]

-- the steps from the base on, rounded down, with whole steps added so that they begin behind the base
steps_from : (first base step t : ℕ) → 0 < step → base ≤ first + t * step
    → int_div_euclid (pos first -ℤ pos base) (pos step) +ℤ pos t ≡ pos ((first + t * step - base) / step)
steps_from first base step t some behind =
    elim (cases_lt first base) [
      | inl lt ↦
          let e : ℕ = base - (first + 1) in
          let apart : pos first -ℤ pos base ≡ negsuc e = omega (arith, ints) in
          let same : first + t * step - base ≡ t * step - (e + 1) = omega arith in
          let counted : (t * step - (e + 1)) / step + (e / step + 1) ≡ t = steps_before e step t some (omega arith) in
          rw (apart, same) (omega (arith, ints))
      | inr le ↦
          let d : ℕ = first - base in
          let apart : pos first -ℤ pos base ≡ pos d = omega (arith, ints) in
          let same : first + t * step - base ≡ d + t * step = omega arith in
          let counted : (d + t * step) / step ≡ d / step + t = add-mul-div_right d t some in
          rw (apart, same, counted) refl
    ]

-- a slot as a remainder of naturals
slot_from : (base bucket : ℕ) (archive : Archive) → 0 < archive.step → 0 < archive.points → (base == 0) ≡ false
    → slot_of base bucket archive ≡ ((bucket + base * archive.points * archive.step - base) / archive.step) % archive.points
slot_from base bucket archive step points some =
    let far : base ≤ base * archive.points * archive.step = omega (arith, le-mul_of_pos_right base points, le-mul_of_pos_right (base * archive.points) step) in
    rw some (ap nat_abs (int_rem_euclid_is (int_div_euclid (pos bucket -ℤ pos base) (pos archive.step)) (pos archive.points) archive.points base _ points refl
    (steps_from bucket base archive.step (base * archive.points) step (omega arith))))

-- So many steps further, the slot is so many slots further round the ring. The base may be no multiple of the step.
pub slot_steps_on : (base first k : ℕ) (archive : Archive) → 0 < archive.step → 0 < archive.points → (base == 0) ≡ false
    → slot_of base (first + k * archive.step) archive ≡ (slot_of base first archive + k) % archive.points
slot_steps_on base first k archive step points some =
    let far : base ≤ base * archive.points * archive.step = omega (arith, le-mul_of_pos_right base points, le-mul_of_pos_right (base * archive.points) step) in
    let start : ℕ = first + base * archive.points * archive.step - base in
    let on : first + k * archive.step + base * archive.points * archive.step - base ≡ start + k * archive.step = omega arith in
    slot_from base (first + k * archive.step) archive step points some
    ∙ ap (λ (n : ℕ). (n / archive.step) % archive.points) on
    ∙ ap (λ (n : ℕ). n % archive.points) (add-mul-div_right start k step)
    ∙ sym (mod-add-mod (start / archive.step) archive.points k)
    ∙ ap (λ (n : ℕ). (n + k) % archive.points) (sym (slot_from base first archive step points some))

slot_below : (base bucket : ℕ) (archive : Archive) (b : Bool) → (base == 0) ≡ b → 0 < archive.step → 0 < archive.points → slot_of base bucket archive < archive.points
slot_below base bucket archive true is step points = rw is points
slot_below base bucket archive false is step points =
    rw (slot_from base bucket archive step points is) (mod_below ((bucket + base * archive.points * archive.step - base) / archive.step) archive.points points)

-- a slot is one of the ring's
pub slot_within : (base bucket : ℕ) (archive : Archive) → 0 < archive.step → 0 < archive.points → slot_of base bucket archive < archive.points
slot_within base bucket archive step points = slot_below base bucket archive (base == 0) refl step points
