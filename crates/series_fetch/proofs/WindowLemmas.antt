-- The buckets from after a moment to another.
use Rattle.std.proofs.Common.{◌≡◌, ◌≢◌, ℕ, ◌+◌, ◌-◌, ◌*◌, ◌/◌, ◌%◌, ◌^◌, ◌<◌, ◌≤◌, List, Option, Some, None, IfSome, length, refl, inl, inr, sym, ap, subst, ◌∙◌, arith}
use Rattle.std.specs.Prelude.{slice_get}
use Rattle.ring_format.specs.declared.archive.Archive.{Archive}
use Rattle.ring_format.specs.Layout.{LayoutValue}
use Rattle.std.proofs.Math.Nat.{div-add-mod, div-mul-le_self, mul-add, mul-div_cancel, mul_comm, mul-mod_right}
use Rattle.std.proofs.lemmas.Bool.Decides.{eqb_tells}
use Rattle.std.proofs.lemmas.Nat.{le-div}
use Rattle.std.proofs.lemmas.Option.{slice_get_within}
use Rattle.series_fetch.specs.Window.{bucket_after, end_after, IsStretch, IsStretchOf}

-- the first bucket after a moment, as a product
bucket_after-product : (step time : ℕ) → bucket_after step time ≡ step * (time / step + 1)
bucket_after-product step time = omega (arith, div-add-mod time step, mul-add step (time / step) 1)

-- it is a bucket
whole : (step time : ℕ) → bucket_after step time % step ≡ 0
whole step time = ap (λ (n : ℕ). n % step) (bucket_after-product step time) ∙ mul-mod_right step (time / step + 1)

-- two products, apart by a product
apart : (step a d : ℕ) → step * ((a + d) + 1) ≡ step * (a + 1) + d * step
apart step a d = omega (arith, mul-add step (a + d) 1, mul-add step a 1, mul-add step a d, mul_comm d step)

pub is_stretch : (step from until : ℕ) → 0 < step → step ≤ 31536000 → from ≤ until → until ≤ 4000000000
    → (count : ℕ) × IsStretch (bucket_after step from) (end_after step from until) step count
is_stretch step from until some short order most =
    let at : from / step ≤ until / step = le-div (from / step) until step some (omega (arith, div-mul-le_self from step)) in
    let first = bucket_after-product step from in
    let last = bucket_after-product step until in
    let more = apart step (from / step) (until / step - from / step) in
    let sum : from / step + (until / step - from / step) ≡ until / step = omega arith in
    let end : bucket_after step until ≡ bucket_after step from + (until / step - from / step) * step = last ∙ ap (λ (n : ℕ). step * (n + 1)) (sym sum) ∙ more ∙ ap (λ (n : ℕ). n + (until / step - from / step) * step) (sym first) in
    elim (eqb_tells (bucket_after step from) (bucket_after step until)) [
      | inl same ↦ rw same.0 (1, record { whole = whole step from; some = omega arith; ends = omega arith; small = omega arith })
      | inr other ↦
          let moved : from / step ≢ until / step = λ e. other.1 (first ∙ ap (λ (n : ℕ). step * (n + 1)) e ∙ sym last) in
          rw other.0 (until / step - from / step, record { whole = whole step from; some = omega arith; ends = end; small = omega arith })
    ]

-- as many values as the window has buckets reach from its first one to its end
pub has_buckets : (layout : LayoutValue) (i first end n : ℕ) (archive : Archive) → slice_get layout.archives i ≡ Some archive → IsStretchOf (slice_get layout.archives i) first end → n ≡ (end - first) / archive.step → 0 < archive.step
    → IfSome (slice_get layout.archives i) (λ a. (end ≡ first + n * a.step) × (end < 2 ^ 32))
has_buckets layout i first end n archive there stretch all some =
    let here = subst (λ (o : Option Archive). IsStretchOf o first end) there stretch in
    let count : ℕ = here.0 in
    let apart : end - first ≡ count * archive.step = omega (arith, here.1.ends) in
    let same : n ≡ count = all ∙ ap (λ (d : ℕ). d / archive.step) apart ∙ mul-div_cancel count some in
    subst (λ (o : Option Archive). IfSome o (λ a. (end ≡ first + n * a.step) × (end < 2 ^ 32))) (sym there)
    (here.1.ends ∙ ap (λ (d : ℕ). first + d * archive.step) (sym same), here.1.small)

-- a window's archive is one of the layout's
pub archive_within : (archives : List Archive) (i first end : ℕ) → IsStretchOf (slice_get archives i) first end → i < length archives
archive_within archives i first end stretch = by (slice_get archives i) refl
  where
    by : (found : Option Archive) → slice_get archives i ≡ found → i < length archives
    by None e = absurd (subst (λ (o : Option Archive). IsStretchOf o first end) e stretch)
    by (Some archive) e = slice_get_within archives i archive e
