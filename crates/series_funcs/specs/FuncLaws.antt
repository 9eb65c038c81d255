-- What holds of quotients.
use Rattle.std.specs.Prelude.{◌≡◌, ℕ, ℤ, pos, neg_ℤ, ◌+ℤ◌, ◌*ℤ◌, ◌≤ℤ◌, ◌<ℤ◌, ◌<◌}
use Rattle.series_funcs.specs.Quotients.{floor_quotient}

abbrev pub QuotientIsRoundedDown : Type 0
QuotientIsRoundedDown = (a : ℤ) (b : ℕ) → 0 < b → ((floor_quotient a (pos b) *ℤ pos b) ≤ℤ a) × (a <ℤ ((floor_quotient a (pos b) +ℤ pos 1) *ℤ pos b))

abbrev pub SignsCancel : Type 0
SignsCancel = (a : ℤ) (b : ℕ) → 0 < b → floor_quotient a (neg_ℤ (pos b)) ≡ floor_quotient (neg_ℤ a) (pos b)
