-- How a run of calls of a disk goes on, and what a crash then leaves.
use Rattle.std.proofs.Common.{inl, inr, ⊎_elim, ℕ, arith}
use Rattle.outside_io.specs.Crash.{Follows, Elapses, LeavesOnly}
use Rattle.outside_io.specs.Image.{Image}

-- nothing was called
pub elapses_none : (now : ℕ) (since : ℕ → Image → Type 0) (may_leave : Image → Type 0) → Elapses now now since since may_leave
elapses_none now since may_leave =
    record { later = omega arith; nothing_else = λ t left le past. inl past; keeps = λ t left le past. past }

pub follows_none : (step : Image → Image → Type 0) (outcomes : Image → Type 0) → ((image : Image) → step image image) → Follows step outcomes outcomes
follows_none step outcomes still = λ left now. (left, now, still left)

module _ {D : Type 0} (moment : D → ℕ) (left_since : D → ℕ → Image → Type 0) where
  -- before the first call
  pub started : (old : D) (P : Image → Type 0) → ((left : Image) → left_since old (moment old) left → P left) → LeavesOnly moment left_since old old P
  started old P here = record { later = omega arith; each = here; before = λ t left le since. inl since }

  -- one call more, after which a crash leaves what has P
  pub goes_on : (old mid new : D) (P may_leave : Image → Type 0) → LeavesOnly moment left_since old mid P
      → Elapses (moment mid) (moment new) (left_since mid) (left_since new) may_leave → ((left : Image) → may_leave left → P left)
      → LeavesOnly moment left_since old new P
  goes_on old mid new P may_leave so_far time here = record {
    later = omega (arith, so_far.later, time.later);
    each = λ left since. ⊎_elim (so_far.each left) (here left) (time.nothing_else (moment old) left so_far.later since);
    before = λ t left le since. ⊎_elim (so_far.before t left le) (λ now. inr (here left now)) (time.nothing_else t left (omega (arith, le, so_far.later)) since);
  }
