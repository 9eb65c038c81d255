-- What a crash may leave of a disk. Between two syncs it leaves any bytes in each range that was written, and under
-- each name created since then nothing or any bytes; all else is as it reads.
use Rattle.std.specs.Prelude.{◌≡◌, ◌≤◌, ◌⊎◌, ℕ, Option, IfSome}
use Rattle.outside_io.specs.Image.{Image, SameImage}

-- each image that a crash may leave now is one of before, after that step
abbrev pub Follows : (Image → Image → Type 0) → (Image → Type 0) → (Image → Type 0) → Type 0
Follows step old new = (left : Image) → new left → (before : Image) × old before × step before left

-- and each of these it may leave
abbrev pub MayAll : (Image → Image → Type 0) → (Image → Type 0) → (Image → Type 0) → Type 0
MayAll step old new = (before left : Image) → old before → step before left → new left

-- the same, where the disk tells its image
abbrev pub MayAllKnown : Option Image → (Image → Image → Type 0) → (Image → Type 0) → (Image → Type 0) → Type 0
MayAllKnown known step old new = IfSome known (λ image. MayAll step old new)

-- a crash leaves this image and nothing else
abbrev pub Only : Image → (Image → Type 0) → Type 0
Only image outcomes = (left : Image) → outcomes left → SameImage image left

-- the same, where the disk tells its image
abbrev pub OnlyKnown : Option Image → (Image → Type 0) → Type 0
OnlyKnown known outcomes = IfSome known (λ image. Only image outcomes)

-- time goes on: a crash since t might have left what it might have left before, or what it may leave now
pub record Elapses (before now : ℕ) (past since : ℕ → Image → Type 0) (may_leave : Image → Type 0) : Type 0 where
  pub later : before ≤ now
  pub nothing_else : (t : ℕ) (left : Image) → t ≤ before → since t left → past t left ⊎ may_leave left
  pub keeps : (t : ℕ) (left : Image) → t ≤ before → past t left → since t left

-- nothing was changed: no moment passed, and a crash leaves what it might have left, now and since each moment
pub record SameCrashes (before now : ℕ) (old_leaves new_leaves : Image → Type 0) (old_since new_since : ℕ → Image → Type 0) : Type 0 where
  pub moment : now ≡ before
  pub leaves : (left : Image) → new_leaves left → old_leaves left
  pub since : (t : ℕ) (left : Image) → new_since t left → old_since t left
  pub keeps : (t : ℕ) (left : Image) → old_since t left → new_since t left

-- what a call says of crashes: each image that one may leave behind it is one of before after that step, and time
-- went on
pub record Crashes {D : Type 0} (may_leave : D → Image → Type 0) (moment : D → ℕ) (left_since : D → ℕ → Image → Type 0) (step : Image → Image → Type 0) (old new : D) : Type 0 where
  pub follows : Follows step (may_leave old) (may_leave new)
  pub time : Elapses (moment old) (moment new) (left_since old) (left_since new) (may_leave new)

-- a crash at any moment since old leaves an image that has P
pub record LeavesOnly {D : Type 0} (moment : D → ℕ) (left_since : D → ℕ → Image → Type 0) (old new : D) (P : Image → Type 0) : Type 0 where
  pub later : moment old ≤ moment new
  pub each : (left : Image) → left_since new (moment old) left → P left
  -- for a run that began earlier
  pub before : (t : ℕ) (left : Image) → t ≤ moment old → left_since new t left → left_since old t left ⊎ P left
