-- What an image starts as.
use Rattle.std.specs.Prelude.{ℕ, List, Option}
use Rattle.outside_io.specs.Image.{Image}
use Rattle.carbon_model.specs.RingFiles.{Stands}
use Rattle.carbon_model.specs.State.{Kept}
use Rattle.shard_core.specs.Opened.{IsDamagedBy, IsOpening}

-- The image of a class starts as what is kept, where the disk told an image at the opening of the run: each opening of it stands for
-- what is kept, and neither the log nor a ring file of it is damaged.
pub record StartsAs (class : ℕ) (told : Image) (kept : List ℕ → Option Kept) (left : Image) : Type 0 where
  pub opens : (opened : Image) → IsOpening left opened → Stands told opened kept class
  pub sound : (name : List ℕ) → IsDamagedBy class left name → ⊥
