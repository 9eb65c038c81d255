-- What a patch makes of a ring file.
use Rattle.std.specs.Prelude.{ℕ, List}
use Rattle.ring_format.specs.Patch.{PatchValue}
use Rattle.ring_archive.specs.Ring.{IsRingFile, ReadsAs, Rings, bare}

-- the new bytes are a ring file that alone reads as the old ones with the patch laid over them
pub record IsLaid (patch : PatchValue) (old new : List ℕ) : Type 0 where
  pub whole : IsRingFile patch.layout new
  pub reads : (rings : Rings) → ReadsAs patch old rings → ReadsAs (bare patch.path patch.layout) new rings
