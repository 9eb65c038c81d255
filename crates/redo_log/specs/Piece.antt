-- The pieces in which a body is written: the first has what stands before the cells, and each goes on with as many whole cells as it has
-- room for.
use Rattle.std.specs.Prelude.{◌≡◌, ◌⊎◌, ℕ, ℤ, ◌+◌, ◌*◌, ◌<◌, ◌≤◌, List, ◌++◌, length, take, drop, All}
use Rattle.ring_format.specs.Patch.{PatchValue}
use Rattle.redo_log.specs.Body.{Fits, entries_bytes, entry_size, leading_bytes}
use Rattle.redo_log.specs.Steps.{piece_cells}

-- behind a place, the first so many of these cells fill the buffer, each of which fits
pub record FillsWith (cells : List ((ℕ × ℕ) × (ℕ × ℤ))) (at count : ℕ) (old new : List ℕ) : Type 0 where
  pub within : count ≤ length cells
  pub room : at + entry_size * count ≤ 4096
  pub full : (count ≡ length cells) ⊎ (4096 < at + entry_size * (count + 1))
  pub bytes : take (at + entry_size * count) new ≡ take at old ++ entries_bytes (take count cells)
  pub fit : All Fits (take count cells)

-- the first piece, with so many cells
pub record IsFirstPiece (patch : PatchValue) (len count : ℕ) (out : List ℕ) : Type 0 where
  pub within : count ≤ length patch.cells
  pub full : (piece_cells ≤ count) ⊎ (count ≡ length patch.cells)
  pub low : len ≤ 4096
  pub long : len ≡ length (leading_bytes patch) + entry_size * count
  pub bytes : take len out ≡ leading_bytes patch ++ entries_bytes (take count patch.cells)
  pub fit : All Fits (take count patch.cells)

-- a later piece, with so many cells behind those that are written
pub record IsNextPiece (patch : PatchValue) (written len count : ℕ) (out : List ℕ) : Type 0 where
  pub within : written + count ≤ length patch.cells
  pub full : (piece_cells ≤ count) ⊎ (written + count ≡ length patch.cells)
  pub low : len ≤ 4096
  pub long : len ≡ entry_size * count
  pub bytes : take len out ≡ entries_bytes (take count (drop written patch.cells))
  pub fit : All Fits (take count (drop written patch.cells))
