-- The cells of a ring as they are held in memory: those of neighbouring slots, from one on and round the ring's end.
use Rattle.std.specs.Prelude.{◌≡◌, ℕ, ℤ, ◌+◌, ◌*◌, ◌%◌, ◌==◌, ◌<◌, ◌≤◌, Bool, List, length, take, drop, filter, slice_get, unwrap_or, option_map, Option, None, IfSome, if◌then◌else◌}
use Rattle.std.specs.List.{range_with_len}
use Rattle.ring_format.specs.declared.archive.Archive.{Archive}
use Rattle.ring_format.specs.Cell.{IsVersion, cell_in, cell_size_in}
use Rattle.ring_format.specs.Patch.{Cells, cell_at}
use Rattle.ring_archive.specs.declared.round.Round.{Round}
use Rattle.ring_archive.specs.Ring.{is_laid, laid_cell, stored_cell, value_for, zero_cell}

-- the ring is that of an archive among these, and has the first slot
abbrev pub IsRoundOf : List Archive → Round → Type 0
IsRoundOf archives round = IfSome (slice_get archives round.archive) (λ archive. round.points ≡ archive.points)

-- So many cells from the first slot on go round the ring of one of these archives, once at most.
pub record GoesRound (archives : List Archive) (round : Round) (count : ℕ) : Type 0 where
  pub version : IsVersion round.version
  pub ring : IsRoundOf archives round
  pub slot : round.slot < round.points
  pub once : count ≤ round.points

-- the slot so many slots behind the first one, of a number that is less than the points
abbrev pub slot_behind : Round → ℕ → ℕ
slot_behind round place = (round.slot + place) % round.points

-- the cell of a slot as the file holds it; a file that is yet to be created holds zero in each slot
unfoldable pub file_cell : Bool → List Archive → List ℕ → ℕ × ℕ → ℕ × Option ℤ
file_cell fresh archives file place = if fresh then zero_cell else stored_cell archives file place

-- the cell at a place of the memory, which holds cells of a version
unfoldable pub held_cell : ℕ → List ℕ → ℕ → ℕ × Option ℤ
held_cell version bytes place = cell_in version (take (cell_size_in version) (drop (cell_size_in version * place) bytes))

-- so many places of the memory from a first one on, of those whose cell is not zero, in order
unfoldable pub held_slots : ℕ → List ℕ → ℕ → ℕ → List ℕ
held_slots version bytes first count = filter (λ place. is_laid (held_cell version bytes place)) (range_with_len first count)

-- the memory holds the file's cells
pub record HoldsSlots (fresh : Bool) (archives : List Archive) (file : List ℕ) (round : Round) (bytes : List ℕ) : Type 0 where
  pub cells : (place : ℕ) → cell_size_in round.version * place + cell_size_in round.version ≤ length bytes
      → held_cell round.version bytes place ≡ file_cell fresh archives file (round.archive, slot_behind round place)

-- the cell so many slots behind the first one: the patch's, and else that in memory
unfoldable pub cell_behind : Cells → Round → List ℕ → ℕ → ℕ × Option ℤ
cell_behind cells round bytes place = unwrap_or (option_map laid_cell (cell_at cells (round.archive, slot_behind round place))) (held_cell round.version bytes place)

-- the value of the bucket with a number, in a ring whose first slot in memory is that of the first bucket
unfoldable pub picked_value : Cells → Round → List ℕ → ℕ → ℕ → ℕ → Option ℤ
picked_value cells round bytes first step k =
    if first + k * step == 0 then None else value_for (first + k * step) (cell_behind cells round bytes (k % round.points))

-- the same where no cell of a patch is laid over those in memory and the ring is not gone round
unfoldable pub held_value : ℕ → List ℕ → ℕ → ℕ → ℕ → Option ℤ
held_value version bytes first step k =
    if first + k * step == 0 then None else value_for (first + k * step) (held_cell version bytes k)
