-- A file that is written run by run: how far it is, and what a call makes of it.
use Rattle.std.specs.Prelude.{◌≡◌, ◌⊎◌, ℕ, false, ⊤, List, [], ◌∷◌, drop, length, slice_get, Contains, Option, Some, IfSome, IsSomeAnd}
use Rattle.std.specs.List.{flat_map}
use Rattle.outside_io.specs.Image.{Image, ChangesOnly, Creates, Tears, Writes}
use Rattle.ring_format.specs.LayoutFile.{file_size_of}
use Rattle.ring_format.specs.Patch.{IsPlace, PatchValue}
use Rattle.ring_archive.specs.Ring.{IsRingFile, ReadsAs, Rings, UnderPatch, cell_from, ring_cell}
use Rattle.write_shelf.specs.AreRuns.{places_in}
use Rattle.write_shelf.specs.Shelf.{DrainValue, run_at, run_bytes}
use Rattle.write_shelf.specs.declared.run.Run.{Run}
use Rattle.write_shelf.specs.declared.run.Run.TheVariants.{Create, Cells, Head}

-- one of these runs writes the slot
abbrev pub IsLeft : List Run → ℕ × ℕ → Type 0
IsLeft left place = Contains (flat_map places_in left) place

-- The file of a patch with these runs left to write: it has its whole length; its head stands,
-- unless the patch is fresh and its last run, the head, is left; and each slot that none of these
-- runs writes holds, in version 2, what the file means under the patch, which under a fresh patch is
-- zero where no cell is laid.
pub record IsPartWritten (patch : PatchValue) (left : List Run) (file : List ℕ) : Type 0 where
  pub long : length file ≡ file_size_of patch.layout.archives
  pub head : (patch.fresh ≡ false) ⊎ (left ≡ []) → IsRingFile patch.layout file
  pub cells : (place : ℕ × ℕ) → IsPlace patch.layout place → (IsLeft left place → ⊥)
      → cell_from 2 patch.layout.archives file place ≡ ring_cell patch file place

-- what stands under a file's name when these runs are left: anything or nothing, where the file is
-- to be created
abbrev pub Awaits : PatchValue → List Run → Option (List ℕ) → Type 0
Awaits patch [] held = IsSomeAnd held (IsPartWritten patch [])
Awaits patch (Create size ∷ left) held = ⊤
Awaits patch (Cells archive slot count ∷ left) held = IsSomeAnd held (IsPartWritten patch (Cells archive slot count ∷ left))
Awaits patch (Head ∷ left) held = IsSomeAnd held (IsPartWritten patch (Head ∷ left))

-- the same of the drain on a shelf
abbrev pub AwaitsNext : Option DrainValue → Option (List ℕ) → Type 0
AwaitsNext shelf held = IfSome shelf (λ drain. Awaits drain.patch drain.left held)

-- A call of the disk came to these runs that are left: no other file changed, whatever archives the
-- file read as under the patch, it reads as them now, and it is as far written as the runs need.
pub record ComesTo (patch : PatchValue) (left : List Run) (name : List ℕ) (before after : Image) : Type 0 where
  pub others : ChangesOnly before after name
  pub reads : (rings : Rings) → UnderPatch patch.fresh (Some before) name (λ file. ReadsAs patch file rings)
      → UnderPatch patch.fresh (Some after) name (λ file. ReadsAs patch file rings)
  pub far : Awaits patch left (after name)

-- ---- what a call for one run does to the disk

-- The run is written: the file is created with so many bytes, all zero, or the run's bytes stand at
-- their place in it, and nothing else on the disk changed.
abbrev pub PutsRun : PatchValue → List ℕ → Image → Image → Run → Type 0
PutsRun patch name before after (Create size) = Creates before after name size
PutsRun patch name before after (Cells archive slot count) =
    Writes before after name (run_at patch (Cells archive slot count))
    (run_bytes patch (Cells archive slot count))
PutsRun patch name before after Head =
    Writes before after name (run_at patch Head) (run_bytes patch Head)

-- The call for it failed: where the file was to be created, anything or nothing stands under its
-- name; else any bytes stand where the run's were to be written; and nothing else on the disk
-- changed.
abbrev pub TearsRun : PatchValue → List ℕ → Image → Image → Run → Type 0
TearsRun patch name before after (Create size) = ChangesOnly before after name
TearsRun patch name before after (Cells archive slot count) =
    Tears before after name (run_at patch (Cells archive slot count))
    (length (run_bytes patch (Cells archive slot count)))
TearsRun patch name before after Head =
    Tears before after name (run_at patch Head) (length (run_bytes patch Head))

-- the next run of a drain is written, this and no other
pub record RunWritten (drain : DrainValue) (name : List ℕ) (before after : Image) : Type 0 where
  pub exact : IsSomeAnd (slice_get drain.left 0) (PutsRun drain.patch name before after)
  pub comes : ComesTo drain.patch (drop 1 drain.left) name before after

-- it is not, and it may be written again
pub record RunTorn (drain : DrainValue) (name : List ℕ) (before after : Image) : Type 0 where
  pub exact : IsSomeAnd (slice_get drain.left 0) (TearsRun drain.patch name before after)
  pub comes : ComesTo drain.patch drain.left name before after

-- the same of the drain on a shelf
abbrev pub WritesNext : Option DrainValue → List ℕ → Image → Image → Type 0
WritesNext shelf name before after = IfSome shelf (λ drain. RunWritten drain name before after)

abbrev pub FailsNext : Option DrainValue → List ℕ → Image → Image → Type 0
FailsNext shelf name before after = IfSome shelf (λ drain. RunTorn drain name before after)

-- ---- what a crash leaves

-- the file stays a ring file of the patch's layout, and reads under the patch as it did
pub record StaysRing (patch : PatchValue) (name : List ℕ) (before after : Image) : Type 0 where
  pub whole : IsSomeAnd (after name) (IsRingFile patch.layout)
  pub reads : (rings : Rings) → IsSomeAnd (before name) (λ file. ReadsAs patch file rings)
      → IsSomeAnd (after name) (λ file. ReadsAs patch file rings)

-- What a crash at any moment of a call for the next run leaves of what one before it might have
-- left: any bytes where the run's were to be written, or anything or nothing under the name where
-- the file was to be created, and nothing else changed. So a ring file that was there stays one.
pub record RunCrashed (drain : DrainValue) (name : List ℕ) (before after : Image) : Type 0 where
  pub exact : IsSomeAnd (slice_get drain.left 0) (TearsRun drain.patch name before after)
  pub stays : drain.patch.fresh ≡ false → IsSomeAnd (before name) (IsRingFile drain.patch.layout)
      → StaysRing drain.patch name before after

-- the same of the drain on a shelf
abbrev pub CrashesNext : Option DrainValue → List ℕ → Image → Image → Type 0
CrashesNext shelf name before after = IfSome shelf (λ drain. RunCrashed drain name before after)
