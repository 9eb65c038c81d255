-- The archives of a ring file, and how much each has stored.
use Rattle.std.specs.Prelude.{ℕ, List, length, map, slice_get, unwrap_or}
use Rattle.std.specs.List.{range_with_len}
use Rattle.ring_format.specs.declared.archive.Archive.{Archive}
use Rattle.ring_format.specs.Layout.{LayoutValue}
use Rattle.ring_format.specs.LayoutFile.{offset_in}
use Rattle.ring_format.specs.Patch.{PatchValue}
use Rattle.ring_archive.specs.Ring.{bare, stale_slots}
use Rattle.ring_look.specs.declared.archives.ArchiveInfo.{ArchiveInfo}

-- what stands for an archive where there is none
abbrev pub no_archive : Archive
no_archive = record { step = 0; points = 0 }

-- the archive at a place, of a file of a version and a layout with a patch laid over it
abbrev pub archive_in : ℕ → LayoutValue → PatchValue → List ℕ → ℕ → ArchiveInfo
archive_in version layout patch file place = record {
  offset = offset_in version layout.archives place;
  archive = unwrap_or (slice_get layout.archives place) no_archive;
  stored = length (stale_slots patch file place);
}

-- all of them, of the file of a path with nothing laid over it
abbrev pub archives_in : ℕ → LayoutValue → List ℕ → List ℕ → List ArchiveInfo
archives_in version layout path file = map (archive_in version layout (bare path layout) file) (range_with_len 0 (length layout.archives))
