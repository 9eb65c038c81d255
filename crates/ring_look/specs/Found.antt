-- What stands under a name.
use Rattle.std.specs.Prelude.{◌≡◌, ℕ, false, List, length, take, Option, Some, None, Result, Ok, Err}
use Rattle.outside_io.specs.Image.{Image}
use Rattle.ring_format.specs.Cell.{IsVersion}
use Rattle.ring_format.specs.Layout.{LayoutValue, layout_fault}
use Rattle.ring_format.specs.LayoutFile.{file_size_in}
use Rattle.ring_format.specs.Head.{head_bytes_in, head_result}
use Rattle.ring_format.specs.declared.fault.HeadFault.{HeadFault}
use Rattle.ring_archive.specs.Ring.{HoldsRing}
use Rattle.ring_look.specs.declared.found.FileFound.{FileFound}
use Rattle.ring_look.specs.declared.found.FileFound.TheVariants.{Absent, Ring, Faulty}

-- what the head of a file says: its first bytes, of which no head has more than 316, and the length of the file
unfoldable pub head_in : List ℕ → Result (LayoutValue × ℕ) HeadFault
head_in file = head_result (take 316 file) (length file)

-- what a file with such a head is
abbrev pub found_by : Result (LayoutValue × ℕ) HeadFault → FileFound
found_by (Ok told) = Ring told.0 told.1
found_by (Err fault) = Faulty fault

-- what a file is, or none
abbrev pub found_in : Option (List ℕ) → FileFound
found_in None = Absent
found_in (Some file) = found_by (head_in file)

-- a file of `size` bytes that begins with these has the head of what was found
abbrev pub BeginsAs : FileFound → List ℕ → ℕ → Type 0
BeginsAs Absent bytes size = Unit {0}
BeginsAs (Ring layout version) bytes size =
    IsVersion version
    × (take (length (head_bytes_in version layout)) bytes ≡ head_bytes_in version layout)
    × (size ≡ file_size_in version layout.archives)
    × (layout_fault layout.archives layout.factor ≡ None)
BeginsAs (Faulty fault) bytes size = Unit {0}

-- where a ring file was found, it can be read as one of its layout and version
abbrev pub IsReadable : FileFound → Option Image → List ℕ → Type 0
IsReadable Absent known name = Unit {0}
IsReadable (Ring layout version) known name = IsVersion version × HoldsRing false known name version layout.archives
IsReadable (Faulty fault) known name = Unit {0}
