-- Where the parts of a ring file lie: the head, and then each archive behind the one before it.
use Rattle.std.specs.Prelude.{ℕ, ◌+◌, ◌*◌, List, length, take}
use Rattle.ring_format.specs.declared.archive.Archive.{Archive}
use Rattle.ring_format.specs.Layout.{point_count}
use Rattle.ring_format.specs.Cell.{cell_size_in}

-- the bytes of an archive's row in a head: three numbers of four bytes
abbrev pub row_size : ℕ
row_size = 12

-- the bytes of a head: four numbers of four bytes, and a row for each archive
abbrev pub head_size : ℕ → ℕ
head_size archive_count = 16 + row_size * archive_count

-- the bytes of the whole file of a version, each point in a cell
abbrev pub file_size_in : ℕ → List Archive → ℕ
file_size_in version archives = head_size (length archives) + cell_size_in version * point_count archives

-- where archive `i` begins in it
abbrev pub offset_in : ℕ → List Archive → ℕ → ℕ
offset_in version archives i = head_size (length archives) + cell_size_in version * point_count (take i archives)

-- the same of a file that is written today
abbrev pub file_size_of : List Archive → ℕ
file_size_of archives = file_size_in 2 archives

abbrev pub offset_of : List Archive → ℕ → ℕ
offset_of archives i = offset_in 2 archives i
