-- The bytes of a cell: the bucket in four, and then the value, both big-endian. A value has 16 bytes, and eight in a file of version 1.
use Rattle.std.specs.Prelude.{◌≡◌, ◌⊎◌, ℕ, ◌==◌, ℤ, List, ◌++◌, take, drop, Option, Some, if◌then◌else◌}
use Rattle.std.specs.Int.{w32, to_be_bytes, from_be_bytes}
use Rattle.fixed_num.specs.Milli.{milli_bytes, milli_of_bytes, old_milli_of_bytes}

-- the versions of files
abbrev pub IsVersion : ℕ → Type 0
IsVersion version = (version ≡ 1) ⊎ (version ≡ 2)

-- the bytes of a cell in a file of a version, and in one that is written today
abbrev pub cell_size_in : ℕ → ℕ
cell_size_in version = if version == 1 then 12 else 20

abbrev pub cell_size : ℕ
cell_size = 20

-- the bytes of a cell that is written
abbrev pub cell_bytes : ℕ → ℤ → List ℕ
cell_bytes bucket value = to_be_bytes w32 bucket ++ milli_bytes value

-- the value of a cell's bytes behind its bucket, where it fits
abbrev pub stored_value : ℕ → List ℕ → Option ℤ
stored_value version bytes = if version == 1 then Some (old_milli_of_bytes bytes) else milli_of_bytes bytes

-- the bucket and the value of the bytes of a cell in a file of a version
abbrev pub cell_in : ℕ → List ℕ → ℕ × Option ℤ
cell_in version bytes = (from_be_bytes w32 (take 4 bytes), stored_value version (drop 4 bytes))
