-- The head of a ring file, all numbers in four bytes, big-endian: the first word, the last archive's retention,
-- the factor, the count of archives, and then a row for each archive: where it begins, its step and its points.
-- The first word is the method's number, and in a file of version 2 it is 512 more.
use Rattle.std.specs.Prelude.{ℕ, ◌+◌, ◌-◌, ◌*◌, ◌==◌, Bool, ◌&&◌, ◌||◌, not, nat_lt, nat_le, List, ◌++◌, length, take, drop, map, find, slice_get, unwrap_or, is_some, option_map, Option, Some, None, Result, Ok, Err, if◌then◌else◌}
use Rattle.std.specs.Int.{w32, to_be_bytes, from_be_bytes}
use Rattle.std.specs.List.{zip, flat_map, list_all, range_with_len}
use Rattle.std.specs.Option.{option_map_or}
use Rattle.ring_format.specs.declared.archive.Archive.{Archive}
use Rattle.ring_format.specs.declared.archive.Method.{Method}
use Rattle.ring_format.specs.declared.archive.Method.TheVariants.{Average, Sum, Last, Max, Min, AvgZero, AbsMax, AbsMin}
use Rattle.ring_format.specs.declared.fault.LayoutFault.{LayoutFault}
use Rattle.ring_format.specs.declared.fault.HeadFault.{HeadFault}
use Rattle.ring_format.specs.declared.fault.HeadFault.TheVariants as faults
use Rattle.ring_format.specs.Layout.{LayoutValue, retention_of, layout_result}
use Rattle.ring_format.specs.LayoutFile.{head_size, file_size_in, offset_in, row_size}

-- ---- numbers

-- the four bytes of a number, and the number in the four bytes at a place
unfoldable pub number_bytes : ℕ → List ℕ
number_bytes n = to_be_bytes w32 n

unfoldable pub number_at : ℕ → List ℕ → ℕ
number_at at bytes = from_be_bytes w32 (take 4 (drop at bytes))

-- ---- methods

abbrev pub method_number : Method → ℕ
method_number Average = 1
method_number Sum = 2
method_number Last = 3
method_number Max = 4
method_number Min = 5
method_number AvgZero = 6
method_number AbsMax = 7
method_number AbsMin = 8

-- the method of a number, of which there are eight
unfoldable pub method_of : ℕ → Option Method
method_of n =
    if n == 1 then Some Average else
    (if n == 2 then Some Sum else
    (if n == 3 then Some Last else
    (if n == 4 then Some Max else
    (if n == 5 then Some Min else
    (if n == 6 then Some AvgZero else
    (if n == 7 then Some AbsMax else
    (if n == 8 then Some AbsMin else None)))))))

-- the first word of a file of a version
abbrev pub first_word : ℕ → Method → ℕ
first_word version method = if version == 1 then method_number method else 512 + method_number method

-- the method and the version that a first word tells: none where it is neither 1 to 8 nor 513 to 520
unfoldable pub told_by : ℕ → Option (Method × ℕ)
told_by word =
    if nat_lt 512 word then option_map (λ method. (method, 2)) (method_of (word - 512)) else option_map (λ method. (method, 1)) (method_of word)

-- the version of a file by its first word: 1 where that is a method's number, and else 2, also of a file whose head is yet to be written
unfoldable pub version_of : List ℕ → ℕ
version_of file = if is_some (method_of (number_at 0 file)) then 1 else 2

-- ---- what a layout's head holds

-- how far back the coarsest archive reaches, which is farthest
abbrev pub last_retention : List Archive → ℕ
last_retention archives = unwrap_or (option_map retention_of (slice_get archives (length archives - 1))) 0

-- each archive beside the place where it begins
abbrev pub rows_of : ℕ → List Archive → List (ℕ × Archive)
rows_of version archives = zip (map (offset_in version archives) (range_with_len 0 (length archives))) archives

abbrev pub row_bytes : ℕ × Archive → List ℕ
row_bytes row = number_bytes row.0 ++ (number_bytes row.1.step ++ number_bytes row.1.points)

unfoldable pub rows_bytes : List (ℕ × Archive) → List ℕ
rows_bytes rows = flat_map row_bytes rows

-- the four numbers before the rows
unfoldable pub front_bytes : ℕ → LayoutValue → List ℕ
front_bytes version layout =
    number_bytes (first_word version layout.method) ++ (number_bytes (last_retention layout.archives) ++ (number_bytes layout.factor ++ number_bytes (length layout.archives)))

abbrev pub head_bytes_in : ℕ → LayoutValue → List ℕ
head_bytes_in version layout = front_bytes version layout ++ rows_bytes (rows_of version layout.archives)

-- the head of a file that is written today
abbrev pub head_bytes : LayoutValue → List ℕ
head_bytes layout = head_bytes_in 2 layout

-- ---- what a file's first bytes hold

abbrev pub is_zero : ℕ → Bool
is_zero b = b == 0

-- the count of archives
abbrev pub count_in : List ℕ → ℕ
count_in bytes = number_at 12 bytes

-- the archive of row `i`
abbrev pub archive_at : List ℕ → ℕ → Archive
archive_at bytes i = record { step = number_at (20 + row_size * i) bytes; points = number_at (24 + row_size * i) bytes }

abbrev pub archives_in : List ℕ → List Archive
archives_in bytes = map (archive_at bytes) (range_with_len 0 (count_in bytes))

-- the first archive that does not begin where what stands before it ends
abbrev pub misplaced_archive : ℕ → List ℕ → List Archive → Option ℕ
misplaced_archive version bytes archives =
    find (λ i. not (number_at (16 + row_size * i) bytes == offset_in version archives i)) (range_with_len 0 (length archives))

-- whether a file is too short for its count of numbers, or for the rows that it tells of
abbrev pub is_short : List ℕ → ℕ → Bool
is_short bytes size = nat_lt size 16 || (nat_le (count_in bytes) 25 && nat_lt size (head_size (count_in bytes)))

-- ---- the layout and the version of a file, or the first fault of its head

abbrev pub or_layout_fault : ℕ → Result LayoutValue LayoutFault → Result (LayoutValue × ℕ) HeadFault
or_layout_fault version (Ok layout) = Ok (layout, version)
or_layout_fault version (Err fault) = Err (faults.Layout fault)

-- with archives that lie where they should
unfoldable pub placed_result : Method × ℕ → List Archive → List ℕ → ℕ → Result (LayoutValue × ℕ) HeadFault
placed_result told archives bytes size =
    if not (number_at 4 bytes == last_retention archives) then Err faults.Retention else
    (if not (size == file_size_in told.1 archives) then Err faults.Length else
    or_layout_fault told.1 (layout_result archives told.0 (number_at 8 bytes)))

-- with a count of archives that a layout may have
unfoldable pub archives_result : Method × ℕ → List ℕ → ℕ → Result (LayoutValue × ℕ) HeadFault
archives_result told bytes size =
    option_map_or (λ i. Err (faults.Offset i)) (misplaced_archive told.1 bytes (archives_in bytes))
    (placed_result told (archives_in bytes) bytes size)

-- of a file of `size` bytes that begins with these bytes
unfoldable pub head_result : List ℕ → ℕ → Result (LayoutValue × ℕ) HeadFault
head_result bytes size =
    if list_all is_zero (take 16 bytes) then Err faults.Zero else
    (if is_short bytes size then Err faults.Short else
    option_map_or
    (λ told. if not (nat_le 1 (count_in bytes) && nat_le (count_in bytes) 25) then Err faults.Count else archives_result told bytes size)
    (told_by (number_at 0 bytes)) (Err faults.Method))
