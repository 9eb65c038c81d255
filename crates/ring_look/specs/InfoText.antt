-- The text of a ring file's head, and of what its archives have stored: the lines of `whisper-info`, and one more for each archive.
use Rattle.std.specs.Prelude.{ℕ, ◌+◌, ◌*◌, ◌/◌, ◌%◌, List, [], ◌∷◌, ◌++◌, codes, decimal, drop}
use Rattle.ring_format.specs.Cell.{cell_size_in}
use Rattle.ring_format.specs.Head.{last_retention}
use Rattle.ring_format.specs.Layout.{LayoutValue, retention_of}
use Rattle.ring_format.specs.LayoutFile.{file_size_in}
use Rattle.ring_format.specs.declared.archive.Method.{Method}
use Rattle.ring_format.specs.declared.archive.Method.TheVariants as methods
use Rattle.ring_look.specs.declared.archives.ArchiveInfo.{ArchiveInfo}
use Rattle.ring_look.specs.declared.info_text.Key.{Key}
use Rattle.ring_look.specs.declared.info_text.Key.TheVariants as keys

-- ---- lines

-- what stands before the value of a line
unfoldable pub key_of : Key → List ℕ
key_of keys.Method = codes "aggregationMethod: "
key_of keys.Retention = codes "maxRetention: "
key_of keys.Factor = codes "xFilesFactor: "
key_of keys.FileSize = codes "fileSize: "
key_of keys.Offset = codes "offset: "
key_of keys.Step = codes "secondsPerPoint: "
key_of keys.Points = codes "points: "
key_of keys.ArchiveRetention = codes "retention: "
key_of keys.Size = codes "size: "
key_of keys.Stored = codes "stored: "

abbrev pub field_text : Key → ℕ → List ℕ
field_text key number = key_of key ++ (decimal number ++ (10 ∷ []))

-- ---- the file

unfoldable pub method_name : Method → List ℕ
method_name methods.Average = codes "average"
method_name methods.Sum = codes "sum"
method_name methods.Last = codes "last"
method_name methods.Max = codes "max"
method_name methods.Min = codes "min"
method_name methods.AvgZero = codes "avg_zero"
method_name methods.AbsMax = codes "absmax"
method_name methods.AbsMin = codes "absmin"

abbrev pub method_text : Method → List ℕ
method_text method = key_of keys.Method ++ (method_name method ++ (10 ∷ []))

-- six places of so many millionths
abbrev pub places_text : ℕ → List ℕ
places_text millionths = drop 1 (decimal (1000000 + millionths))

-- the factor as a decimal
abbrev pub factor_text : ℕ → List ℕ
factor_text factor = key_of keys.Factor ++ (decimal (factor / 1000000) ++ (46 ∷ (places_text (factor % 1000000) ++ (10 ∷ []))))

abbrev pub front_text : LayoutValue → List ℕ
front_text layout = method_text layout.method ++ (field_text keys.Retention (last_retention layout.archives) ++ factor_text layout.factor)

-- ---- its archives

unfoldable pub title_word : List ℕ
title_word = codes "Archive "

abbrev pub title_text : ℕ → List ℕ
title_text number = title_word ++ (decimal number ++ (10 ∷ []))

abbrev pub place_text : ArchiveInfo → List ℕ
place_text archive = field_text keys.Offset archive.offset ++ (field_text keys.Step archive.archive.step ++ field_text keys.Points archive.archive.points)

abbrev pub reach_text : ℕ → ArchiveInfo → List ℕ
reach_text version archive =
    field_text keys.ArchiveRetention (retention_of archive.archive)
    ++ (field_text keys.Size (cell_size_in version * archive.archive.points) ++ field_text keys.Stored archive.stored)

unfoldable pub archive_text : ℕ → ℕ → ArchiveInfo → List ℕ
archive_text version number archive = title_text number ++ (place_text archive ++ (reach_text version archive ++ (10 ∷ [])))

-- those of archives whose numbers begin with this
abbrev pub archives_text : ℕ → ℕ → List ArchiveInfo → List ℕ
archives_text version number [] = []
archives_text version number (archive ∷ archives) = archive_text version number archive ++ archives_text version (number + 1) archives

abbrev pub info_text : LayoutValue → ℕ → List ArchiveInfo → List ℕ
info_text layout version archives =
    front_text layout ++ (field_text keys.FileSize (file_size_in version layout.archives) ++ (10 ∷ archives_text version 0 archives))
