-- The line of a file with which something is wrong.
use Rattle.std.specs.Prelude.{ℕ, ◌+◌, ◌/◌, ◌%◌, Bool, true, false, List, [], ◌∷◌, ◌++◌, codes, decimal, Option, Some, None}
use Rattle.ring_format.specs.declared.fault.HeadFault.{HeadFault}
use Rattle.ring_look.specs.Words.{advice_words, archive_of_fault, fault_words}
use Rattle.ring_look.specs.declared.finding.Finding.{Finding}
use Rattle.ring_look.specs.declared.finding.Finding.TheVariants.{Foreign, Elsewhere, Here}
use Rattle.ring_look.specs.declared.found.FileFound.{FileFound}
use Rattle.ring_look.specs.declared.found.FileFound.TheVariants.{Absent, Ring, Faulty}

-- ---- whether something is wrong

abbrev pub is_faulty : FileFound → Bool
is_faulty Absent = false
is_faulty (Ring layout version) = false
is_faulty (Faulty fault) = true

abbrev pub is_wrong : Finding → Bool
is_wrong Foreign = false
is_wrong (Elsewhere own) = true
is_wrong (Here found) = is_faulty found

-- ---- the line

unfoldable pub data_word : List ℕ
data_word = codes "data/"

-- the folder of a class, with two digits
abbrev pub folder_text : ℕ → List ℕ
folder_text class = data_word ++ ((48 + class / 10 % 10) ∷ ((48 + class % 10) ∷ (47 ∷ [])))

abbrev pub file_text : ℕ → List ℕ → List ℕ
file_text class name = folder_text class ++ (name ++ (58 ∷ (32 ∷ [])))

unfoldable pub archive_word : List ℕ
archive_word = codes " (archive "

abbrev pub archive_text : Option ℕ → List ℕ
archive_text None = []
archive_text (Some archive) = archive_word ++ (decimal archive ++ (41 ∷ []))

abbrev pub wrong_text : HeadFault → List ℕ
wrong_text fault = fault_words fault ++ archive_text (archive_of_fault fault)

abbrev pub faulty_text : ℕ → List ℕ → HeadFault → List ℕ
faulty_text class name fault = file_text class name ++ (wrong_text fault ++ (59 ∷ (32 ∷ (advice_words fault ++ (10 ∷ [])))))

abbrev pub found_text : ℕ → List ℕ → FileFound → List ℕ
found_text class name Absent = []
found_text class name (Ring layout version) = []
found_text class name (Faulty fault) = faulty_text class name fault

unfoldable pub elsewhere_word : List ℕ
elsewhere_word = codes "its metric is of another class; move it to "

unfoldable pub unless_word : List ℕ
unless_word = codes " while carbon is stopped, unless its file is there\n"

abbrev pub elsewhere_text : ℕ → List ℕ → ℕ → List ℕ
elsewhere_text class name own = file_text class name ++ (elsewhere_word ++ (folder_text own ++ unless_word))

abbrev pub finding_text : ℕ → List ℕ → Finding → List ℕ
finding_text class name Foreign = []
finding_text class name (Elsewhere own) = elsewhere_text class name own
finding_text class name (Here found) = found_text class name found
