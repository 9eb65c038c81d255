-- The cells of different places lie apart in a file.
use Rattle.std.proofs.Common.{◌≡◌, ◌≢◌, ◌∙◌, ℕ, ◌+◌, ◌-◌, ◌*◌, ◌<◌, ◌≤◌, ◌⊎◌, List, length, get_or, take, Some, inl, inr, sym, ap, arith, length-take}
use Rattle.std.specs.Prelude.{slice_get}
use Rattle.std.proofs.lemmas.Bool.{cases_lt}
use Rattle.std.proofs.lemmas.List.{take-take, get_or-take}
use Rattle.std.proofs.lemmas.Option.{slice_get-get_or}
use Rattle.ring_format.specs.declared.archive.Archive.{Archive}
use Rattle.ring_format.specs.Layout.{LayoutValue, point_count}
use Rattle.ring_format.specs.LayoutFile.{file_size_of, head_size, offset_of}
use Rattle.ring_format.specs.Patch.{IsPlace}
use Rattle.ring_format.specs.Cell.{cell_size}
use Rattle.ring_format.proofs.LawfulLayouts.{points_within}
use Rattle.ring_archive.specs.Ring.{cell_offset}

abbrev pub blank : Archive
blank = record { step = 0; points = 0 }

-- an archive ends where a later one begins, or before
archives_apart : (archives : List Archive) (a b : ℕ) → a < b → b ≤ length archives → offset_of archives a + cell_size * (get_or archives a blank).points ≤ offset_of archives b
archives_apart archives a b less within =
    let all : a < length (take b archives) = omega (arith, length-take b archives) in
    let points = points_within (take b archives) a blank all in
    let front : point_count (take a (take b archives)) ≡ point_count (take a archives) = ap point_count (take-take a b archives (omega arith)) in
    let same : (get_or (take b archives) a blank).points ≡ (get_or archives a blank).points = ap (λ (archive : Archive). archive.points) (get_or-take b archives a blank less) in
    omega arith

-- the archive of a place
pub slot_get : (layout : LayoutValue) (place : ℕ × ℕ) → IsPlace layout place → slice_get layout.archives place.0 ≡ Some (get_or layout.archives place.0 blank)
slot_get layout place is = slice_get-get_or layout.archives place.0 blank is.0

-- the points of a place's archive
pub slot_below : (layout : LayoutValue) (place : ℕ × ℕ) → IsPlace layout place → place.1 < (get_or layout.archives place.0 blank).points
slot_below layout place is = rw (slot_get layout place is) at is.1

-- a place that is none of some neighbours is of another archive, or lies before them or behind them
pub slot_aside : (first place : ℕ × ℕ) (count : ℕ) → ((k : ℕ) → k < count → (first.0, first.1 + k) ≢ place) → place.0 ≡ first.0 → (place.1 < first.1) ⊎ (first.1 + count ≤ place.1)
slot_aside first place count differs same =
    elim (cases_lt place.1 first.1) [
      | inl before ↦ inl before
      | inr behind ↦ elim (cases_lt place.1 (first.1 + count)) [
        | inl within ↦
            let here : first.1 + (place.1 - first.1) ≡ place.1 = omega arith in
            absurd (differs (place.1 - first.1) (omega arith) (ap (λ (a : ℕ). (a, first.1 + (place.1 - first.1))) (sym same) ∙ ap (λ (slot : ℕ). (place.0, slot)) here))
        | inr after ↦ inr after
      ]
    ]

same_offset : (archives : List Archive) (place first : ℕ × ℕ) → place.0 ≡ first.0 → offset_of archives place.0 ≡ offset_of archives first.0
same_offset archives place first same = ap (offset_of archives) same

same_points : (archives : List Archive) (place first : ℕ × ℕ) → place.0 ≡ first.0 → (get_or archives place.0 blank).points ≡ (get_or archives first.0 blank).points
same_points archives place first same = ap (λ (i : ℕ). (get_or archives i blank).points) same

-- the cell of a place lies apart from those of some neighbours
pub cells_apart : (layout : LayoutValue) (first place : ℕ × ℕ) (count : ℕ) → first.0 < length layout.archives → first.1 + count ≤ (get_or layout.archives first.0 blank).points → IsPlace layout place
    → (place.0 ≡ first.0 → (place.1 < first.1) ⊎ (first.1 + count ≤ place.1))
    → (cell_offset 2 layout.archives place + cell_size ≤ cell_offset 2 layout.archives first) ⊎ (cell_offset 2 layout.archives first + cell_size * count ≤ cell_offset 2 layout.archives place)
cells_apart layout first place count within room is aside =
    let slot = slot_below layout place is in
    elim (cases_lt place.0 first.0) [
      | inl before ↦ inl (omega (arith, archives_apart layout.archives place.0 first.0 before (omega arith)))
      | inr later ↦ elim (cases_lt first.0 place.0) [
        | inl behind ↦ let inside : place.0 < length layout.archives = is.0 in inr (omega (arith, archives_apart layout.archives first.0 place.0 behind (omega arith)))
        | inr earlier ↦
            let same : place.0 ≡ first.0 = omega arith in
            let offset = same_offset layout.archives place first same in
            elim (aside same) [
              | inl left ↦ inl (omega arith)
              | inr right ↦ inr (omega arith)
            ]
      ]
    ]

-- some neighbours lie behind the head and within the file
pub cells_within : (layout : LayoutValue) (first : ℕ × ℕ) (count : ℕ) → first.0 < length layout.archives → first.1 + count ≤ (get_or layout.archives first.0 blank).points
    → (head_size (length layout.archives) ≤ cell_offset 2 layout.archives first) × (cell_offset 2 layout.archives first + cell_size * count ≤ file_size_of layout.archives)
cells_within layout first count within room =
    (omega arith, omega (arith, points_within layout.archives first.0 blank within))
