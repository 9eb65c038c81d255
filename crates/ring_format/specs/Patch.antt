-- A patch: cells that are to be laid over a ring file. Each stands at a place, an archive and a slot.
use Rattle.std.specs.Prelude.{◌≡◌, ◌≢◌, ℕ, suc, ◌<◌, ◌≤◌, ℤ, Bool, List, [], ◌∷◌, length, find, insert, Option, IfSome, slice_get, slice_index_or, slice_set, if◌then◌else◌}
use Rattle.std.specs.List.Sorted.{IsStrictlySortedBy}
use Rattle.std.specs.BTreeMap.{insert_entry, is_at}
use Rattle.std.specs.Map.{keys_of, lookup}
use Rattle.std.specs.Ordering.{nat_cmp, ordering_then, is_gt, is_le}
use Rattle.std.specs.declared.cmp.Ordering.{Ordering}
use Rattle.ring_format.specs.Layout.{LayoutValue}

-- by archive, and in one archive by slot
abbrev pub place_cmp : ℕ × ℕ → ℕ × ℕ → Ordering
place_cmp a b = ordering_then (nat_cmp a.0 b.0) (nat_cmp a.1 b.1)

-- Places, each with the bucket and the value of its cell. The places rise strictly.
abbrev pub Cells : Type 0
Cells = List ((ℕ × ℕ) × (ℕ × ℤ))

-- What contracts see of a patch. It is fresh where its file is to be created.
pub record PatchValue : Type 0 where
  pub path : List ℕ
  pub layout : LayoutValue
  pub fresh : Bool
  pub cells : List ((ℕ × ℕ) × (ℕ × ℤ))

-- whether an archive of the layout has this slot
abbrev pub IsPlace : LayoutValue → ℕ × ℕ → Type 0
IsPlace layout place = (place.0 < length layout.archives) × IfSome (slice_get layout.archives place.0) (λ archive. place.1 < archive.points)

-- the bucket and the value laid at a place
abbrev pub cell_at : Cells → ℕ × ℕ → Option (ℕ × ℤ)
cell_at cells place = lookup (is_at (place_cmp place)) cells

-- the cells with one laid, in place of one at the same place
abbrev pub with_cell : Cells → ℕ × ℕ → ℕ × ℤ → Cells
with_cell cells place cell = insert_entry place_cmp cells place cell

-- the first cell at a place or behind it
abbrev pub first_cell_from : Cells → ℕ × ℕ → Option ((ℕ × ℕ) × (ℕ × ℤ))
first_cell_from cells place = find (λ cell. is_le (place_cmp place cell.0)) cells

-- how many cells stand before the first that is at a place or behind it
abbrev pub cells_before : Cells → ℕ × ℕ → ℕ
cells_before [] place = 0
cells_before (cell ∷ cells) place = if is_gt (place_cmp place cell.0) then suc (cells_before cells place) else 0

-- the cell of the place stands there, so a write there lays one
pub record IsLaidAt (cells : List ((ℕ × ℕ) × (ℕ × ℤ))) (place : ℕ × ℕ) (at : ℕ) : Type 0 where
  pub within : at < length cells
  pub written : (held : ℕ × ℤ) → slice_set cells at (place, held) ≡ with_cell cells place held
  pub rise : (held : ℕ × ℤ) → IsStrictlySortedBy place_cmp (keys_of (slice_set cells at (place, held)))

-- there is no cell of the place, and an insertion there lays one
pub record IsFreeAt (cells : List ((ℕ × ℕ) × (ℕ × ℤ))) (place : ℕ × ℕ) (at : ℕ) : Type 0 where
  pub within : at ≤ length cells
  pub inserted : (held : ℕ × ℤ) → insert cells at (place, held) ≡ with_cell cells place held
  pub rise : (held : ℕ × ℤ) → IsStrictlySortedBy place_cmp (keys_of (insert cells at (place, held)))

-- where a place stands among cells, by the cell that is there
pub record PutsAt (cells : List ((ℕ × ℕ) × (ℕ × ℤ))) (place : ℕ × ℕ) (at : ℕ) : Type 0 where
  pub here : (d : (ℕ × ℕ) × (ℕ × ℤ)) → at < length cells → (slice_index_or cells at d).0 ≡ place → IsLaidAt cells place at
  pub other : (d : (ℕ × ℕ) × (ℕ × ℤ)) → (at < length cells → (slice_index_or cells at d).0 ≢ place) → IsFreeAt cells place at
