-- The rule: each half is in one seat, and both have the same stand.
use Rattle.std.specs.Prelude.{◌≡◌, ℕ, Option, Some, None}
use mathlib.Core.Option.{some}
use lib.ListN.{get_elem?}
use Rattle.atomic_table.specs.Table.{State}
use Rattle.class_halves.specs.declared.view.Stand.{Stand}
use Rattle.class_halves.specs.declared.view.View.{View}

-- which seat has each half, and the stand of both
pub record Book : Type 0 where
  pub desk : ℕ
  pub files : ℕ
  pub stand : Stand

-- what a view has of a half: nothing, or the stand, where its seat is the one that has the half
abbrev pub FitsHalf : ℕ → Stand → ℕ → Option Stand → Type 0
FitsHalf holder s by None = Unit {0}
FitsHalf holder s by (Some x) = (holder ≡ by) × (x ≡ s)

-- the view of a seat has what the book says of it
pub record Fits (b : Book) (by : ℕ) (v : View) : Type 0 where
  pub desk : FitsHalf b.desk b.stand by v.desk
  pub files : FitsHalf b.files b.stand by v.files

-- some book says what each view has
pub record Kept (s : State ℕ View) : Type 0 where
  pub book : Book
  pub views : (by : ℕ) (v : View) → get_elem? s.views by ≡ some v → Fits book by v
