-- How the views change.
use Rattle.std.specs.Prelude.{◌≡◌, ℕ, List, [], Option, Some, None}
use Rattle.atomic_table.specs.Table.{Me, Step}
use Rattle.carbon_history.specs.declared.entry.Entry.{Entry}
use Rattle.class_halves.specs.declared.view.Stand.{Stand}
use Rattle.class_halves.specs.declared.view.View.{View}

-- ---- stands

abbrev pub stand : List Entry → ℕ → ℕ → Stand
stand list settled runs = record { list = list; settled = settled; runs = runs }

-- that of a class without entries
abbrev pub no_stand : Stand
no_stand = stand [] 0 0

-- ---- views

abbrev pub pair : Option Stand → Option Stand → View
pair d f = record { desk = d; files = f }

-- the view of a seat that has no half, and of the first one, which has both
abbrev pub nobody : View
nobody = pair None None

abbrev pub founder : View
founder = pair (Some no_stand) (Some no_stand)

-- the stand of a half that is there
abbrev pub stand_in : Option Stand → Stand
stand_in None = no_stand
stand_in (Some x) = x

-- the half of the files leaves, and comes
abbrev pub desk_of : View → View
desk_of v = pair v.desk None

abbrev pub files_of : View → View
files_of v = pair None v.files

abbrev pub met : View → View → View
met v w = pair v.desk w.files

-- both halves have a new stand
abbrev pub with_stand : Stand → Option Stand → Option Stand
with_stand s None = None
with_stand s (Some x) = Some s

abbrev pub renewed : Stand → View → View
renewed s v = pair (with_stand s v.desk) (with_stand s v.files)

-- two halves have one stand
abbrev pub AreAlike : Option Stand → Option Stand → Type 0
AreAlike None f = Unit {0}
AreAlike (Some x) None = Unit {0}
AreAlike (Some x) (Some y) = x ≡ y

-- a look at both halves changes nothing, and tells that they have one stand
abbrev pub Meets : Step ℕ → Me ℕ View → ℕ → Me ℕ View → Type 0
Meets s m n w = (w ≡ m) × AreAlike m.0.desk m.0.files

-- both halves have this stand from now on
abbrev pub Renews : Stand → Step ℕ → Me ℕ View → ℕ → Me ℕ View → Type 0
Renews e s m n w = w ≡ (renewed e m.0, m.1)
