-- States of rows as bits, by what they are.
use Rattle.std.specs.Prelude.{◌≡◌, ℕ, ◌+◌, ◌*◌, ◌/◌, ◌<◌, ◌≤◌, ◌||◌, ◌&&◌, Bool, List, [], length, get_or, replicate}
use Rattle.path_glob.specs.Bits.{shifted}
use Rattle.path_glob.specs.Glob.{Simple}
use Rattle.path_glob.specs.Positions.{bit_of}
use Rattle.path_glob.specs.States.{AreRows, Mark, First, Star, End, Over, mark_at}
use Rattle.path_glob.specs.declared.states.State.{State}
use Rattle.path_glob.specs.declared.tables.Tables.{Tables}

-- A bit is set for each state with this mark.
pub record AreMarks (mark : Mark) (states : List State) (bits : List ℕ) : Type 0 where
  pub room : length bits ≡ length states / 64 + 1
  pub marks : (place : ℕ) → bit_of bits place ≡ mark_at mark states place

-- the same for each of the 256 bytes, of the states from which it leads on
pub record AreSteps (states : List State) (over : List (List ℕ)) : Type 0 where
  pub count : length over ≡ 256
  pub marks : (b : ℕ) → b < 256 → AreMarks (Over b) states (get_or over b [])

-- so many sets without a place, each of so many words
pub record AreEmpty (sets : List (List ℕ)) (words count : ℕ) : Type 0 where
  pub count_is : length sets ≡ count
  pub empty : (b : ℕ) → b < count → get_or sets b [] ≡ replicate words 0

-- Each of the 256 sets has room for this place.
pub record HaveRoom (sets : List (List ℕ)) (place : ℕ) : Type 0 where
  pub count : length sets ≡ 256
  pub room : (b : ℕ) → b < 256 → place / 64 < length (get_or sets b [])

-- A place is put into a set, or is not.
pub record IsEntered (enters : Bool) (place : ℕ) (old new : List ℕ) : Type 0 where
  pub room : length new ≡ length old
  pub here : bit_of new place ≡ (bit_of old place || enters)
  pub others : (p : ℕ) → (p ≡ place → ⊥) → bit_of new p ≡ bit_of old p

-- A place is put into the sets of some bytes.
abbrev pub AreEntered : (ℕ → Bool) → ℕ → List (List ℕ) → List (List ℕ) → Type 0
AreEntered enters place old new =
    (b : ℕ) → b < 256 → IsEntered (enters b) place (get_or old b []) (get_or new b [])

-- These are the tables of states.
pub record AreTables (states : List State) (tables : Tables) : Type 0 where
  pub firsts : AreMarks First states tables.firsts
  pub stars : AreMarks Star states tables.stars
  pub ends : AreMarks End states tables.ends
  pub over : AreSteps states tables.over.items

-- All tables have so many words.
pub record AreSized (tables : Tables) (words : ℕ) : Type 0 where
  pub firsts : length tables.firsts ≡ words
  pub stars : length tables.stars ≡ words
  pub ends : length tables.ends ≡ words
  pub count : length tables.over.items ≡ 256
  pub over : (b : ℕ) → b < 256 → length (get_or tables.over.items b []) ≡ words

-- The tables are those of some states of rows, and so many words hold them.
abbrev pub AreTablesOf : List (List Simple) → Tables → ℕ → Type 0
AreTablesOf rows tables words =
    (states : List State) × AreRows rows states × AreTables states tables × (words ≡ length states / 64 + 1)

-- Active states were led on by a way: over this byte, or, behind the bytes, to themselves and the first ones of rows.
pub record IsLed (tables : Tables) (way : ℕ) (old new : List ℕ) : Type 0 where
  pub room : length new ≡ length old
  pub over : way < 256 → (p : ℕ) → p < 64 * length old
      → bit_of new p ≡ (shifted (λ q. bit_of old q && bit_of (get_or tables.over.items way []) q) p || (bit_of old p && bit_of tables.stars p))
  pub begun : 256 ≤ way → (p : ℕ) → bit_of new p ≡ (bit_of old p || bit_of tables.firsts p)
