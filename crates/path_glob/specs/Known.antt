-- Sets of active states that were met, and where the ways from them lead.
use Rattle.std.specs.Prelude.{◌≡◌, ◌↔◌, ℕ, ◌<◌, ◌≤◌, ◌||◌, ◌&&◌, Bool, true, false, List, [], length, get_or}
use Rattle.path_glob.specs.Bits.{Meet}
use Rattle.path_glob.specs.Positions.{bit_of}
use Rattle.path_glob.specs.Tables.{AreSized, IsLed}
use Rattle.path_glob.specs.declared.known_sets.KnownSet.{KnownSet}
use Rattle.path_glob.specs.declared.tables.Tables.{Tables}

-- a set without a state, of which nothing is known
abbrev pub no_set : KnownSet
no_set = record { states = []; is_end = false; next = [] }

-- the states of the set at a place
abbrev pub states_at : List KnownSet → ℕ → List ℕ
states_at sets place = (get_or sets place no_set).states

-- whether one of them is the end of its row, as it is noted
abbrev pub is_end_at : List KnownSet → ℕ → Bool
is_end_at sets place = (get_or sets place no_set).is_end

-- A way leads from these states to the set at this place.
pub record LeadsTo (tables : Tables) (sets : List KnownSet) (way : ℕ) (from : List ℕ) (place : ℕ) : Type 0 where
  pub within : place < length sets
  pub led : IsLed tables way from (states_at sets place)

-- The set at a place has these states, and the first ones of rows as well where they begin.
pub record Begins (tables : Tables) (starts : Bool) (from : List ℕ) (sets : List KnownSet) (place : ℕ) : Type 0 where
  pub within : place < length sets
  pub begun : (p : ℕ) → bit_of (states_at sets place) p ≡ (bit_of from p || (starts && bit_of tables.firsts p))

-- What is said of a set holds: whether a state of it is the end of its row, and where the ways lead that are known.
pub record IsKnown (tables : Tables) (sets : List KnownSet) (set : KnownSet) : Type 0 where
  pub room : length set.states ≡ length tables.firsts
  pub size : length set.next ≡ 257
  pub end : (set.is_end ≡ true) ↔ Meet set.states tables.ends
  pub next : (way : ℕ) → way < 257 → 0 < get_or set.next way 0 → LeadsTo tables sets way set.states (get_or set.next way 0)

-- These sets are known, and the first has no state.
pub record AreKnown (tables : Tables) (sets : List KnownSet) : Type 0 where
  pub sized : AreSized tables (length tables.firsts)
  pub some : 0 < length sets
  pub none : (p : ℕ) → bit_of (states_at sets 0) p ≡ false
  pub each : (place : ℕ) → place < length sets → IsKnown tables sets (get_or sets place no_set)

-- The sets stand where they stood, with the same states, and others may follow.
pub record KeepsSets (old new : List KnownSet) : Type 0 where
  pub longer : length old ≤ length new
  pub same : (place : ℕ) → place < length old → states_at new place ≡ states_at old place

-- These states stand at a place.
pub record StandAt (sets : List KnownSet) (states : List ℕ) (place : ℕ) : Type 0 where
  pub within : place < length sets
  pub same : states_at sets place ≡ states
