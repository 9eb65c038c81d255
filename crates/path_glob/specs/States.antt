-- Rows of pieces as states, one before each of their pieces of one byte and one at the end of each row.
use Rattle.std.specs.Prelude.{◌≡◌, ℕ, zero, suc, Bool, true, false, ◌&&◌, ◌||◌, is_none, List, [], ◌∷◌, ◌++◌, drop, Option, Some, None}
use Rattle.path_glob.specs.Glob.{Simple, AnyRow}
use Rattle.path_glob.specs.Parts.{covers_byte, simple_said}
use Rattle.path_glob.specs.declared.cut.ByteSet.{ByteSet}
use Rattle.path_glob.specs.declared.cut.SimplePiece.TheVariants.{Byte}
use Rattle.path_glob.specs.Reading.{row_of, values_of}
use Rattle.path_glob.specs.declared.states.State.{State}
use Rattle.path_glob.specs.declared.states.Rows.{Rows}
use Rattle.path_glob.specs.declared.states.Rows.TheVariants.{One as OneRow, Values}
use Rattle.path_glob.specs.declared.states.Kind.{Kind}
use Rattle.path_glob.specs.declared.states.Kind.TheVariants.{First as FirstKind, Star as StarKind, End as EndKind}

-- What a state may be: the first of its row, one at a `*`, the end of its row, and one from which a byte leads
-- on to the next.
pub data Mark : Type 0 where
  First : Mark
  Star : Mark
  End : Mark
  Over : ℕ → Mark

abbrev pub mark_of : Kind → Mark
mark_of FirstKind = First
mark_of StarKind = Star
mark_of EndKind = End

-- whether a byte leads on to the next state
abbrev pub leads_on : Option ByteSet → ℕ → Bool
leads_on None b = false
leads_on (Some set) b = covers_byte set b

-- whether a state has a mark
abbrev pub has_mark : Mark → State → Bool
has_mark First state = state.is_first
has_mark Star state = state.has_star
has_mark End state = is_none state.next
has_mark (Over b) state = leads_on state.next b

-- whether the state at a place has a mark
abbrev pub mark_at : Mark → List State → ℕ → Bool
mark_at mark [] place = false
mark_at mark (state ∷ states) zero = has_mark mark state
mark_at mark (state ∷ states) (suc place) = mark_at mark states place

-- whether bytes lead from the first of the states to the end of its row
abbrev pub leads_out : List State → List ℕ → Bool
leads_out [] bytes = false
leads_out (state ∷ states) [] = is_none state.next
leads_out (state ∷ states) (b ∷ bytes) =
    (state.has_star && leads_out (state ∷ states) bytes) || (leads_on state.next b && leads_out states bytes)

-- These bytes lead from one of such states to the end of its row.
abbrev pub LeadOut : (ℕ → Bool) → List State → List ℕ → Type 0
LeadOut held states bytes = (place : ℕ) × (held place ≡ true) × (leads_out (drop place states) bytes ≡ true)

-- the state in a row, the first of it or not, behind a `*` or not
abbrev pub state_of : Bool → Bool → Option ByteSet → State
state_of first star next = record { is_first = first; has_star = star; next = next }

-- These are the states of a row, the first of which begins it or not and stands behind a `*` or not.
abbrev pub AreStates : Bool → Bool → List Simple → List State → Type 0
AreStates first star [] states = states ≡ state_of first star None ∷ []
AreStates first star (AnyRow ∷ row) states = AreStates first true row states
AreStates first star (piece ∷ row) states =
    (set : ByteSet) × (others : List State) × (states ≡ state_of first star (Some set) ∷ others)
    × (simple_said (Byte set) ≡ piece) × AreStates false false row others

-- These are the states of rows, one behind the other.
abbrev pub AreRows : List (List Simple) → List State → Type 0
AreRows [] states = states ≡ []
AreRows (row ∷ rows) states =
    (one : List State) × (others : List State) × (states ≡ one ++ others) × AreStates true false row one × AreRows rows others

-- the states of one row more
abbrev pub AddsRow : List Simple → List State → List State → Type 0
AddsRow row old new = (added : List State) × (new ≡ old ++ added) × AreStates true false row added

-- the rows that a text says
abbrev pub rows_of : Rows → List (List Simple)
rows_of (OneRow row) = row_of row.now ∷ []
rows_of (Values values) = values_of values.now
