-- Which points a link brings to the store: those of its lines, and those that the rules emit.
use Rattle.std.specs.Prelude.{◌≡◌, ℕ, List, [], ◌∷◌, ◌++◌, Result, Ok, Err}
use Rattle.std.specs.List.{AllZip}
use Rattle.line_frame.specs.Lines.{Line, Whole, TooLong}
use Rattle.metric_line.specs.declared.fault.LineFault.{LineFault}
use Rattle.metric_line.specs.LineDatum.{datum_of}
use Rattle.metric_line.specs.Point.{Point}
use Rattle.aggregate_rules.specs.RuleTexts.{RuleValue}
use Rattle.aggregate_front.specs.Emitting.{AggregatorValue, after_point, at_end, link_limits}
use Rattle.carbon_history.specs.declared.entry.Entry.{Entry}
use Rattle.carbon_history.specs.declared.entry.Entry.TheVariants.{Put}
use Rattle.carbon_history.specs.declared.entry.PutEnd.{PutEnd}
use Rattle.carbon_model.specs.State.{State}
use Rattle.shared_history.specs.Parts.{PassValue}
use Rattle.shared_store.specs.Passes.{Enters, HasRoom}

-- ---- what the rules emit

-- what rules have gathered of a link that brought no point yet
abbrev pub none_gathered : List RuleValue → AggregatorValue
none_gathered rules = record { rules = rules; limits = link_limits; outputs = [] }

-- the points that they emit when the link brings this one
abbrev pub emitted_for : AggregatorValue → Point → List Point
emitted_for a point = (after_point a.rules a.limits a.outputs point).emitted

-- what they have gathered then
abbrev pub gathered_with : AggregatorValue → Point → AggregatorValue
gathered_with a point = record a { outputs = (after_point a.rules a.limits a.outputs point).outputs }

-- and after all of these
unfoldable pub gathered_after : AggregatorValue → List Point → AggregatorValue
gathered_after a [] = a
gathered_after a (point ∷ points) = gathered_after (gathered_with a point) points

-- the points that they emit at the link's end
abbrev pub emitted_at_end : AggregatorValue → List Point
emitted_at_end a = at_end a.outputs

-- The points that are put for those of a link's lines: each of these, and behind it those that the rules emit for it.
unfoldable pub points_put : AggregatorValue → List Point → List Point
points_put a [] = []
points_put a (point ∷ points) = point ∷ (emitted_for a point ++ points_put (gathered_with a point) points)

-- the same of a link that was read to its end, by these rules: behind them those that are emitted there
abbrev pub points_of_link : List RuleValue → List Point → List Point
points_of_link rules points = points_put (none_gathered rules) points ++ emitted_at_end (gathered_after (none_gathered rules) points)

-- ---- how lines are read

-- a line that is read so brings the first of these points, which others follow, or it is refused and brings none
abbrev pub ReadBrings : Result Point LineFault → List Point → List Point → Type 0
ReadBrings (Ok point) points others = points ≡ point ∷ others
ReadBrings (Err fault) points others = points ≡ others

-- These lines were read as these points, in order, at these readings of the clock: each whole line has a reading of its own, in order too, and there is no other.
-- What is refused or too long brings no point.
abbrev pub LinesBring : (ℕ → Type 0) → List ℕ → List Line → List Point → Type 0
LinesBring moments readings [] points = (readings ≡ []) × (points ≡ [])
LinesBring moments readings (Whole line ∷ more) points =
    (now : ℕ) × (later : List ℕ) × (others : List Point)
    × ((readings ≡ now ∷ later) × (moments now × (ReadBrings (datum_of line now) points others × LinesBring moments later more others)))
LinesBring moments readings (TooLong ∷ more) points = LinesBring moments readings more points

-- ---- puts

-- the entry of a point that a pass puts
abbrev pub put_entry : ℕ → Point → PutEnd → Entry
put_entry pass point end = Put pass point.path point.time point.value end

-- an entry is the put of a point by a pass
abbrev pub IsPutOf : ℕ → Point → Entry → Type 0
IsPutOf pass point entry = (end : PutEnd) × (entry ≡ put_entry pass point end)

-- these entries are the puts of these points, in order
abbrev pub ArePuts : ℕ → List Point → List Entry → Type 0
ArePuts pass points entries = AllZip (IsPutOf pass) points entries

-- a point was put, by a pass that had room for the entries of a call
pub record PutsPoint (start : State) (passes : ℕ) (point : Point) (old new : PassValue) : Type 0 where
  pub room : HasRoom old
  pub end : PutEnd
  pub enters : Enters start passes (put_entry old.number point end ∷ []) old new

-- these points were put, one after the other
abbrev pub PutsEach : State → ℕ → List Point → PassValue → PassValue → Type 0
PutsEach start passes [] old new = new ≡ old
PutsEach start passes (point ∷ points) old new = (mid : PassValue) × (PutsPoint start passes point old mid × PutsEach start passes points mid new)
