-- What one output has open, what a point does to it, and which interval is emitted.
use Rattle.std.specs.Prelude.{◌≡◌, ℕ, ◌-◌, ◌%◌, ◌<◌, ◌≤◌, Bool, true, false, ◌&&◌, not, nat_le, nat_lt, List, [], ◌∷◌, length, insert, remove, Option, Some, None, if◌then◌else◌}
use Rattle.std.specs.List.{AllByRecursion, sum_by}
use Rattle.fixed_num.specs.Moment.{is_moment}
use Rattle.ring_format.specs.declared.archive.Method.{Method}
use Rattle.aggregate_front.specs.declared.timed_value.TimedValue.{TimedValue}
use Rattle.aggregate_front.specs.declared.interval.Interval.{Interval}
use Rattle.aggregate_front.specs.declared.gathered.Gathered.{Gathered}
use Rattle.aggregate_front.specs.Intervals.{RisesAfter, is_open, parted, with_point}
use Rattle.aggregate_front.specs.declared.change.Change.{Change}
use Rattle.aggregate_front.specs.declared.change.Change.TheVariants.{Made, Joined, Opened, Emitted}

-- the interval of a moment, where intervals have so many seconds: the greatest multiple of these that is not behind it
abbrev pub interval_of : ℕ → ℕ → ℕ
interval_of seconds time = time - time % seconds

-- the most intervals of an output that are open
abbrev pub most_open : ℕ
most_open = 5

-- the greatest interval that was emitted is 0 where none was, which is no legal moment
abbrev pub new_gathered : Method → Gathered
new_gathered method = record { method = method; intervals = []; last = 0 }

-- what is left of an output, and the interval that it emits, if it does
pub record Taken : Type 0 where
  pub gathered : Gathered
  pub emitted : Option Interval

-- as many intervals as may be open stay so; of one more the first is emitted
unfoldable pub settled : Gathered → List Interval → Taken
settled g [] = record { gathered = record g { intervals = [] }; emitted = None }
settled g (first ∷ others) =
    if nat_lt (length others) most_open then record { gathered = record g { intervals = first ∷ others }; emitted = None }
    else record { gathered = record g { intervals = others; last = first.start }; emitted = Some first }

-- What a point comes to at an output, in its interval. Where it opens a sixth, the first of the six is emitted, and no point of it is
-- taken from then on: that may be the one that the point has just opened.
abbrev pub taken : Gathered → ℕ → TimedValue → Taken
taken g start point = settled g (with_point g.intervals start point)

-- whether the interval is emitted already, or lies before one that is
abbrev pub is_late : Gathered → ℕ → Bool
is_late g start = nat_le start g.last

-- whether a point would open a sixth interval
abbrev pub opens_sixth : Gathered → ℕ → Bool
opens_sixth g start = not (is_open g.intervals start) && nat_le most_open (length g.intervals)

-- the points that the open intervals hold together
abbrev pub points_open : Gathered → ℕ
points_open g = sum_by (λ i. length i.points) g.intervals

-- ---- a change, and how it is taken back

-- whether a change made the output
abbrev pub is_made : Change → Bool
is_made Made = true
is_made _ = false

-- the interval that a change emitted
abbrev pub emitted_of : Change → Option Interval
emitted_of (Emitted at interval last) = Some interval
emitted_of _ = None

-- how many points an interval has, where there is one
abbrev pub count_of : Option Interval → ℕ
count_of None = 0
count_of (Some i) = length i.points

-- the output before a change
unfoldable pub undone : Gathered → Change → Gathered
undone g (Joined at) = record g { intervals = parted g.intervals at }
undone g (Opened at) = record g { intervals = remove g.intervals at }
undone g (Emitted at interval last) = record g { intervals = remove (interval ∷ g.intervals) at; last = last }
undone g Made = g

-- a change is of an interval that stands in the output
abbrev pub IsWithin : Gathered → Change → Type 0
IsWithin g (Joined at) = at < length g.intervals
IsWithin g (Opened at) = at < length g.intervals
IsWithin g (Emitted at interval last) = at ≤ length g.intervals
IsWithin g Made = Unit {0}

-- a change made of one output the other by a point, and can be taken back
pub record Changes (old new : Gathered) (start : ℕ) (point : TimedValue) (change : Change) : Type 0 where
  pub is : record { gathered = new; emitted = emitted_of change } ≡ taken old start point
  pub before : undone new change ≡ old
  pub within : IsWithin new change
  pub other : is_made change ≡ false

-- an interval was opened at a place, and the first of six emitted
pub record Opens (old new : Gathered) (at : ℕ) (interval : Interval) (change : Change) : Type 0 where
  pub is : record { gathered = new; emitted = emitted_of change } ≡ settled old (insert old.intervals at interval)
  pub before : undone new change ≡ old
  pub within : IsWithin new change
  pub other : is_made change ≡ false

-- an interval that may be emitted: it is a legal moment, and has a point
pub record IsWhole (i : Interval) : Type 0 where
  pub moment : is_moment i.start ≡ true
  pub some : 0 < length i.points

-- the open intervals rise, each behind the last that was emitted, there are five at most, and each may be emitted
pub record IsSound (g : Gathered) : Type 0 where
  pub rising : RisesAfter g.last g.intervals
  pub few : length g.intervals ≤ most_open
  pub whole : AllByRecursion IsWhole g.intervals
