-- What an aggregator has open, what a point of a link does to it, and which points it emits.
use Rattle.std.specs.Prelude.{◌≡◌, ◌⊎◌, ℕ, ◌+◌, ◌-◌, ◌<◌, ◌≤◌, MatchOption, option_and_then, option_map, ◌==◌, Bool, true, false, ◌&&◌, ◌||◌, not, nat_le, nat_lt, List, [], ◌∷◌, ◌++◌, fold, length, take, slice_get, is_some, Option, Some, None, if◌then◌else◌}
use Rattle.std.specs.List.{All, AllByRecursion, flat_map, sum_by}
use Rattle.std.specs.Map.{lookup, values_of as gathered_in}
use Rattle.std.specs.Option.{option_map_or, option_to_list}
use Rattle.std.specs.Str.{bytes_eq}
use Rattle.indexmap.specs.IndexMap.{insert_entry, set_value_at}
use Rattle.fixed_num.specs.Moment.{is_moment}
use Rattle.metric_line.specs.Point.{Point}
use Rattle.rollup.specs.Rollup.{rolled}
use Rattle.ring_format.specs.declared.archive.Method.{Method}
use Rattle.aggregate_front.specs.declared.timed_value.TimedValue.{TimedValue}
use Rattle.aggregate_front.specs.declared.interval.Interval.{Interval}
use Rattle.aggregate_front.specs.declared.gathered.Gathered.{Gathered}
use Rattle.aggregate_front.specs.declared.hit.OutputKey.{OutputKey}
use Rattle.aggregate_front.specs.declared.limits.Limits.{Limits}
use Rattle.aggregate_front.specs.declared.deed.Deed.{Deed}
use Rattle.aggregate_front.specs.declared.change.Change.{Change}
use Rattle.aggregate_front.specs.Fitting.{HitValue, hits_of}
use Rattle.aggregate_front.specs.declared.deed.Done.{Done}
use Rattle.metric_line.specs.Seen.{seen}
use Rattle.aggregate_front.specs.Gathering.{IsSound, IsWithin, Taken, count_of, emitted_of, interval_of, is_late, is_made, new_gathered, opens_sixth, points_open, taken, undone}
use Rattle.aggregate_rules.specs.RuleTexts.{RuleValue}
use Rattle.aggregate_front.specs.TimeOrder.{in_time_order, values_of}

-- ---- what is open

-- the outputs in the order in which they appeared, each with what it has open
abbrev pub Outputs : Type 0
Outputs = List (OutputKey × Gathered)

abbrev pub is_key : OutputKey → OutputKey → Bool
is_key key other = key.rule == other.rule && bytes_eq key.path other.path

-- what an output has open, nothing where it has not appeared
abbrev pub gathered_of : Outputs → HitValue → Gathered
gathered_of outputs hit = option_map_or (λ g. g) (lookup (is_key hit.key) outputs) (new_gathered hit.method)

-- the points that all open intervals hold together
abbrev pub points_held : Outputs → ℕ
points_held outputs = sum_by (λ output. points_open output.1) outputs

-- ---- which points are passed over

-- what is held for one link at most
abbrev pub link_limits : Limits
link_limits = record { outputs = 20000; points = 1000000 }

-- whether one more point may be held, and the output is there or one more may be
abbrev pub has_room : Limits → Outputs → HitValue → Bool
has_room limits outputs hit =
    nat_lt (points_held outputs) limits.points && (is_some (lookup (is_key hit.key) outputs) || nat_lt (length outputs) limits.outputs)

-- Whether a point is taken into its interval at an output: the interval is a legal moment and behind all that were emitted, and the
-- point would open a sixth, or has room.
unfoldable pub is_taken : Limits → Outputs → HitValue → ℕ → Bool
is_taken limits outputs hit start =
    is_moment start
    && (not (is_late (gathered_of outputs hit) start)
    && (opens_sixth (gathered_of outputs hit) start || has_room limits outputs hit))

-- ---- what is emitted

-- The point that an interval becomes: the rollup of its values in order of time, at its start; none where that is no value.
unfoldable pub point_of : List ℕ → Method → Interval → List Point
point_of path method i =
    option_map_or (λ v. record { path = path; time = i.start; value = v } ∷ []) (rolled method (values_of (in_time_order i.points)) (length i.points)) []

abbrev pub points_of : List ℕ → Method → Option Interval → List Point
points_of path method None = []
points_of path method (Some i) = point_of path method i

-- what is open after some points, and what they emitted
pub record Fed : Type 0 where
  pub outputs : Outputs
  pub emitted : List Point

-- a point taken into its interval at an output
abbrev pub with_taken : Fed → HitValue → Taken → Fed
with_taken fed hit t = record { outputs = insert_entry is_key fed.outputs hit.key t.gathered; emitted = fed.emitted ++ points_of hit.key.path hit.method t.emitted }

-- a point at one of its outputs
unfoldable pub at_output : Limits → TimedValue → Fed → HitValue → Fed
at_output limits point fed hit =
    if is_taken limits fed.outputs hit (interval_of hit.seconds point.time)
    then with_taken fed hit (taken (gathered_of fed.outputs hit) (interval_of hit.seconds point.time) point)
    else fed

-- a point at these outputs, one after the other
abbrev pub at_outputs : Limits → Outputs → TimedValue → List HitValue → Fed
at_outputs limits outputs point hits = fold (at_output limits point) (record { outputs = outputs; emitted = [] }) hits

-- What a point of a link does: it comes to the output of each rule that has one for its path, in the order of the rules. What is emitted
-- comes to no rule.
abbrev pub after_point : List RuleValue → Limits → Outputs → Point → Fed
after_point rules limits outputs point = at_outputs limits outputs (record { time = point.time; value = point.value }) (hits_of rules point.path)

-- what the open intervals of an output become
abbrev pub open_points : OutputKey × Gathered → List Point
open_points output = flat_map (point_of output.0.path output.1.method) output.1.intervals

-- at the end all open intervals are emitted: the outputs in the order in which they appeared, the intervals of each rising
abbrev pub at_end : Outputs → List Point
at_end outputs = flat_map open_points outputs

-- ---- changes taken back

-- the outputs with another thing open at the output at a place
abbrev pub changed_at : Outputs → ℕ → (Gathered → Gathered) → Outputs
changed_at outputs place f = option_map_or (λ g. set_value_at outputs place (f g)) (slice_get (gathered_in outputs) place) outputs

-- the outputs before a deed
unfoldable pub before_deed : Outputs → Deed → Outputs
before_deed outputs deed =
    if is_made deed.change then take (length outputs - 1) outputs
    else changed_at outputs deed.place (λ g. undone g deed.change)

-- a deed is of an output that is there, and of an interval that stands in it
pub record IsDeedOf (outputs : Outputs) (deed : Deed) : Type 0 where
  pub made : is_made deed.change ≡ true → 0 < length outputs
  pub other : is_made deed.change ≡ false → MatchOption (slice_get (gathered_in outputs) deed.place) ⊥ (λ g. IsWithin g deed.change)

-- ---- what the outputs of a link hold

-- limits, and the outputs held under them
pub record Held : Type 0 where
  pub limits : Limits
  pub outputs : Outputs

-- each output is sound
abbrev pub AreSound : Outputs → Type 0
AreSound outputs = AllByRecursion (λ output. IsSound output.1) outputs

-- so many points are held, no more than may be, in outputs that are sound
pub record Keeps (points : ℕ) (limits : Limits) (outputs : Outputs) : Type 0 where
  pub count : points ≡ points_held outputs
  pub few : points ≤ limits.points
  pub most : limits.points < 31536000
  pub sound : AreSound outputs

-- a deed made of what was held what is held, and can be taken back
pub record Did (old new : Held) (deed : Deed) : Type 0 where
  pub limits : new.limits ≡ old.limits
  pub before : before_deed new.outputs deed ≡ old.outputs
  pub within : IsDeedOf new.outputs deed
  pub count : points_held new.outputs + count_of (emitted_of deed.change) ≡ points_held old.outputs + 1
  pub kept : Keeps (points_held old.outputs) old.limits old.outputs

-- nothing was open elsewhere, and nothing was emitted
abbrev pub opening : Outputs → Fed
opening outputs = record { outputs = outputs; emitted = [] }

-- what a point came to at an output: nothing, or a deed and what it emitted
abbrev pub Takes : Held → Held → HitValue → TimedValue → Option Done → Type 0
Takes old new hit point None = (at_output old.limits point (opening old.outputs) hit ≡ opening old.outputs) × (new ≡ old)
Takes old new hit point (Some done) =
    (at_output old.limits point (opening old.outputs) hit ≡ record { outputs = new.outputs; emitted = option_to_list (option_map seen done.datum) })
    × Did old new done.deed

-- some deeds, one after the other
abbrev pub DidAll : Held → Held → List Deed → Type 0
DidAll old new [] = new ≡ old
DidAll old new (deed ∷ deeds) = (mid : Held) × Did old mid deed × DidAll mid new deeds

-- whatever deeds made of something what was held, these made of it what is held
abbrev pub DidMore : Held → Held → List Deed → List Deed → Type 0
DidMore old new before after = (start : Held) → DidAll start old before → DidAll start new after

-- a point at some outputs, one after the other, with what was emitted before
pub record FeedsAll (old new : Held) (point : TimedValue) (hits : List HitValue) (before after : List Point) : Type 0 where
  pub fed : fold (at_output old.limits point) (record { outputs = old.outputs; emitted = before }) hits ≡ record { outputs = new.outputs; emitted = after }
  pub limits : new.limits ≡ old.limits

-- whether the output at a place takes a point in an interval
abbrev pub takes_at : Held → ℕ → ℕ → Bool
takes_at held place start =
    option_map_or (λ g. not (is_late g start) && (opens_sixth g start || not (nat_le held.limits.points (points_held held.outputs))))
    (slice_get (gathered_in held.outputs) place) false

-- the interval that a point in an interval of the output at a place has emitted
abbrev pub emitted_at : Outputs → ℕ → ℕ → TimedValue → Option Interval
emitted_at outputs place start point = option_and_then (λ g. (taken g start point).emitted) (slice_get (gathered_in outputs) place)

-- a change at a place
pub record ChangesAt (old new : Held) (place start : ℕ) (point : TimedValue) (change : Change) : Type 0 where
  pub outputs : new.outputs ≡ changed_at old.outputs place (λ g. (taken g start point).gathered)
  pub emitted : emitted_of change ≡ emitted_at old.outputs place start point
  pub other : is_made change ≡ false
  pub did : Did old new (record { place = place; change = change })

-- an interval whose rollup may be asked for
pub record CanBeEmitted (i : Interval) : Type 0 where
  pub moment : is_moment i.start ≡ true
  pub few : length i.points ≤ 31536000

-- ---- an aggregator

-- the rules of a link, the limits, and what is open
pub record AggregatorValue : Type 0 where
  pub rules : List RuleValue
  pub limits : Limits
  pub outputs : Outputs

-- what a point makes of an aggregator, and what it emits
pub record Feeds (old new : AggregatorValue) (point : Point) (emitted : List Point) : Type 0 where
  pub rules : new.rules ≡ old.rules
  pub limits : new.limits ≡ old.limits
  pub fed : record { outputs = new.outputs; emitted = emitted } ≡ after_point old.rules old.limits old.outputs point

-- the paths that are known have the outputs that the rules give them
abbrev pub Knows : List RuleValue → List (List ℕ × List HitValue) → Type 0
Knows rules paths = All (λ known. known.1 ≡ hits_of rules known.0) paths

-- how many paths and outputs of paths are known
abbrev pub known_size : List (List ℕ × List HitValue) → ℕ
known_size paths = sum_by (λ known. 1 + length known.1) paths

-- the most paths and outputs of paths that are known, but for those of one path alone
abbrev pub most_known : ℕ
most_known = 40000

-- What is known leaves room for so many paths and outputs more, or is one path alone, and leaves none.
abbrev pub KnowsFew : List (List ℕ × List HitValue) → ℕ → Type 0
KnowsFew paths room = (known_size paths + room ≤ most_known) ⊎ ((length paths ≤ 1) × (room ≡ 0))

-- Before one path more with so many outputs all that is known is kept, where there is room for it, or all is forgotten; and the room behind it.
abbrev pub MakesRoom : List (List ℕ × List HitValue) → List (List ℕ × List HitValue) → ℕ → ℕ → ℕ → Type 0
MakesRoom old new outputs room left = ((new ≡ old) × (left + (1 + outputs) ≡ room)) ⊎ ((new ≡ []) × (left ≡ most_known - (1 + outputs)))

-- ---- a link

-- what is open after the points of a link, and what they emitted
unfoldable pub after_points : List RuleValue → Limits → Fed → List Point → Fed
after_points rules limits fed [] = fed
after_points rules limits fed (point ∷ points) =
    let next = after_point rules limits fed.outputs point in
    after_points rules limits (record { outputs = next.outputs; emitted = fed.emitted ++ next.emitted }) points

-- the points that the rules emit for those of a link, in order: as they come, and at its end
abbrev pub emitted : List RuleValue → Limits → List Point → List Point
emitted rules limits points =
    let fed = after_points rules limits (record { outputs = []; emitted = [] }) points in
    fed.emitted ++ at_end fed.outputs
