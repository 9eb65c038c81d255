-- The points of a batch, each with those that rules emit for it.
use Rattle.std.specs.Prelude.{◌≡◌, ◌⊎◌, ◌<◌, ◌≤◌, ℕ, List, [], ◌∷◌, ◌++◌, length, map, take}
use Rattle.line_service.specs.declared.ends.Stop.{Stop}
use Rattle.line_service.specs.declared.ends.Stop.TheVariants as stop
use Rattle.metric_line.specs.declared.datum.Datum.{Datum}
use Rattle.metric_line.specs.Point.{Point}
use Rattle.metric_line.specs.Seen.{seen}
use Rattle.aggregate_front.specs.Emitting.{AggregatorValue}
use Rattle.carbon_model.specs.State.{State}
use Rattle.shared_store.specs.Passes.{HasRoom}
use Rattle.line_front.specs.Emits.{BringsFew, PutsFew}
use Rattle.line_front.specs.Links.{Brings, Idles, IsSpent, SessionValue}
use Rattle.line_front.specs.Points.{PutsEach, emitted_for, gathered_with}

-- ---- what the rules are given

-- the rules emit nothing for these points, one after the other
abbrev pub FeedsQuiet : List Point → AggregatorValue → AggregatorValue → Type 0
FeedsQuiet [] a b = b ≡ a
FeedsQuiet (point ∷ points) a b = (emitted_for a point ≡ []) × FeedsQuiet points (gathered_with a point) b

-- So many points were given to the rules, one after the other: they emit these for the last one, and nothing for those before it.
pub record FeedsFront (points : List Datum) (count : ℕ) (emitted : List Point) (a b : AggregatorValue) : Type 0 where
  pub few : count ≤ length points
  pub first : List Datum
  pub last : Datum
  pub split : take count points ≡ first ++ last ∷ []
  pub mid : AggregatorValue
  pub quiet : FeedsQuiet (map seen first) a mid
  pub emits : emitted ≡ emitted_for mid (seen last)
  pub gathered : b ≡ gathered_with mid (seen last)
  pub rules : b.rules ≡ a.rules

-- the same of a session, whose points are not put yet
pub record FeedsBatch (points : List Datum) (count : ℕ) (emitted : List Datum) (old new : SessionValue) : Type 0 where
  pub feeds : FeedsFront points count (map seen emitted) old.gathered new.gathered
  pub pass : new.pass ≡ old.pass
  pub counts : new.counts ≡ old.counts

-- ---- what is put

-- a point was put, with those that the rules emit for it, by a pass that had room for the entries of a call
pub record BringsOne (start : State) (passes : ℕ) (datum : Datum) (old new : SessionValue) : Type 0 where
  pub room : HasRoom old.pass
  pub brings : Brings start passes (seen datum) old new

-- the points were, one after the other
abbrev pub BringsAll : State → ℕ → List Datum → SessionValue → SessionValue → Type 0
BringsAll start passes [] old new = new ≡ old
BringsAll start passes (datum ∷ points) old new = (mid : SessionValue) × (BringsOne start passes datum old mid × BringsAll start passes points mid new)

-- points that rules emit were put, one after the other
pub record PutsBehind (start : State) (passes : ℕ) (points : List Point) (old new : SessionValue) : Type 0 where
  pub puts : PutsEach start passes points old.pass new.pass
  pub counts : new.counts ≡ old.counts
  pub gathered : new.gathered ≡ old.gathered

-- or the first of them
pub record FewBehind (start : State) (passes : ℕ) (points : List Point) (reason : Stop) (old new : SessionValue) : Type 0 where
  pub few : PutsFew start passes points reason old.pass new.pass
  pub counts : new.counts ≡ old.counts

-- some points at the front were
pub record BringsPart (start : State) (passes : ℕ) (points : List Datum) (count : ℕ) (old new : SessionValue) : Type 0 where
  pub some : 0 < count
  pub few : count ≤ length points
  pub brings : BringsAll start passes (take count points) old new

-- the pass has no room for a point, or there was no memory for it, or not all that the rules emit for it was put
abbrev pub StopsPoint : State → ℕ → Point → Stop → SessionValue → SessionValue → Type 0
StopsPoint start passes point reason old new =
    ((reason ≡ stop.Spent) × ((new ≡ old) × IsSpent old.pass))
    ⊎ (((reason ≡ stop.NoMemory) × Idles start passes old new) ⊎ BringsFew start passes point reason old new)

-- the first points were put so, and the one that follows was not
pub record BringsFewer (start : State) (passes : ℕ) (reason : Stop) (points : List Datum) (old new : SessionValue) : Type 0 where
  pub first : List Datum
  pub datum : Datum
  pub others : List Datum
  pub split : points ≡ first ++ datum ∷ others
  pub mid : SessionValue
  pub brings : BringsAll start passes first old mid
  pub stops : StopsPoint start passes (seen datum) reason mid new
