-- Rounds over the classes.
use Rattle.std.proofs.Common.{◌≡◌, ◌≢◌, ◌⊎◌, ◌∙◌, inl, inr, ℕ, ◌<◌, ◌≤◌, ◌+◌, List, [], ◌∷◌, refl, sym, ap, subst, arith}
use Rattle.std.proofs.lemmas.Bool.Decides.{eqb_tells}
use Rattle.atomic_table.specs.Seated.{TableId}
use Rattle.carbon_history.specs.declared.entry.Entry.{Entry}
use Rattle.carbon_history.specs.declared.entry.Entry.TheVariants as entry
use Rattle.carbon_history.specs.Entries.{about_class, drains, listed}
use Rattle.carbon_model.specs.State.{State}
use Rattle.carbon_model.specs.Replay.{replay}
use Rattle.shard_core.specs.declared.planned.Planned.{Planned}
use Rattle.shard_core.specs.declared.planned.Planned.TheVariants as planned
use Rattle.shard_core.specs.declared.planned.Wrote.TheVariants as wrote
use Rattle.shared_history.specs.Parts.{PassValue}
use Rattle.shared_history.specs.Views.{look_at}
use Rattle.shared_history.specs.declared.view.Look.{Look}
use Rattle.shared_store.specs.Passes.{Enters, IsSettled, IsUnderWay, LooksAgain, planned_in, runs_in, settled_in}
use Rattle.shared_store.specs.Steps.{AfterPlan, AfterWrite, plan_entry, write_entry}
use Rattle.carbon_script.specs.Alone.{Adds, IsOnly}
use Rattle.carbon_script.specs.Rounds.{AreWritten, ArePassedOver, Begins, IsPassedOver, IsWritten, ShowsAll, Writes, WritesOne}
use Rattle.carbon_script.specs.declared.round.Begun.{Begun}
use Rattle.carbon_script.specs.declared.round.Begun.TheVariants as begun
use Rattle.carbon_script.specs.declared.round.NextRun.{NextRun}
use Rattle.carbon_script.specs.declared.round.NextRun.TheVariants as run
use Rattle.carbon_script.proofs.AloneLemmas.{adds_again, adds_both, adds_none, only_adds, seen_same}

below_next : (k class : ℕ) → k < class + 1 → k ≢ class → k < class
below_next k class few other = omega (arith, few, λ (e : k ≡ class). other e)

not_below : (k class : ℕ) → k < class → k ≢ class
not_below k class less same = omega (arith, less, same)

-- what holds of the classes below one, and of that one
below_more : (P : ℕ → Type 0) (class : ℕ) → ((k : ℕ) → k < class → P k) → P class → (k : ℕ) → k < class + 1 → P k
below_more P class below here k few = elim (eqb_tells k class) [
  | inl same ↦ subst P (sym same.1) here
  | inr other ↦ below k (below_next k class few other.1)
]

-- all drains of the class that the pass sees were seen when it looked
shows_seen : (class : ℕ) (old new : PassValue) (seen : List Entry) → LooksAgain class old new → new.seen ≡ seen → ShowsAll seen class new
shows_seen class old new seen again same =
    ap (λ (es : List Entry). drains es) (again.list ∙ ap (λ (es : List Entry). about_class class es) same)

-- a round of plans that has come to a class
pub record PlansSoFar (start : State) (class : ℕ) (old now : PassValue) : Type 0 where
  pub adds : Adds start [] old now
  pub over : ArePassedOver start old.seen class now

-- a round of writes that has
pub record WritesSoFar (start : State) (class : ℕ) (old now : PassValue) : Type 0 where
  pub adds : Adds start [] old now
  pub below : AreWritten old.seen class now

pub plans_none : (own : TableId) (start : State) (pass : PassValue) → IsOnly own start pass → PlansSoFar start 0 pass pass
plans_none own start pass only = record { adds = adds_none start pass only.legal only.named; over = λ k less. absurd (omega (arith, less)) }

pub writes_none : (own : TableId) (start : State) (pass : PassValue) → IsOnly own start pass → WritesSoFar start 0 pass pass
writes_none own start pass only = record { adds = adds_none start pass only.legal only.named; below = λ k less. absurd (omega (arith, less)) }

-- the looks at other classes are what they were
over_kept : (start : State) (seen : List Entry) (class count : ℕ) (mid new : PassValue) → LooksAgain class mid new → count ≤ class → ArePassedOver start seen count mid → ArePassedOver start seen count new
over_kept start seen class count mid new again few over k less =
    subst (λ (l : Look). ((drains l.list ≡ drains (about_class k seen)) × (drains l.list ≡ l.settled + 1)) ⊎ ((replay start seen).pending k ≡ []))
    (sym (again.others k (not_below k class (omega (arith, less, few))))) (over k less)

written_kept : (seen : List Entry) (class count : ℕ) (mid new : PassValue) → LooksAgain class mid new → count ≤ class → AreWritten seen count mid → AreWritten seen count new
written_kept seen class count mid new again few below k less =
    let same : look_at k new.looks ≡ look_at k mid.looks = again.others k (not_below k class (omega (arith, less, few))) in record {
      shows = ap (λ (l : Look). drains l.list) same ∙ (below k less).shows;
      settled = subst (λ (l : Look). drains l.list ≡ l.settled) (sym same) (below k less).settled;
    }

le_self : (n : ℕ) → n ≤ n
le_self n = omega arith

behind : (a b c : ℕ) → a ≤ b → b < c → a < c
behind a b c low less = omega (arith, low, less)

one_behind : (a b c : ℕ) → a ≤ b → c ≡ b + 1 → a < c
one_behind a b c low one = omega (arith, low, one)

up_to : (a b c : ℕ) → a ≤ b → b ≤ c → a ≤ c
up_to a b c first second = omega (arith, first, second)

module _ (own : TableId) (start : State) (passes : ℕ) (alone : passes ≡ 1) (old : PassValue) (only : IsOnly own start old) (class now : ℕ) (mid new : PassValue) (again : LooksAgain class mid new) where
  number_of : Adds start [] old mid → mid.number ≡ 0
  number_of adds = adds.number ∙ only.number

  -- one call more of the round, with its entries
  adds_more : (entries : List Entry) → Adds start [] old mid → Enters start passes entries mid new → Adds start entries old new
  adds_more entries adds enters =
      adds_both start [] entries old mid new adds (adds_again start passes class entries mid new alone (number_of adds) enters again)

  -- ---- plans

  plans_busy : PlansSoFar start class old mid → Enters start passes (listed (plan_entry mid.number class now planned.Busy)) mid new
      → AfterPlan start class now planned.Busy mid new → PlansSoFar start (class + 1) old new
  plans_busy so_far enters under_way =
      let adds = adds_more [] so_far.adds enters in record {
        adds = adds;
        over = below_more (λ k. IsPassedOver start old.seen k new) class
            (over_kept start old.seen class class mid new again (le_self class) so_far.over)
            (inl (shows_seen class mid new old.seen again (seen_same start old new adds), under_way));
      }

  plans_idle : PlansSoFar start class old mid → Enters start passes (listed (plan_entry mid.number class now planned.Idle)) mid new
      → AfterPlan start class now planned.Idle mid new → PlansSoFar start (class + 1) old new
  plans_idle so_far enters idle =
      let adds = adds_more [] so_far.adds enters in record {
        adds = adds;
        over = below_more (λ k. IsPassedOver start old.seen k new) class
            (over_kept start old.seen class class mid new again (le_self class) so_far.over)
            (inr (subst (λ (es : List Entry). (replay start es).pending class ≡ []) (seen_same start old new adds) idle.none));
      }

  -- a class that began no drain is passed over
  pub plans_on : (answer : Planned) → (answer ≡ planned.Busy) ⊎ (answer ≡ planned.Idle) → PlansSoFar start class old mid
      → Enters start passes (listed (plan_entry mid.number class now answer)) mid new → AfterPlan start class now answer mid new → PlansSoFar start (class + 1) old new
  plans_on answer (inl busy) so_far enters after =
      plans_busy so_far (subst (λ (p : Planned). Enters start passes (listed (plan_entry mid.number class now p)) mid new) busy enters)
      (subst (λ (p : Planned). AfterPlan start class now p mid new) busy after)
  plans_on answer (inr idle) so_far enters after =
      plans_idle so_far (subst (λ (p : Planned). Enters start passes (listed (plan_entry mid.number class now p)) mid new) idle enters)
      (subst (λ (p : Planned). AfterPlan start class now p mid new) idle after)

  pub begins_metric : (path : List ℕ) → class < 16 → PlansSoFar start class old mid → Enters start passes (listed (plan_entry mid.number class now (planned.Took path))) mid new
      → AfterPlan start class now (planned.Took path) mid new → Begins start now (begun.Metric path) old new
  begins_metric path within so_far enters took = record {
    class = class;
    within = within;
    adds = adds_more (entry.Drain 0 path now ∷ []) so_far.adds
        (subst (λ (n : ℕ). Enters start passes (entry.Drain n path now ∷ []) mid new) (number_of so_far.adds) enters);
    over = over_kept start old.seen class class mid new again (le_self class) so_far.over;
    took = took;
    shows = shows_seen class mid new new.seen again refl;
  }

  pub begins_fault : class < 16 → PlansSoFar start class old mid → Enters start passes (listed (plan_entry mid.number class now planned.DiskFault)) mid new
      → AfterPlan start class now planned.DiskFault mid new → Begins start now (begun.DiskFault class) old new
  begins_fault within so_far enters failed = record {
    within = within;
    adds = adds_more (entry.Fault 0 class ∷ []) so_far.adds
        (subst (λ (n : ℕ). Enters start passes (entry.Fault n class ∷ []) mid new) (number_of so_far.adds) enters);
    over = over_kept start old.seen class class mid new again (le_self class) so_far.over;
    failed = failed;
    shows = shows_seen class mid new new.seen again refl;
  }

  pub begins_short : PlansSoFar start class old mid → Enters start passes (listed (plan_entry mid.number class now planned.NoMemory)) mid new
      → Begins start now begun.NoMemory old new
  begins_short so_far enters = adds_more [] so_far.adds enters

  -- ---- writes

  pub writes_nothing : WritesSoFar start class old mid → Enters start passes (listed (write_entry mid.number class wrote.Nothing)) mid new
      → AfterWrite class wrote.Nothing mid new → WritesSoFar start (class + 1) old new
  writes_nothing so_far enters settled =
      let adds = adds_more [] so_far.adds enters in record {
        adds = adds;
        below = below_more (λ k. IsWritten old.seen k new) class
            (written_kept old.seen class class mid new again (le_self class) so_far.below)
            (record { shows = shows_seen class mid new old.seen again (seen_same start old new adds); settled = settled });
      }

  writes_one : (known : ℕ → PassValue → Type 0) → class < 16 → WritesSoFar start class old mid → Enters start passes [] mid new
      → settled_in class old < planned_in class new → runs_in class mid < runs_in class new → known class new → WritesOne start known old new
  writes_one known within so_far enters owed rose ended =
      let adds = adds_more [] so_far.adds enters in record {
        class = class;
        within = within;
        adds = adds;
        below = written_kept old.seen class class mid new again (le_self class) so_far.below;
        shows = shows_seen class mid new old.seen again (seen_same start old new adds);
        owed = owed;
        rose = behind (runs_in class old) (runs_in class mid) (runs_in class new) (so_far.adds.runs class) rose;
        most = again.most;
        ended = ended;
      }

  pub writes_run : class < 16 → WritesSoFar start class old mid → Enters start passes (listed (write_entry mid.number class wrote.Run)) mid new
      → AfterWrite class wrote.Run mid new → Writes start run.Written old new
  writes_run within so_far enters after =
      let settled : settled_in class old ≤ settled_in class new =
      up_to (settled_in class old) (settled_in class mid) (settled_in class new) (so_far.adds.settled class) again.settled in
      writes_one IsUnderWay within so_far enters
      (one_behind (settled_in class old) (settled_in class new) (planned_in class new) settled after.0) after.1 after.0

  pub writes_finished : class < 16 → WritesSoFar start class old mid → Enters start passes (listed (write_entry mid.number class wrote.Finished)) mid new
      → AfterWrite class wrote.Finished mid new → Writes start run.Finished old new
  writes_finished within so_far enters after =
      writes_one IsSettled within so_far enters
      (subst (λ (n : ℕ). settled_in class old < n) (sym after.0)
      (behind (settled_in class old) (settled_in class mid) (settled_in class new) (so_far.adds.settled class) after.1.settled)) after.1.runs after.0

  pub writes_fault : class < 16 → WritesSoFar start class old mid → Enters start passes (listed (write_entry mid.number class wrote.DiskFault)) mid new
      → AfterWrite class wrote.DiskFault mid new → Writes start (run.DiskFault class) old new
  writes_fault within so_far enters under_way = record {
    within = within;
    adds = adds_more (entry.Fault 0 class ∷ []) so_far.adds
        (subst (λ (n : ℕ). Enters start passes (entry.Fault n class ∷ []) mid new) (number_of so_far.adds) enters);
    below = written_kept old.seen class class mid new again (le_self class) so_far.below;
    shows = shows_seen class mid new new.seen again refl;
    under_way = under_way;
  }

pub writes_all : (start : State) (old new : PassValue) → WritesSoFar start 16 old new → Writes start run.Nothing old new
writes_all start old new so_far = record { adds = so_far.adds; below = so_far.below }

pub begins_nothing : (start : State) (now : ℕ) (old new : PassValue) → PlansSoFar start 16 old new → Begins start now begun.Nothing old new
begins_nothing start now old new so_far = record { adds = so_far.adds; over = so_far.over }

-- the pass is still the one of its store
pub only_begins : (own : TableId) (start : State) (now : ℕ) (came : Begun) (old new : PassValue) → IsOnly own start old → Begins start now came old new → IsOnly own start new
only_begins own start now (begun.Metric path) old new only begins = only_adds own start (entry.Drain 0 path now ∷ []) old new only begins.adds
only_begins own start now (begun.DiskFault class) old new only begins = only_adds own start (entry.Fault 0 class ∷ []) old new only begins.adds
only_begins own start now begun.Nothing old new only begins = only_adds own start [] old new only begins.adds
only_begins own start now begun.NoMemory old new only adds = only_adds own start [] old new only adds

pub only_writes : (own : TableId) (start : State) (next : NextRun) (old new : PassValue) → IsOnly own start old → Writes start next old new → IsOnly own start new
only_writes own start run.Written old new only one = only_adds own start [] old new only one.adds
only_writes own start run.Finished old new only one = only_adds own start [] old new only one.adds
only_writes own start (run.DiskFault class) old new only failed = only_adds own start (entry.Fault 0 class ∷ []) old new only failed.adds
only_writes own start run.Nothing old new only none = only_adds own start [] old new only none.adds
