-- A shard stands for the state that its answers tell: from its start on, and after any calls.
use Rattle.std.proofs.Common.{◌≡◌, ◌∙◌, ℕ, ℤ, Bool, true, false, List, [], ◌∷◌, ◌++◌, Option, Some, None, IfSome, refl, sym, ap, subst, option_map}
use Rattle.std.specs.Option.{option_map_or}
use Rattle.outside_io.specs.Image.{Image}
use Rattle.outside_io.specs.declared.disk.Disk.{Ghosts}
use Rattle.metric_path.specs.Class.{class_of}
use Rattle.metric_path.specs.Path.{path_fault}
use Rattle.metric_path.specs.declared.path.PathFault.{PathFault}
use Rattle.drain_order.specs.Picking.{Picking}
use Rattle.schema_rules.specs.LayoutBy.{layout_by}
use Rattle.metric_index.specs.Index.{entry_of}
use Rattle.metric_table.specs.declared.known.Known.{Known}
use Rattle.point_cache.specs.Pending.{Cache}
use Rattle.point_cache.specs.declared.put.Put.{Put}
use Rattle.point_cache.specs.declared.put.Put.TheVariants as put
use Rattle.carbon_history.specs.declared.entry.Entry.{Entry}
use Rattle.carbon_model.specs.Replay.{IsLegalHistory, after, replay}
use Rattle.carbon_model.specs.RingFiles.{IsOfClass, Opens, SameKept, Settings, StandsUnder, kept_at, kept_on, kept_under, of_legal}
use Rattle.carbon_model.specs.State.{Kept, State, form_of}
use Rattle.shard_core.specs.Opened.{IsOpened, Opens as OpensTable}
use Rattle.shard_core.specs.Plans.{PlansTo}
use Rattle.shard_core.specs.Puts.{TakesPoint}
use Rattle.shard_core.specs.Shard.{Holds, HoldsKept, Inside, Stays}
use Rattle.shard_core.specs.Started.{KeepsLaidOut, StartedFrom}
use Rattle.shard_core.specs.Steps.{Makes, MakesAll, Plans, Puts, Step, Writes, entries_of, entries_of_all, plan_entries, put_entries, write_entries}
use Rattle.shard_core.specs.Table.{Table}
use Rattle.shard_core.specs.View.{inside_of}
use Rattle.shard_core.specs.Work.{WorkValue, no_work}
use Rattle.shard_core.specs.declared.planned.Planned.{Planned}
use Rattle.shard_core.specs.declared.planned.Planned.TheVariants as planned
use Rattle.shard_core.specs.declared.planned.Wrote.{Wrote}
use Rattle.shard_core.specs.declared.planned.Wrote.TheVariants as wrote
use Rattle.shard_core.specs.declared.shard.Shard.{Shard}

-- ---- the start

-- what is kept of a legal path is what its file means
of_a_legal : (fault : Option PathFault) (kept : Option Kept) → fault ≡ None → of_legal fault kept ≡ kept
of_a_legal None kept none = refl
of_a_legal (Some fault) kept none = absurd cc

legal_kept : (image : Image) (path : List ℕ) → path_fault path ≡ None → kept_at image path ≡ kept_on image path
legal_kept image path legal = of_a_legal (path_fault path) (kept_on image path) legal

-- what a disk stands for depends on the paths of its class alone
stands_as : (opening now : Image) (class : ℕ) (kept kept' : List ℕ → Option Kept) → ((path : List ℕ) → IsOfClass class path → kept path ≡ kept' path)
    → StandsUnder opening now None kept class → StandsUnder opening now None kept' class
stands_as opening now class kept kept' same stands = record {
  rings = λ path one. subst (SameKept (kept_under None now path)) (same path one) (stands.rings path one);
  sound = stands.sound;
  patched = tt;
  others = stands.others;
}

-- what the disk of a class shows is what the state keeps
opens_kept : (class : ℕ) (known : Option Image) (table : Table) (kept : List ℕ → Option Kept) → OpensTable class known table
    → ((path : List ℕ) → class_of path ≡ class → IfSome known (λ image. kept path ≡ kept_at image path)) → KeepsLaidOut class known table kept
    → HoldsKept known class table None known kept
opens_kept class None table kept opens shown laid = record { layouts = λ path one. laid path one; files = tt }
opens_kept class (Some image) table kept opens shown laid =
    let same : (path : List ℕ) → IsOfClass class path → opens.kept path ≡ kept path =
    λ path one. opens.shown path one ∙ sym (legal_kept image path one.legal) ∙ sym (shown path one.here) in
    record {
      layouts = λ path one. opens.holds.layouts path one ∙ ap (option_map form_of) (same path one);
      files = stands_as image image class opens.kept kept same opens.holds.files;
    }

none_drained : (class : ℕ) (path : List ℕ) (known : Option Known) → IfSome known (λ k. (class_of path ≡ class) × ((k.is_kept ≡ true) × (k.drains ≡ 0)))
    → option_map_or (λ (k : Known). k.drains) known 0 ≡ 0
none_drained class path None its = refl
none_drained class path (Some known) its = its.1.1

-- what a shard that started holds
pub inside_holds : (class : ℕ) (settings : Settings) (told : ℕ → Option Image) (s : State) (shard : Inside) → Opens settings told s → shard.class ≡ class
    → ((path : List ℕ) → layout_by shard.rules path ≡ settings.rules path)
    → shard.cache ≡ record { limit = settings.limit; metrics = []; places = [] }
    → shard.picker ≡ record { strategy = settings.strategy; queue = []; arrived = []; settled = None }
    → shard.shelf ≡ None → shard.known ≡ told class → OpensTable class (told class) shard.table → IsOpened class shard.table
    → KeepsLaidOut class (told class) shard.table s.kept → Holds (told class) shard s
inside_holds class settings told s shard opens here rules nothing waiting empty known table opened laid = record {
  pending = ap (λ (c : Cache). c.metrics) nothing ∙ sym (opens.pending shard.class);
  queue = ap (λ (p : Picking). p.queue) waiting ∙ sym (opens.queue shard.class);
  kept = rw (here, empty, known) (opens_kept class (told class) shard.table s.kept table
      (λ path own. subst (λ (k : ℕ). IfSome (told k) (λ image. s.kept path ≡ kept_at image path)) own (opens.kept path)) laid);
  drains = λ path one. none_drained class path (entry_of shard.table path) (opened path) ∙ sym (opens.drains path);
  rules = λ path own. opens.rules path ∙ sym (rules path);
  limit = ap (λ (c : Cache). c.limit) nothing ∙ sym opens.limit;
  strategy = ap (λ (p : Picking). p.strategy) waiting ∙ sym opens.strategy;
}

-- a shard that started writes no drain
pub none_on : (redo : Bool) → (no_work redo).shelf ≡ None
none_on true = refl
none_on false = refl

pub idle_on : (redo : Bool) → (no_work redo).steps ≡ 0
idle_on true = refl
idle_on false = refl

pub started_holds : {D : Type 0} {d : Ghosts D} (class : ℕ) (settings : Settings) (redo : Bool) (told : ℕ → Option Image) (s : State) (disk : D) (shard : Shard D d)
    → StartedFrom class settings redo disk shard → Opens settings told s → d.image shard.files.disk ≡ told class → KeepsLaidOut class (told class) shard.desk.table s.kept
    → Holds (told class) (inside_of shard) s
started_holds {D} {d} class settings redo told s disk shard started opens tells laid =
    inside_holds class settings told s (inside_of shard) opens started.here started.rules started.nothing started.waiting (ap (λ (w : WorkValue). w.shelf) started.empty ∙ none_on redo) tells
    (subst (λ (known : Option Image). OpensTable class known shard.desk.table) tells started.opens) started.opened laid

-- ---- the calls

-- the entries of a call may come, and the shard stands for the state after them
record Follows (told : Option Image) (s : State) (new : Inside) (entries : List Entry) : Type 0 where
  legal : IsLegalHistory s entries
  holds : Holds told new (replay s entries)

same_holds : (told : Option Image) (s : State) (old new : Inside) → new ≡ old → Holds told old s → Holds told new s
same_holds told s old new same holds = subst (λ (shard : Inside). Holds told shard s) (sym same) holds

put_follows : (pass : ℕ) (told : Option Image) (s : State) (old new : Inside) (path : List ℕ) (time : ℕ) (value : ℤ) (end : Put) → TakesPoint old new path time value end → Holds told old s
    → Follows told s new (put_entries pass path time value end)
put_follows pass told s old new path time value put.Stored takes holds = let into = takes told s holds pass in record { legal = (into.0, tt); holds = into.1 }
put_follows pass told s old new path time value put.Replaced takes holds = let into = takes told s holds pass in record { legal = (into.0, tt); holds = into.1 }
put_follows pass told s old new path time value put.Full takes holds = let into = takes told s holds pass in record { legal = (into.0, tt); holds = into.1 }
put_follows pass told s old new path time value put.NoMemory takes holds = record { legal = tt; holds = (takes told s holds pass).1 }

plan_follows : (pass class : ℕ) (told : Option Image) (s : State) (old new : Inside) (now : ℕ) (plan : Planned) → PlansTo plan old new now → Holds told old s
    → Follows told s new (plan_entries pass class now plan)
plan_follows pass class told s old new now (planned.Took path) plans holds =
    let drains = plans.drains told s holds in record {
      legal = (rw plans.here drains.0, tt);
      holds = drains.1;
    }
plan_follows pass class told s old new now planned.Busy plans holds = record { legal = tt; holds = same_holds told s old new plans.1 holds }
plan_follows pass class told s old new now planned.Idle plans holds = record { legal = tt; holds = same_holds told s old new plans.1.1 holds }
plan_follows pass class told s old new now planned.DiskFault plans holds = record { legal = (tt, tt); holds = plans.stays told s holds }
plan_follows pass class told s old new now planned.NoMemory plans holds = record { legal = tt; holds = plans.stays told s holds }

write_follows : (pass class : ℕ) (told : Option Image) (s : State) (old new : Inside) (run : Wrote) → Stays old new → Holds told old s → Follows told s new (write_entries pass class run)
write_follows pass class told s old new wrote.Run stays holds = record { legal = tt; holds = stays told s holds }
write_follows pass class told s old new wrote.Finished stays holds = record { legal = tt; holds = stays told s holds }
write_follows pass class told s old new wrote.Nothing stays holds = record { legal = tt; holds = stays told s holds }
write_follows pass class told s old new wrote.DiskFault stays holds = record { legal = (tt, tt); holds = stays told s holds }

step_follows : (pass class : ℕ) (told : Option Image) (s : State) (old new : Inside) (step : Step) → Makes step old new → Holds told old s → Follows told s new (entries_of pass class step)
step_follows pass class told s old new (Puts path time value end) makes holds = put_follows pass told s old new path time value end makes holds
step_follows pass class told s old new (Plans now plan) makes holds = plan_follows pass class told s old new now plan makes holds
step_follows pass class told s old new (Writes run) makes holds = write_follows pass class told s old new run makes.1 holds

both_follow : (told : Option Image) (s : State) (new : Inside) (front rest : List Entry) → IsLegalHistory s front → Follows told (replay s front) new rest → Follows told s new (front ++ rest)
both_follow told s new [] rest legal follows = follows
both_follow told s new (entry ∷ front) rest legal follows =
    let more = both_follow told (after s entry) new front rest legal.1 follows in record { legal = (legal.0, more.legal); holds = more.holds }

all_follow : (pass class : ℕ) (told : Option Image) (s : State) (old new : Inside) (steps : List Step) → MakesAll steps old new → Holds told old s → Follows told s new (entries_of_all pass class steps)
all_follow pass class told s old new [] makes holds = record { legal = tt; holds = same_holds told s old new makes holds }
all_follow pass class told s old new (step ∷ steps) makes holds =
    let first = step_follows pass class told s old makes.0 step makes.1.0 holds in
    both_follow told s new (entries_of pass class step) (entries_of_all pass class steps) first.legal
    (all_follow pass class told (replay s (entries_of pass class step)) makes.0 new steps makes.1.1 first.holds)

pub answers_are_replayed : (pass class : ℕ) (told : Option Image) (s : State) (old new : Inside) (steps : List Step) → MakesAll steps old new → Holds told old s
    → IsLegalHistory s (entries_of_all pass class steps) × Holds told new (replay s (entries_of_all pass class steps))
answers_are_replayed pass class told s old new steps makes holds = let all = all_follow pass class told s old new steps makes holds in (all.legal, all.holds)
