-- The state in which a run begins over shards that started, and what each shard has of it.
use Rattle.std.proofs.Common.{◌≡◌, ◌∙◌, ℕ, ◌<◌, Bool, List, [], ◌∷◌, length, Option, Some, None, IfSome, IsSomeAnd, refl, sym, ap, subst, arith, option_map}
use Rattle.std.specs.Option.{option_map_or}
use Rattle.std.specs.Prelude.{option_and_then, slice_get}
use Rattle.std.proofs.lemmas.Option.{none-some}
use Rattle.outside_io.specs.Image.{Image}
use Rattle.outside_io.specs.declared.disk.Disk.{Ghosts}
use Rattle.metric_path.specs.Class.{class_of}
use Rattle.metric_path.specs.Path.{path_fault}
use Rattle.metric_path.specs.declared.path.PathFault.{PathFault}
use Rattle.drain_order.specs.Picking.{Picking}
use Rattle.point_cache.specs.Pending.{Cache}
use Rattle.ring_format.specs.Layout.{LayoutValue}
use Rattle.carbon_model.specs.RingFiles.{IsOfClass, Opens, Settings, kept_at, of_legal}
use Rattle.carbon_model.specs.State.{Kept, State, form_of, no_rings}
use Rattle.shard_core.specs.Started.{KeepsLaidOut, StartedFrom}
use Rattle.shard_core.specs.Table.{Table, kept_form}
use Rattle.shard_core.specs.declared.shard.Shard.{Shard}
use Rattle.shard_core.specs.Work.{WorkValue}
use Rattle.shard_core.proofs.LawLemmas.{idle_on, none_on, started_holds}
use Rattle.shard_set.specs.Disks.{faults_at, told_at}
use Rattle.shard_set.specs.Opening.{AreStarted}
use Rattle.shard_core.specs.Started.{AreReadyShards, IsReadyShard}
use Rattle.shard_set.specs.OpeningState.{kept_by, kept_from, opening_of, settings_in}

-- ---- what is kept

legal_only : (fault : Option PathFault) (kept : Option Kept) → IfSome fault (λ f. of_legal fault kept ≡ None)
legal_only None kept = tt
legal_only (Some f) kept = refl

legal_kept : (fault : Option PathFault) (kept : Option Kept) → fault ≡ None → of_legal fault kept ≡ kept
legal_kept None kept legal = refl
legal_kept (Some f) kept legal = absurd (none-some f (sym legal))

-- the state keeps of a path of a class what the shard of the class keeps
kept_here : {D : Type 0} {d : Ghosts D} (shards : List (Shard D d)) (k : ℕ) (shard : Shard D d) (path : List ℕ) → slice_get shards k ≡ Some shard → IsOfClass k path → (opening_of shards).kept path ≡ kept_by shard path
unfolding opening_of
kept_here shards k shard path there one =
    legal_kept (path_fault path) (option_and_then (λ s. kept_by s path) (slice_get shards (class_of path))) one.legal
    ∙ ap (λ (j : ℕ). option_and_then (λ s. kept_by s path) (slice_get shards j)) one.here
    ∙ ap (λ o. option_and_then (λ s. kept_by s path) o) there

shown_by : (told known : Option Image) (table : Table) (path : List ℕ) → known ≡ told → IfSome told (λ image. of_legal (path_fault path) (kept_from known table path) ≡ kept_at image path)
shown_by None known table path same = tt
shown_by (Some image) known table path same = ap (λ (o : Option Image). of_legal (path_fault path) (kept_from o table path)) same

-- what is kept on a disk that tells its image
kept_shown : {D : Type 0} {d : Ghosts D} (o : Option (Shard D d)) (path : List ℕ) → IfSome (option_and_then (λ s. d.image s.files.disk) o) (λ image. of_legal (path_fault path) (option_and_then (λ s. kept_by s path) o) ≡ kept_at image path)
kept_shown None path = tt
kept_shown {d = d} (Some s) path = shown_by (d.image s.files.disk) (d.image s.files.disk) s.desk.table path refl

layouts_kept : (o : Option (ℕ × LayoutValue)) → option_map form_of (option_map (λ (form : ℕ × LayoutValue). record { version = form.0; layout = form.1; rings = no_rings }) o) ≡ o
layouts_kept None = refl
layouts_kept (Some form) = refl

-- where the disk does not tell its image, the versions and the layouts are those of the shard
laid_out : (class : ℕ) (told known : Option Image) (table : Table) (kept : List ℕ → Option Kept) → known ≡ told → ((path : List ℕ) → IsOfClass class path → kept path ≡ kept_from known table path) → KeepsLaidOut class told table kept
laid_out class None known table kept same here = λ path one.
    sym (ap (option_map form_of) (here path one ∙ ap (λ (o : Option Image). kept_from o table path) same) ∙ layouts_kept (kept_form table path))
laid_out class (Some image) known table kept same here = tt

-- ---- the settings

record SameSettings (one other : Settings) : Type 0 where
  rules : (path : List ℕ) → one.rules path ≡ other.rules path
  limit : one.limit ≡ other.limit
  strategy : one.strategy ≡ other.strategy

first_settings : {D : Type 0} {d : Ghosts D} (settings : Settings) (redo : Bool) (shard : Shard D d) (shards : List (Shard D d)) (p : Option D) → IsSomeAnd p (λ disk. StartedFrom 0 settings redo disk shard) → SameSettings (settings_in (shard ∷ shards)) settings
first_settings settings redo shard shards None started = absurd started
first_settings settings redo shard shards (Some disk) started = record {
  rules = started.rules;
  limit = ap (λ (c : Cache). c.limit) started.nothing;
  strategy = ap (λ (p : Picking). p.strategy) started.waiting;
}

same_settings : {D : Type 0} {d : Ghosts D} (settings : Settings) (redo : Bool) (disks : List D) (shards : List (Shard D d)) → 0 < length shards → AreStarted settings redo disks shards → SameSettings (settings_in shards) settings
same_settings settings redo disks [] some started = absurd (omega (arith, some))
same_settings settings redo disks (shard ∷ shards) some started = first_settings settings redo shard shards (slice_get disks 0) (started 0)

-- ---- the state

pub opens_run : {D : Type 0} {d : Ghosts D} (settings : Settings) (redo : Bool) (told : ℕ → Option Image) (disks : List D) (shards : List (Shard D d)) → length shards ≡ 16 → AreStarted settings redo disks shards → ((k : ℕ) → told k ≡ told_at shards k)
    → Opens settings told (opening_of shards)
unfolding opening_of
opens_run {d = d} settings redo told disks shards all started tells =
    let same = same_settings settings redo disks shards (omega (arith, all)) started in record {
      pending = λ class. refl;
      queue = λ class. refl;
      drains = λ path. refl;
      kept = λ path. subst (λ (o : Option Image). IfSome o (λ image. of_legal (path_fault path) (option_and_then (λ s. kept_by s path) (slice_get shards (class_of path))) ≡ kept_at image path)) (sym (tells (class_of path)))
          (kept_shown (slice_get shards (class_of path)) path);
      legal = λ path. legal_only (path_fault path) (option_and_then (λ s. kept_by s path) (slice_get shards (class_of path)));
      rules = same.rules;
      limit = same.limit;
      strategy = same.strategy;
    }

ready_at : {D : Type 0} {d : Ghosts D} (settings : Settings) (redo : Bool) (told : ℕ → Option Image) (s : State) (earlier : ℕ → ℕ) (k : ℕ) (shard : Shard D d) (p : Option D) → told k ≡ d.image shard.files.disk
    → IsSomeAnd p (λ disk. StartedFrom k settings redo disk shard) → Opens settings told s → ((path : List ℕ) → IsOfClass k path → s.kept path ≡ kept_by shard path) → earlier k ≡ d.faults shard.files.disk → IsReadyShard told s earlier k shard
ready_at settings redo told s earlier k shard None tells started opens kept faults = absurd started
ready_at {d = d} settings redo told s earlier k shard (Some disk) tells started opens kept faults = record {
  class = started.here;
  empty = ap (λ (w : WorkValue). w.shelf) started.empty ∙ none_on redo;
  idle = ap (λ (w : WorkValue). w.steps) started.empty ∙ idle_on redo;
  holds = started_holds k settings redo told s disk shard started opens (sym tells) (laid_out k (told k) (d.image shard.files.disk) shard.desk.table s.kept (sym tells) kept);
  faults = faults;
}

pub all_ready : {D : Type 0} {d : Ghosts D} (settings : Settings) (redo : Bool) (told : ℕ → Option Image) (disks : List D) (shards : List (Shard D d)) → length shards ≡ 16 → AreStarted settings redo disks shards → ((k : ℕ) → told k ≡ told_at shards k)
    → AreReadyShards told (opening_of shards) (faults_at shards) shards
all_ready {d = d} settings redo told disks shards all started tells k shard there =
    ready_at settings redo told (opening_of shards) (faults_at shards) k shard (slice_get disks k) (tells k ∙ ap (λ o. option_and_then (λ s. d.image s.files.disk) o) there)
    (subst (λ o. IfSome o (λ s. IsSomeAnd (slice_get disks k) (λ disk. StartedFrom k settings redo disk s))) there (started k))
    (opens_run settings redo told disks shards all started tells) (λ path one. kept_here shards k shard path there one)
    (ap (λ o. option_map_or (λ s. d.faults s.files.disk) o 0) there)
