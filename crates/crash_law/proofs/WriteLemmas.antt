-- A step of a drain that goes through the log.
use Rattle.std.proofs.Common.{◌≡◌, ◌∙◌, ℕ, ◌≤◌, ◌==◌, Bool, true, false, cond, List, ◌++◌, length, Option, Some, None, IfSome, refl, sym, ap, subst, append_assoc}
use Rattle.std.specs.Prelude.{IsSome}
use Rattle.std.proofs.lemmas.Bool.{true≢false}
use Rattle.outside_io.specs.Image.{Image, WhereKnown}
use Rattle.outside_io.specs.declared.disk.Disk.{Ghosts}
use Rattle.write_shelf.specs.Shelf.{DrainValue}
use Rattle.redo_log.specs.Ends.{RedoEnds, SomeEnds, TakesStep}
use Rattle.redo_log.specs.Frame.{StaysInRows}
use Rattle.redo_log.specs.Rows.{InRow, KeepsRings}
use Rattle.redo_log.specs.Steps.{Calls, ComesBehind, Failed, Leads, RedoValue, Taken, Touches}
use Rattle.redo_log.specs.declared.next_step.NextStep.{NextStep}
use Rattle.redo_log.specs.declared.next_step.NextStep.TheVariants.{CreateLog, FirstPiece, Piece, SyncBody, OpenGate, SyncOpen, Run, SyncRuns, CloseGate, SyncClose}
use Rattle.redo_log.specs.declared.redo_step.RedoStep.TheVariants as ended
use Rattle.carbon_history.specs.Entries.{drains}
use Rattle.carbon_history.specs.declared.entry.Entry.{Entry}
use Rattle.carbon_model.specs.Replay.{replay}
use Rattle.carbon_model.specs.RingFiles.{StandsUnder}
use Rattle.carbon_model.specs.State.{Kept, State}
use Rattle.shard_core.specs.Shard.{Holds, Inside}
use Rattle.shard_core.specs.Steps.{write_entries}
use Rattle.shard_core.specs.View.{inside_of}
use Rattle.shard_core.specs.Work.{StaysInRow, drain_at, drain_of}
use Rattle.shard_core.specs.Writes.{FailsStep, StepsOn, TakesStep as TakesWrite, WritesTo}
use Rattle.shard_core.specs.declared.planned.Wrote.{Wrote}
use Rattle.shard_core.specs.declared.planned.Wrote.TheVariants as wrote
use Rattle.shard_core.specs.declared.shard.Shard.{Shard}
use Rattle.shard_core.proofs.LogLemmas.{rings_stand}
use Rattle.crash_law.specs.Calls.{MadeWrite}
use Rattle.crash_law.proofs.FrontLemmas.{drains_more}
use Rattle.crash_law.proofs.RowLemmas.{early_in, is_early}
use Rattle.crash_law.proofs.RunLemmas.{HasFront, IsOn, holds_more, same_or_none}

-- ---- the step before an early one is early

pub some_is : {X : Type 0} (x y : X) → Some x ≡ Some y → x ≡ y
some_is x y e = cc

not_early : (next other : NextStep) → Some next ≡ Some other → is_early other ≡ false → is_early next ≡ true → ⊥
not_early next other is late early = true≢false (sym early ∙ ap is_early (some_is next other is) ∙ late)

late_run : (b : Bool) → is_early (cond b SyncRuns Run) ≡ false
late_run true = refl
late_run false = refl

early_before : (drain : DrainValue) (now next : NextStep) → ComesBehind drain now (Some next) → is_early next ≡ true → is_early now ≡ true
early_before drain CreateLog next comes early = refl
early_before drain FirstPiece next comes early = refl
early_before drain (Piece written) next comes early = refl
early_before drain SyncBody next comes early = refl
early_before drain OpenGate next comes early = refl
early_before drain SyncOpen next comes early = refl
early_before drain Run next comes early = absurd (not_early next (cond (length drain.left == 1) SyncRuns Run) comes (late_run (length drain.left == 1)) early)
early_before drain SyncRuns next comes early = absurd (not_early next CloseGate comes refl early)
early_before drain CloseGate next comes early = absurd (not_early next SyncClose comes refl early)
early_before drain SyncClose next comes early = absurd cc

-- and its call leaves the rings
calls_keep : (drain : DrainValue) (name : List ℕ) (now : NextStep) (behind : Option NextStep) (x y : Image) → is_early now ≡ true → Calls drain name now behind x y → KeepsRings x y
calls_keep drain name CreateLog behind x y early calls = λ other no_log no_gate. calls.1 other no_log
calls_keep drain name FirstPiece behind x y early calls = λ other no_log no_gate. calls.puts.1 other no_log
calls_keep drain name (Piece written) behind x y early calls = λ other no_log no_gate. calls.puts.1 other no_log
calls_keep drain name SyncBody behind x y early calls = λ other no_log no_gate. calls other
calls_keep drain name OpenGate behind x y early calls = λ other no_log no_gate. calls.1 other no_gate
calls_keep drain name SyncOpen behind x y early calls = λ other no_log no_gate. calls other
calls_keep drain name Run behind x y early calls = absurd cc
calls_keep drain name SyncRuns behind x y early calls = absurd cc
calls_keep drain name CloseGate behind x y early calls = absurd cc
calls_keep drain name SyncClose behind x y early calls = absurd cc

touches_keep : (drain : DrainValue) (name : List ℕ) (now : NextStep) (x y : Image) → is_early now ≡ true → Touches drain name now x y → KeepsRings x y
touches_keep drain name CreateLog x y early touches = λ other no_log no_gate. touches other no_log
touches_keep drain name FirstPiece x y early touches = λ other no_log no_gate. touches.tears.1 other no_log
touches_keep drain name (Piece written) x y early touches = λ other no_log no_gate. touches.tears.1 other no_log
touches_keep drain name SyncBody x y early touches = λ other no_log no_gate. touches other
touches_keep drain name OpenGate x y early touches = λ other no_log no_gate. touches.1 other no_gate
touches_keep drain name SyncOpen x y early touches = λ other no_log no_gate. touches other
touches_keep drain name Run x y early touches = absurd cc
touches_keep drain name SyncRuns x y early touches = absurd cc
touches_keep drain name CloseGate x y early touches = absurd cc
touches_keep drain name SyncClose x y early touches = absurd cc

-- ---- behind a step

-- while no run is to be written the rings are as they were
pub record StaysEarly (old : Option RedoValue) (a b : Option Image) : Type 0 where
  pub before : early_in old ≡ true
  pub rings : WhereKnown a b KeepsRings

known_so : (P Q : Image → Image → Type 0) → ((x y : Image) → P x y → Q x y) → (a b : Option Image) → WhereKnown a b P → WhereKnown a b Q
known_so P Q more None None p = tt
known_so P Q more None (Some y) p = absurd p
known_so P Q more (Some x) None p = absurd p
known_so P Q more (Some x) (Some y) p = more x y p

taken_early : (drain : Option DrainValue) (name : List ℕ) (now next : NextStep) (a b : Option Image) → IsSome drain → IfSome drain (λ dr. Leads dr now (Some next)) → WhereKnown a b (λ x y. IfSome drain (λ dr. Calls dr name now (Some next) x y)) → is_early next ≡ true
    → (is_early now ≡ true) × WhereKnown a b KeepsRings
taken_early None name now next a b some leads calls early = absurd cc
taken_early (Some drain) name now next a b some leads calls early =
    let before : is_early now ≡ true = early_before drain now next leads.0 early in
    (before, known_so (Calls drain name now (Some next)) KeepsRings (λ x y call. calls_keep drain name now (Some next) x y before call) a b calls)

failed_early : (drain : Option DrainValue) (name : List ℕ) (now : NextStep) (a b : Option Image) → IsSome drain → WhereKnown a b (λ x y. IfSome drain (λ dr. Touches dr name now x y)) → is_early now ≡ true → WhereKnown a b KeepsRings
failed_early None name now a b some touches early = absurd cc
failed_early (Some drain) name now a b some touches early = known_so (Touches drain name now) KeepsRings (λ x y touch. touches_keep drain name now x y early touch) a b touches

step_early : (old new : RedoValue) (a b : Option Image) → IsSome old.drain → TakesStep old new a b → is_early new.next ≡ true → StaysEarly (Some old) a b
step_early old new a b some takes early =
    let next : is_early takes.next ≡ true = subst (λ (r : RedoValue). is_early r.next ≡ true) takes.is early in
    let both = taken_early old.drain old.name old.next takes.next a b some takes.leads
    (known_so (Taken old (Some takes.next)) (λ x y. IfSome old.drain (λ dr. Calls dr old.name old.next (Some takes.next) x y)) (λ x y taken. taken.calls) a b takes.taken) next in
    record { before = both.0; rings = both.1 }

-- what is known of the redo behind a step
pub record Behind (old new : Option RedoValue) (a b : Option Image) : Type 0 where
  pub some : IfSome new (λ r. IsSome r.drain)
  pub early : early_in new ≡ true → StaysEarly old a b

drain_some : (next : NextStep) (drain : Option DrainValue) → IsSome (drain_at next drain) → IsSome drain
drain_some next None some = absurd cc
drain_some next (Some drain) some = refl

-- a step was taken behind which one comes, or the last one
run_behind : (old : RedoValue) (new : Option RedoValue) (a b : Option Image) → IsSome old.drain → IsSome (drain_of new) → SomeEnds ended.Run old new a b → Behind (Some old) new a b
run_behind old None a b some later ends = absurd cc
run_behind old (Some new) a b some later ends = record { some = drain_some new.next new.drain later; early = λ early. step_early old new a b some ends early }

last_behind : (old : RedoValue) (new : Option RedoValue) (a b : Option Image) → SomeEnds ended.Finished old new a b → Behind (Some old) new a b
last_behind old None a b ends = record { some = tt; early = λ early. absurd cc }
last_behind old (Some new) a b ends = absurd ends

-- or none was
fault_behind : (old : RedoValue) (new : Option RedoValue) (a b : Option Image) → IsSome old.drain → SomeEnds ended.DiskFault old new a b → Behind (Some old) new a b
fault_behind old None a b some ends = let none : ended.DiskFault ≡ ended.Finished = ends.0 in absurd cc
fault_behind old (Some new) a b some ends =
    subst (λ (r : RedoValue). Behind (Some old) (Some r) a b) (sym ends.is)
    (record {
      some = some;
      early = λ early. record {
        before = early;
        rings = failed_early old.drain old.name old.next a b some (known_so (Failed old) (λ x y. IfSome old.drain (λ dr. Touches dr old.name old.next x y)) (λ x y failed. failed.touches) a b ends.failed) early;
      };
    })

none_behind : (new : Option RedoValue) (a b : Option Image) → new ≡ None → Behind None new a b
none_behind new a b none = subst (λ (r : Option RedoValue). Behind None r a b) (sym none) (record { some = tt; early = λ early. absurd cc })

run_ends : (old new : Option RedoValue) (a b : Option Image) → IfSome old (λ r. IsSome r.drain) → IsSome (drain_of new) → RedoEnds ended.Run old new a b → Behind old new a b
run_ends None new a b some later ends = none_behind new a b ends.1
run_ends (Some old) new a b some later ends = run_behind old new a b some later ends

last_ends : (old new : Option RedoValue) (a b : Option Image) → RedoEnds ended.Finished old new a b → Behind old new a b
last_ends None new a b ends = none_behind new a b ends.1
last_ends (Some old) new a b ends = last_behind old new a b ends

fault_ends : (old new : Option RedoValue) (a b : Option Image) → IfSome old (λ r. IsSome r.drain) → RedoEnds ended.DiskFault old new a b → Behind old new a b
fault_ends None new a b some ends = none_behind new a b ends.1
fault_ends (Some old) new a b some ends = fault_behind old new a b some ends

-- ---- what the answer of a write says

pub record WroteSo (old : Option RedoValue) (before after : Inside) : Type 0 where
  pub new : Option RedoValue
  pub log : after.log ≡ Some new
  pub shelf : after.shelf ≡ drain_of new
  pub behind : Behind old new before.known after.known

taken_wrote : (end : Wrote) (log : Option (Option RedoValue)) (old : Option RedoValue) (before after : Inside) → log ≡ Some old → TakesWrite end log before after → StepsOn end old before after
taken_wrote end log old before after is takes = subst (λ (l : Option (Option RedoValue)). TakesWrite end l before after) is takes

failed_wrote : (log : Option (Option RedoValue)) (old : Option RedoValue) (before after : Inside) → log ≡ Some old → FailsStep log before after → StepsOn wrote.DiskFault old before after
failed_wrote log old before after is fails = subst (λ (l : Option (Option RedoValue)). FailsStep l before after) is fails

same_behind : (old : Option RedoValue) (a : Option Image) → IfSome old (λ r. IsSome r.drain) → Behind old old a a
same_behind old a some = record { some = some; early = λ early. record { before = early; rings = by a } }
  where
    by : (a : Option Image) → WhereKnown a a KeepsRings
    by None = tt
    by (Some x) = λ name no_log no_gate. refl

wrote_so : (end : Wrote) (old : Option RedoValue) (before after : Inside) → before.log ≡ Some old → before.shelf ≡ drain_of old → IfSome old (λ r. IsSome r.drain) → WritesTo end before after → WroteSo old before after
wrote_so wrote.Run old before after log shelf some writes =
    let steps = taken_wrote wrote.Run before.log old before after log writes.0.takes in record {
      new = steps.behind;
      log = steps.log;
      shelf = steps.shelf;
      behind = run_ends old steps.behind before.known after.known some (subst (λ (o : Option DrainValue). IsSome o) steps.shelf writes.1) steps.ends;
    }
wrote_so wrote.Finished old before after log shelf some writes =
    let steps = taken_wrote wrote.Finished before.log old before after log writes.0.takes in record {
      new = steps.behind;
      log = steps.log;
      shelf = steps.shelf;
      behind = last_ends old steps.behind before.known after.known steps.ends;
    }
wrote_so wrote.Nothing old before after log shelf some writes = record {
  new = old;
  log = ap (λ (i : Inside). i.log) writes.1 ∙ log;
  shelf = ap (λ (i : Inside). i.shelf) writes.1 ∙ shelf;
  behind = subst (λ (o : Option Image). Behind old old before.known o) (sym (ap (λ (i : Inside). i.known) writes.1)) (same_behind old before.known some);
}
wrote_so wrote.DiskFault old before after log shelf some writes =
    let steps = failed_wrote before.log old before after log writes.fails in record {
      new = steps.behind;
      log = steps.log;
      shelf = steps.shelf;
      behind = fault_ends old steps.behind before.known after.known some steps.ends;
    }

-- ---- the rows

-- the row of a step of the log
rows_at : {D : Type 0} (d : Ghosts D) (log log' : Option (Option RedoValue)) (old new : Option RedoValue) (a b : D) → log ≡ Some old → log' ≡ Some new → StaysInRow d log log' a b → InRow old (d.image a) (d.may_leave a) → StaysInRows d old new a b
rows_at d log log' old new a b is is' rows =
    subst (λ (l : Option (Option RedoValue)). StaysInRow d (Some old) l a b) is' (subst (λ (l : Option (Option RedoValue)). StaysInRow d l log' a b) is rows)

pub on_rows : {D : Type 0} {d : Ghosts D} (class : ℕ) (told : Image) (s : State) (entries : List Entry) (end : Wrote) (old new : Shard D d) → MadeWrite end old new → (on : IsOn class told s entries old)
    → (behind : Option RedoValue) × ((new.files.work.log ≡ Some behind) × StaysInRows d on.redo behind old.files.disk new.files.disk)
on_rows {D} {d} class told s entries end old new made on =
    let w = wrote_so end on.redo (inside_of old) (inside_of new) on.log on.shelf on.some made.writes in
    (w.new, (w.log, rows_at d old.files.work.log new.files.work.log on.redo w.new old.files.disk new.files.disk on.log w.log made.rows on.row))

-- ---- where the shard stands then

write_still : (pass class : ℕ) (state : State) (end : Wrote) → replay state (write_entries pass class end) ≡ state
write_still pass class state wrote.Run = refl
write_still pass class state wrote.Finished = refl
write_still pass class state wrote.Nothing = refl
write_still pass class state wrote.DiskFault = refl

write_drains : (pass class : ℕ) (end : Wrote) → drains (write_entries pass class end) ≡ 0
write_drains pass class wrote.Run = refl
write_drains pass class wrote.Finished = refl
write_drains pass class wrote.Nothing = refl
write_drains pass class wrote.DiskFault = refl

rings_so : (told : Image) (a b : Option Image) (kept : List ℕ → Option Kept) (class : ℕ) → WhereKnown a b KeepsRings → IfSome a (λ now. StandsUnder told now None kept class) → IfSome b (λ now. StandsUnder told now None kept class)
rings_so told a None kept class keeps stands = tt
rings_so told None (Some y) kept class keeps stands = absurd keeps
rings_so told (Some x) (Some y) kept class keeps stands = rings_stand told x y None kept class keeps stands

front_moved : (class : ℕ) (told : Image) (s : State) (entries more : List Entry) (a b : Option Image) → WhereKnown a b KeepsRings → drains more ≡ 0 → HasFront class told s entries a → HasFront class told s (entries ++ more) b
front_moved class told s entries more a b keeps none f = record {
  front = f.front;
  rest = f.rest ++ more;
  is = ap (λ (xs : List Entry). xs ++ more) f.is ∙ append_assoc f.front f.rest more;
  one = subst (λ (n : ℕ). n ≤ 1) (sym (drains_more f.rest more)) (same_or_none (drains f.rest) (drains more) f.one none);
  stands = rings_so told a b (replay s f.front).kept class keeps f.stands;
}

pub on_write : {D : Type 0} {d : Ghosts D} (pass class : ℕ) (told : Image) (s : State) (entries : List Entry) (end : Wrote) (old new : Shard D d) → MadeWrite end old new → IsOn class told s entries old
    → IsOn class told s (entries ++ write_entries pass class end) new
on_write {D} {d} pass class told s entries end old new made on =
    let w = wrote_so end on.redo (inside_of old) (inside_of new) on.log on.shelf on.some made.writes in
    let rows = rows_at d old.files.work.log new.files.work.log on.redo w.new old.files.disk new.files.disk on.log w.log made.rows on.row in record {
      redo = w.new;
      log = w.log;
      shelf = w.shelf;
      some = w.behind.some;
      here = made.others.class ∙ on.here;
      holds = holds_more (Some told) s entries (write_entries pass class end) (inside_of new)
          (subst (λ (state : State). Holds (Some told) (inside_of new) state) (sym (write_still pass class (replay s entries) end)) (made.stays (Some told) (replay s entries) on.holds));
      row = rows.row;
      early = λ is.
          let stays = w.behind.early is in
          front_moved class told s entries (write_entries pass class end) (d.image old.files.disk) (d.image new.files.disk) stays.rings (write_drains pass class end) (on.early stays.before);
    }
