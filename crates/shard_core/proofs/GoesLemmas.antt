-- A step of a drain, straight to its file or through the log: what the shard makes of it.
use Rattle.std.proofs.Common.{◌≡◌, ◌≢◌, ◌∙◌, ⊎_elim, ℕ, ◌<◌, ◌≤◌, Bool, true, false, cond, List, [], ◌∷◌, length, drop, Option, None, Some, IfSome, refl, sym, ap, subst, arith}
use Rattle.std.specs.Prelude.{◌&&◌, IsSome}
use Rattle.std.specs.Option.{option_map_or}
use Rattle.outside_io.specs.Image.{ChangesOnly, Image, WhereKnown}
use Rattle.metric_path.specs.FileName.{file_name_of}
use Rattle.ring_format.specs.Patch.{PatchValue}
use Rattle.write_shelf.specs.Shelf.{DrainValue, IsBegun, drain_with, marked}
use Rattle.write_shelf.specs.declared.run.Run.{Run as ShelfRun}
use Rattle.redo_log.specs.Recovery.{is_open}
use Rattle.redo_log.specs.Steps.{IsGoing, RedoValue, gate_name, is_run, with_next}
use Rattle.redo_log.specs.declared.next_step.NextStep.{NextStep}
use Rattle.redo_log.proofs.StepLemmas.{file_is_no_gate}
use Rattle.ring_writer.specs.PartWritten.{RunTorn, RunWritten}
use Rattle.shard_core.specs.Halves.{DeskInside, both}
use Rattle.shard_core.specs.Shard.{HoldsShelf, Inside, patch_on}
use Rattle.shard_core.specs.Table.{Table}
use Rattle.shard_core.specs.Work.{AwaitsRuns, GoesLogged, GoesStraight, GoesThrough, GoesWithout, HoldsLog, RunsOn, WorkGoes, WorkValue, drain_at, drain_of, logged_work, straight_work}
use Rattle.shard_core.specs.Writes.{StepsOn, WritesStep, WritesTo}
use Rattle.shard_core.specs.declared.planned.Wrote.{Wrote}
use Rattle.shard_core.specs.declared.planned.Wrote.TheVariants.{Run, Finished, Nothing, DiskFault}
use Rattle.shard_core.proofs.LogLemmas.{log_written, same_written}
use Rattle.shard_core.proofs.WriteLemmas.{Written, failed_straight, written_straight}

-- ---- what a step needs

awaits_on : (class : ℕ) (table : Table) (shelf : Option DrainValue) (image : Image) → HoldsShelf class table shelf (Some image) → AwaitsRuns shelf image
awaits_on class table None image on = tt
awaits_on class table (Some drain) image on = on.1.far

pub awaits_runs : (class : ℕ) (table : Table) (shelf : Option DrainValue) (known : Option Image) → HoldsShelf class table shelf known → IfSome known (AwaitsRuns shelf)
awaits_runs class table shelf None on = tt
awaits_runs class table shelf (Some image) on = awaits_on class table shelf image on

-- ---- what the shard keeps

abbrev Keeps : ℕ → Table → WorkValue → WorkValue → Option Image → Option Image → Type 0
Keeps class table old new a b = Written class table old.shelf new.shelf a b × HoldsLog new.log b

straight_kept : (class : ℕ) (table : Table) (end : Wrote) (old new : Option DrainValue) (a b : Option Image) → GoesStraight end old new a b → HoldsShelf class table old a → Written class table old new a b
straight_kept class table Run old new a b goes on = written_straight class table old new a b goes.0 on
straight_kept class table Finished old new a b goes on = written_straight class table old new a b goes.0 on
straight_kept class table Nothing old new a b goes on =
    subst (λ (o : Option DrainValue). Written class table old o a b) (sym goes.1) (subst (λ (k : Option Image). Written class table old old a k) (sym goes.2) (same_written class table old a on))
straight_kept class table DiskFault old new a b goes on = failed_straight class table old new a b goes on

-- a run that goes straight to its file leaves the gate
gate_stays : (patch : PatchValue) (x y : Image) → ChangesOnly x y (file_name_of patch.path) → is_open (x gate_name) ≡ false → is_open (y gate_name) ≡ false
gate_stays patch x y only shut = ap is_open (only gate_name (λ is. file_is_no_gate patch.path (sym is))) ∙ shut

run_shut : (old : Option DrainValue) (a b : Option Image) → IsSome old → WhereKnown a b (λ x y. IfSome old (λ drain. RunWritten drain (file_name_of drain.patch.path) x y)) → HoldsLog None a → HoldsLog None b
run_shut None a b some written shut = absurd cc
run_shut (Some drain) None None some written shut = tt
run_shut (Some drain) None (Some y) some written shut = absurd written
run_shut (Some drain) (Some x) None some written shut = tt
run_shut (Some drain) (Some x) (Some y) some written shut = gate_stays drain.patch x y written.comes.others shut

torn_shut : (old : Option DrainValue) (a b : Option Image) → IsSome old → WhereKnown a b (λ x y. IfSome old (λ drain. RunTorn drain (file_name_of drain.patch.path) x y)) → HoldsLog None a → HoldsLog None b
torn_shut None a b some torn shut = absurd cc
torn_shut (Some drain) None None some torn shut = tt
torn_shut (Some drain) None (Some y) some torn shut = absurd torn
torn_shut (Some drain) (Some x) None some torn shut = tt
torn_shut (Some drain) (Some x) (Some y) some torn shut = gate_stays drain.patch x y torn.comes.others shut

straight_shut : (end : Wrote) (old new : Option DrainValue) (a b : Option Image) → GoesStraight end old new a b → HoldsLog None a → HoldsLog None b
straight_shut Run old new a b goes shut = run_shut old a b goes.0.some goes.0.written shut
straight_shut Finished old new a b goes shut = run_shut old a b goes.0.some goes.0.written shut
straight_shut Nothing old new a b goes shut = subst (λ (k : Option Image). HoldsLog None k) (sym goes.2) shut
straight_shut DiskFault old new a b goes shut = torn_shut old a b goes.some goes.torn shut

without_kept : (class : ℕ) (table : Table) (end : Wrote) (old new : WorkValue) (a b : Option Image) → GoesWithout end old new a b → HoldsLog old.log a → HoldsShelf class table old.shelf a → Keeps class table old new a b
without_kept class table end old new a b goes log on = (
  straight_kept class table end old.shelf new.shelf a b goes.goes on,
  subst (λ (w : WorkValue). HoldsLog w.log b) (sym goes.is) (straight_shut end old.shelf new.shelf a b goes.goes (subst (λ (w : WorkValue). HoldsLog w.log a) goes.was log)),
)

logged_kept : (class : ℕ) (table : Table) (end : Wrote) (old new : WorkValue) (a b : Option Image) → GoesLogged end old new a b → HoldsLog old.log a → HoldsShelf class table old.shelf a → Keeps class table old new a b
logged_kept class table end old new a b goes log on =
    let there = log_written class table end goes.before goes.behind a b goes.goes (subst (λ (w : WorkValue). HoldsLog w.log a) goes.was log) (subst (λ (w : WorkValue). HoldsShelf class table w.shelf a) goes.was on) in
    subst (λ (w : WorkValue). Keeps class table w new a b) (sym goes.was) (subst (λ (w : WorkValue). Keeps class table (logged_work goes.before) w a b) (sym goes.is) there)

pub work_kept : (class : ℕ) (table : Table) (end : Wrote) (old new : WorkValue) (a b : Option Image) → WorkGoes end old new a b → HoldsLog old.log a → HoldsShelf class table old.shelf a → Keeps class table old new a b
work_kept class table end old new a b goes log on = ⊎_elim (λ w. without_kept class table end old new a b w log on) (λ g. logged_kept class table end old new a b g log on) goes

-- ---- what it tells

abbrev Of : DeskInside → ℕ → WorkValue → Option Image → Inside
Of desk class work known = both desk (record { class = class; shelf = work.shelf; steps = work.steps; log = work.log; known = known })

abbrev steps_on : Option DrainValue → ℕ
steps_on shelf = option_map_or (λ drain. length drain.left) shelf 0

marked_left : (patch : PatchValue) (left : List ShelfRun) → 1 ≤ length left → steps_on (drain_with patch (drop 1 left)) < length left
marked_left patch [] some = absurd (omega (arith, some))
marked_left patch (run ∷ []) some = omega arith
marked_left patch (run ∷ next ∷ left) some = omega arith

marked_fewer : (old new : Option DrainValue) → IsSome old → IfSome old IsBegun → new ≡ marked old → steps_on new < steps_on old
marked_fewer None new some begun mark = absurd cc
marked_fewer (Some drain) new some begun mark = subst (λ (o : Option DrainValue). steps_on o < length drain.left) (sym mark) (marked_left drain.patch drain.left begun.some)

-- the patch stays
marked_at : (patch : PatchValue) (left : List ShelfRun) (next : NextStep) → IfSome (drain_at next (drain_with patch left)) (λ drain. Some patch ≡ Some drain.patch)
marked_at patch [] next = tt
marked_at patch (run ∷ left) next = refl

marked_patch : (patch : PatchValue) (left : List ShelfRun) → IfSome (drain_with patch left) (λ drain. Some patch ≡ Some drain.patch)
marked_patch patch [] = tt
marked_patch patch (run ∷ left) = refl

marked_stays : (old new : Option DrainValue) → new ≡ marked old → IfSome new (λ drain. patch_on old ≡ Some drain.patch)
marked_stays None new mark = subst (λ (o : Option DrainValue). IfSome o (λ drain. patch_on None ≡ Some drain.patch)) (sym mark) tt
marked_stays (Some drain) new mark = subst (λ (o : Option DrainValue). IfSome o (λ d. Some drain.patch ≡ Some d.patch)) (sym mark) (marked_patch drain.patch (drop 1 drain.left))

next_patch : (b : Bool) (drain : Option DrainValue) (now next : NextStep) → IfSome (drain_at next (cond b (marked drain) drain)) (λ d. patch_on (drain_at now drain) ≡ Some d.patch)
next_patch true None now next = tt
next_patch false None now next = tt
next_patch true (Some drain) now next = marked_at drain.patch (drop 1 drain.left) next
next_patch false (Some drain) now next = refl

step_patch : (r n : RedoValue) (next : NextStep) → n ≡ with_next r next → IfSome (drain_of (Some n)) (λ d. patch_on (drain_of (Some r)) ≡ Some d.patch)
step_patch r n next is = subst (λ (m : RedoValue). IfSome (drain_of (Some m)) (λ d. patch_on (drain_of (Some r)) ≡ Some d.patch)) (sym is) (next_patch (is_run next && is_run r.next) r.drain r.next next)

run_told : (desk : DeskInside) (class : ℕ) (end : Wrote) (old new : Option DrainValue) (a b : Option Image) → RunsOn old new a b → WritesStep end (Of desk class (straight_work old) a) (Of desk class (straight_work new) b)
run_told desk class end old new a b runs = record {
  some = runs.some;
  fewer = marked_fewer old new runs.some runs.begun runs.marked;
  patch = marked_stays old new runs.marked;
  takes = (record { some = runs.some; marked = runs.marked; written = runs.written }, refl);
}

straight_told : (desk : DeskInside) (class : ℕ) (end : Wrote) (old new : Option DrainValue) (a b : Option Image) → GoesStraight end old new a b → WritesTo end (Of desk class (straight_work old) a) (Of desk class (straight_work new) b)
straight_told desk class Run old new a b goes = (run_told desk class Run old new a b goes.0, goes.1)
straight_told desk class Finished old new a b goes = (run_told desk class Finished old new a b goes.0, goes.1)
straight_told desk class Nothing old new a b goes = (goes.0, ap (λ (o : Option DrainValue). Of desk class (straight_work o) b) goes.1 ∙ ap (λ (k : Option Image). Of desk class (straight_work old) k) goes.2)
straight_told desk class DiskFault old new a b goes = record {
  some = goes.some;
  shelf = goes.same;
  steps = ap steps_on goes.same;
  fails = (record { some = goes.some; same = goes.same; torn = goes.torn }, refl);
}

-- a redo that is not empty has something on the shelf
some_at : (next : NextStep) (drain : Option DrainValue) → drain ≢ None → IsSome (drain_at next drain)
some_at next None some = absurd (some refl)
some_at next (Some drain) some = refl

some_of : (r : RedoValue) → IsGoing r → IsSome (drain_of (Some r))
some_of r going = some_at r.next r.drain going.some

on_log : (desk : DeskInside) (class : ℕ) (end : Wrote) (before behind : Option RedoValue) (a b : Option Image) → GoesThrough end before behind a b → StepsOn end before (Of desk class (logged_work before) a) (Of desk class (logged_work behind) b)
on_log desk class end before behind a b goes = record { behind = behind; log = refl; shelf = refl; ends = goes.ends }

logged_told : (desk : DeskInside) (class : ℕ) (end : Wrote) (before behind : Option RedoValue) (a b : Option Image) → GoesThrough end before behind a b → WritesTo end (Of desk class (logged_work before) a) (Of desk class (logged_work behind) b)
logged_told desk class Run None behind a b goes = absurd cc
logged_told desk class Run (Some r) None a b goes = absurd cc
logged_told desk class Run (Some r) (Some n) a b goes = (record { some = some_of r goes.going; fewer = goes.falls; patch = step_patch r n goes.ends.next goes.ends.is; takes = on_log desk class Run (Some r) (Some n) a b goes }, some_of n goes.later)
logged_told desk class Finished None behind a b goes = absurd cc
logged_told desk class Finished (Some r) None a b goes = (record { some = some_of r goes.going; fewer = omega (arith, goes.falls.0); patch = tt; takes = on_log desk class Finished (Some r) None a b goes }, refl)
logged_told desk class Finished (Some r) (Some n) a b goes = absurd goes.ends
logged_told desk class Nothing None behind a b goes =
    (refl, ap (λ (o : Option RedoValue). Of desk class (logged_work o) b) goes.ends.1 ∙ ap (λ (k : Option Image). Of desk class (logged_work None) k) goes.ends.2)
logged_told desk class Nothing (Some r) None a b goes = absurd cc
logged_told desk class Nothing (Some r) (Some n) a b goes = absurd goes.ends
logged_told desk class DiskFault None behind a b goes = absurd cc
logged_told desk class DiskFault (Some r) None a b goes = absurd cc
logged_told desk class DiskFault (Some r) (Some n) a b goes = record {
  some = some_of r goes.going;
  shelf = ap (λ (m : RedoValue). drain_of (Some m)) goes.ends.is;
  steps = goes.falls;
  fails = on_log desk class DiskFault (Some r) (Some n) a b goes;
}

abbrev Tells : DeskInside → ℕ → Wrote → WorkValue → WorkValue → Option Image → Option Image → Type 0
Tells desk class end old new a b = WritesTo end (Of desk class old a) (Of desk class new b)

pub work_told : (desk : DeskInside) (class : ℕ) (end : Wrote) (old new : WorkValue) (a b : Option Image) → WorkGoes end old new a b → Tells desk class end old new a b
work_told desk class end old new a b goes = ⊎_elim
    (λ w. subst (λ (v : WorkValue). Tells desk class end v new a b) (sym w.was) (subst (λ (v : WorkValue). Tells desk class end (straight_work old.shelf) v a b) (sym w.is) (straight_told desk class end old.shelf new.shelf a b w.goes)))
    (λ g. subst (λ (v : WorkValue). Tells desk class end v new a b) (sym g.was) (subst (λ (v : WorkValue). Tells desk class end (logged_work g.before) v a b) (sym g.is) (logged_told desk class end g.before g.behind a b g.goes))) goes
