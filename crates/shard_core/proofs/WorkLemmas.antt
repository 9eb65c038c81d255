-- What is being written, straight to a file or through the log.
use Rattle.std.proofs.Common.{◌≡◌, ◌∙◌, inl, inr, ℕ, ◌<◌, List, [], ◌∷◌, length, Option, None, Some, IfSome, refl, sym, ap, subst, arith}
use Rattle.std.specs.Prelude.{option_and_then, option_map}
use Rattle.std.specs.Option.{option_map_or}
use Rattle.outside_io.specs.Image.{Image}
use Rattle.ring_format.specs.Patch.{PatchValue}
use Rattle.write_shelf.specs.Shelf.{DrainValue, drain_with}
use Rattle.write_shelf.specs.declared.run.Run.{Run as ShelfRun}
use Rattle.redo_log.specs.Count.{StepsFall, steps_left}
use Rattle.redo_log.specs.Ends.{RedoEnds, redo_with}
use Rattle.redo_log.specs.Steps.{IsGoing, IsReady, RedoValue}
use Rattle.redo_log.specs.declared.next_step.NextStep.{NextStep}
use Rattle.redo_log.specs.declared.redo_step.RedoStep.{RedoStep}
use Rattle.shard_core.specs.Shard.{patch_on}
use Rattle.shard_core.specs.Work.{GoesStraight, GoesThrough, GoesWithout, WorkGoes, WorkValue, drain_at, drain_of, logged_work, step_of, straight_work}
use Rattle.shard_core.specs.declared.planned.Wrote.{Wrote}

-- ---- the patch

patch_at : (next : NextStep) (drain : Option DrainValue) → option_map (λ (d : DrainValue). d.patch) drain ≡ patch_on (drain_at next drain)
patch_at next None = refl
patch_at next (Some drain) = refl

pub patch_of : (redo : Option RedoValue) → option_and_then (λ (r : RedoValue). option_map (λ (d : DrainValue). d.patch) r.drain) redo ≡ patch_on (drain_of redo)
patch_of None = refl
patch_of (Some r) = patch_at r.next r.drain

-- ---- nothing on it

none_at : (next : NextStep) (drain : Option DrainValue) → drain_at next drain ≡ None → drain ≡ None
none_at next None none = refl
none_at next (Some drain) none = absurd cc

pub none_going : (redo : Option RedoValue) → IfSome redo IsGoing → drain_of redo ≡ None → redo ≡ None
none_going None going none = refl
none_going (Some r) going none = absurd (going.some (none_at r.next r.drain none))

-- ---- a patch is put

put_drain : (patch : PatchValue) (name : List ℕ) (runs : List ShelfRun) → drain_of (redo_with patch name runs) ≡ drain_with patch runs
put_drain patch name [] = refl
put_drain patch name (run ∷ runs) = refl

pub put_logged : (patch : PatchValue) (name : List ℕ) (runs : List ShelfRun) (redo : Option RedoValue) → redo ≡ redo_with patch name runs → drain_of redo ≡ drain_with patch runs
put_logged patch name runs redo is = ap drain_of is ∙ put_drain patch name runs

straight_few : (patch : PatchValue) (runs : List ShelfRun) → length runs < 5000000 → option_map_or (λ (d : DrainValue). length d.left) (drain_with patch runs) 0 < 5000000
straight_few patch [] few = omega arith
straight_few patch (run ∷ runs) few = few

pub put_few : (patch : PatchValue) (runs : List ShelfRun) (shelf : Option DrainValue) → shelf ≡ drain_with patch runs → length runs < 5000000 → option_map_or (λ (d : DrainValue). length d.left) shelf 0 < 5000000
put_few patch runs shelf is few = subst (λ (o : Option DrainValue). option_map_or (λ (d : DrainValue). length d.left) o 0 < 5000000) (sym is) (straight_few patch runs few)

-- ---- a step

pub goes_straight : (end : Wrote) (old new : WorkValue) (shelf shelf' : Option DrainValue) (a b : Option Image) → old ≡ straight_work shelf → new ≡ straight_work shelf' → GoesStraight end shelf shelf' a b → WorkGoes end old new a b
goes_straight end old new shelf shelf' a b was is goes =
    inl (subst (λ (w : WorkValue). GoesWithout end w new a b) (sym was) (subst (λ (w : WorkValue). GoesWithout end (straight_work shelf) w a b) (sym is) (record { was = refl; is = refl; goes = goes })))

pub goes_logged : (end : Wrote) (old new : WorkValue) (before behind : Option RedoValue) (a b : Option Image) → old ≡ logged_work before → new ≡ logged_work behind → GoesThrough end before behind a b → WorkGoes end old new a b
goes_logged end old new before behind a b was is goes = inr (record { before = before; behind = behind; was = was; is = is; goes = goes })

pub goes_through : (step : RedoStep) (end : Wrote) (old new : Option RedoValue) (a b : Option Image) → step_of end ≡ step → RedoEnds step old new a b → StepsFall step (steps_left old) (steps_left new) → IfSome old IsGoing → IfSome new IsGoing
    → IfSome new (λ r. IfSome b (IsReady r)) → GoesThrough end old new a b
goes_through step end old new a b is ends falls going later ready = record {
  ends = subst (λ (s : RedoStep). RedoEnds s old new a b) (sym is) ends;
  falls = subst (λ (s : RedoStep). StepsFall s (steps_left old) (steps_left new)) (sym is) falls;
  going = going;
  later = later;
  ready = ready;
}
