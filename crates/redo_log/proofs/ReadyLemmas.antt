-- A redo is ready for its next step again.
use Rattle.std.proofs.Common.{ℕ, List, [], ◌∷◌, Option, None, Some, IfSome, sym, subst}
use Rattle.outside_io.specs.Image.{Image, WhereKnown}
use Rattle.ring_format.specs.Patch.{PatchValue}
use Rattle.ring_writer.specs.PartWritten.{Awaits}
use Rattle.write_shelf.specs.Runs.{runs_of}
use Rattle.write_shelf.specs.declared.run.Run.{Run as ShelfRun}
use Rattle.redo_log.specs.Ends.{RedoEnds, SomeEnds, redo_with}
use Rattle.redo_log.specs.Steps.{Failed, IsClosed, IsReady, RedoValue, Taken, gate_name, with_next}
use Rattle.redo_log.specs.declared.next_step.NextStep.{NextStep}
use Rattle.redo_log.specs.declared.redo_step.RedoStep.{RedoStep}
use Rattle.redo_log.specs.declared.redo_step.RedoStep.TheVariants.{Run, Finished, Nothing, DiskFault}

taken_ready : (old : RedoValue) (next : NextStep) (a b : Option Image) → WhereKnown a b (Taken old (Some next)) → IfSome b (IsReady (with_next old next))
taken_ready old next None None taken = tt
taken_ready old next None (Some y) taken = absurd taken
taken_ready old next (Some x) None taken = absurd taken
taken_ready old next (Some x) (Some y) taken = taken.ready

failed_ready : (old : RedoValue) (a b : Option Image) → WhereKnown a b (Failed old) → IfSome b (IsReady old)
failed_ready old None None failed = tt
failed_ready old None (Some y) failed = absurd failed
failed_ready old (Some x) None failed = absurd failed
failed_ready old (Some x) (Some y) failed = failed.ready

some_ready : (end : RedoStep) (old : RedoValue) (new : Option RedoValue) (a b : Option Image) → SomeEnds end old new a b → IfSome new (λ redo. IfSome b (IsReady redo))
some_ready end old None a b ends = tt
some_ready Run old (Some new) a b ends = subst (λ (redo : RedoValue). IfSome b (IsReady redo)) (sym ends.is) (taken_ready old ends.next a b ends.taken)
some_ready Finished old (Some new) a b ends = absurd ends
some_ready Nothing old (Some new) a b ends = absurd ends
some_ready DiskFault old (Some new) a b ends = subst (λ (redo : RedoValue). IfSome b (IsReady redo)) (sym ends.is) (failed_ready old a b ends.failed)

-- behind a step
pub ready_again : (end : RedoStep) (old new : Option RedoValue) (a b : Option Image) → RedoEnds end old new a b → IfSome new (λ redo. IfSome b (IsReady redo))
ready_again end None new a b ends = subst (λ (o : Option RedoValue). IfSome o (λ redo. IfSome b (IsReady redo))) (sym ends.1) tt
ready_again end (Some old) new a b ends = some_ready end old new a b ends

-- a patch that is put
runs_ready : (patch : PatchValue) (name : List ℕ) (runs : List ShelfRun) (image : Image) → IsClosed (image gate_name) → Awaits patch runs (image name) → IfSome (redo_with patch name runs) (λ redo. IsReady redo image)
runs_ready patch name [] image closed awaits = tt
runs_ready patch name (run ∷ runs) image closed awaits = record { log = tt; gate = closed; file = awaits }

pub put_ready : (patch : PatchValue) (name : List ℕ) (image : Image) → IsClosed (image gate_name) → Awaits patch (runs_of patch) (image name) → IfSome (redo_with patch name (runs_of patch)) (λ redo. IsReady redo image)
put_ready patch name image closed awaits = runs_ready patch name (runs_of patch) image closed awaits
