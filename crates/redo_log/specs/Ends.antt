-- How a step of a redo ends, and what it makes of it.
use Rattle.std.specs.Prelude.{◌≡◌, ℕ, List, [], ◌∷◌, Option, None, Some, IfSome}
use Rattle.outside_io.specs.Image.{Image, WhereKnown}
use Rattle.ring_format.specs.Patch.{PatchValue}
use Rattle.redo_log.specs.Steps.{Failed, Leads, RedoValue, Taken, on_way, with_next}
use Rattle.redo_log.specs.declared.next_step.NextStep.{NextStep}
use Rattle.redo_log.specs.declared.next_step.NextStep.TheVariants.{CreateLog}
use Rattle.redo_log.specs.declared.redo_step.RedoStep.{RedoStep}
use Rattle.redo_log.specs.declared.redo_step.RedoStep.TheVariants.{Run, Finished, Nothing, DiskFault}
use Rattle.write_shelf.specs.declared.run.Run.{Run as ShelfRun}
use Rattle.write_shelf.specs.Shelf.{drain_with}

-- a step was taken, and this one comes behind it
pub record TakesStep (old new : RedoValue) (a b : Option Image) : Type 0 where
  pub next : NextStep
  pub is : new ≡ with_next old next
  pub leads : IfSome old.drain (λ drain. Leads drain old.next (Some next))
  pub taken : WhereKnown a b (Taken old (Some next))

-- the last step was taken
pub record TakesLast (old : RedoValue) (a b : Option Image) : Type 0 where
  pub leads : IfSome old.drain (λ drain. Leads drain old.next None)
  pub taken : WhereKnown a b (Taken old None)

-- the disk failed
pub record TakesNone (old new : RedoValue) (a b : Option Image) : Type 0 where
  pub is : new ≡ old
  pub failed : WhereKnown a b (Failed old)

abbrev pub TakeEnds : RedoStep → RedoValue → RedoValue → Option Image → Option Image → Type 0
TakeEnds Run old new a b = TakesStep old new a b
TakeEnds Finished old new a b = TakesLast old a b
TakeEnds Nothing old new a b = ⊥
TakeEnds DiskFault old new a b = TakesNone old new a b

-- the same of a redo, which is empty behind its last step, and stays as it is where it is empty
abbrev pub SomeEnds : RedoStep → RedoValue → Option RedoValue → Option Image → Option Image → Type 0
SomeEnds end old None a b = (end ≡ Finished) × TakesLast old a b
SomeEnds Run old (Some new) a b = TakesStep old new a b
SomeEnds Finished old (Some new) a b = ⊥
SomeEnds Nothing old (Some new) a b = ⊥
SomeEnds DiskFault old (Some new) a b = TakesNone old new a b

abbrev pub RedoEnds : RedoStep → Option RedoValue → Option RedoValue → Option Image → Option Image → Type 0
RedoEnds end None new a b = (end ≡ Nothing) × (new ≡ None) × (b ≡ a)
RedoEnds end (Some old) new a b = SomeEnds end old new a b

-- a redo of a patch with these runs at its first step; without runs it is empty
abbrev pub redo_with : PatchValue → List ℕ → List ShelfRun → Option RedoValue
redo_with patch name [] = None
redo_with patch name (run ∷ left) = Some (on_way (drain_with patch (run ∷ left)) name CreateLog)

-- what is left behind a step that ended so
abbrev pub rest_of : RedoStep → RedoValue → Option RedoValue
rest_of Run redo = Some redo
rest_of Finished redo = None
rest_of Nothing redo = Some redo
rest_of DiskFault redo = Some redo
