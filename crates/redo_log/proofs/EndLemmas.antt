-- How a step of a redo ends, by how that of its patch did.
use Rattle.std.proofs.Common.{◌≡◌, Option, Some, refl, sym, subst}
use Rattle.outside_io.specs.Image.{Image}
use Rattle.redo_log.specs.Ends.{RedoEnds, TakeEnds, rest_of}
use Rattle.redo_log.specs.Rows.{GoesInRow, InRow}
use Rattle.redo_log.specs.Steps.{RedoValue}
use Rattle.redo_log.specs.declared.redo_step.RedoStep.{RedoStep}
use Rattle.redo_log.specs.declared.redo_step.RedoStep.TheVariants.{Run, Finished, Nothing, DiskFault}

ends_plain : (end : RedoStep) (old new : RedoValue) (a b : Option Image) → TakeEnds end old new a b → RedoEnds end (Some old) (rest_of end new) a b
ends_plain Run old new a b ends = ends
ends_plain Finished old new a b ends = (refl, ends)
ends_plain Nothing old new a b ends = absurd ends
ends_plain DiskFault old new a b ends = ends

pub redo_ends : (end : RedoStep) (held : Option RedoValue) (old new : RedoValue) (a b : Option Image) → held ≡ Some old → TakeEnds end old new a b → RedoEnds end held (rest_of end new) a b
redo_ends end held old new a b is ends = subst (λ (o : Option RedoValue). RedoEnds end o (rest_of end new) a b) (sym is) (ends_plain end old new a b ends)

row_plain : (end : RedoStep) (old new : RedoValue) (a b : Option Image) (before after : Image → Type 0) → TakeEnds end old new a b → GoesInRow end old new a b before after → InRow (Some old) a before → InRow (rest_of end new) b after
row_plain Run old new a b before after ends row = row
row_plain Finished old new a b before after ends row = row
row_plain Nothing old new a b before after ends row = absurd ends
row_plain DiskFault old new a b before after ends row = row

pub redo_row : (end : RedoStep) (held : Option RedoValue) (old new : RedoValue) (a b : Option Image) (before after : Image → Type 0) → held ≡ Some old → TakeEnds end old new a b → GoesInRow end old new a b before after
    → InRow held a before → InRow (rest_of end new) b after
redo_row end held old new a b before after is ends row =
    subst (λ (o : Option RedoValue). InRow o a before → InRow (rest_of end new) b after) (sym is) (row_plain end old new a b before after ends row)
