-- A shelf's file is under way in one way at most, and a log has what its next step needs in one way.
use Rattle.std.specs.Prelude.{ℕ, List, [], ◌∷◌, Option, None, Some}
use Rattle.std.specs.Coded.{Unit-prop}
use Rattle.std.proofs.Props.{props}
use Rattle.outside_io.specs.Image.{Image}
use Rattle.ring_format.specs.Patch.{PatchValue}
use Rattle.ring_writer.specs.PartWritten.{Awaits}
use Rattle.write_shelf.specs.Shelf.{DrainValue}
use Rattle.write_shelf.specs.declared.run.Run.{Run}
use Rattle.write_shelf.specs.declared.run.Run.TheVariants.{Create, Cells, Head}
use Rattle.redo_log.specs.Steps.{HasFile, HasGate, HasLog, RedoValue}
use Rattle.redo_log.specs.declared.next_step.NextStep.{NextStep}
use Rattle.redo_log.specs.declared.next_step.NextStep.TheVariants.{CreateLog, FirstPiece, Piece, SyncBody, OpenGate, SyncOpen, Run as RunStep, SyncRuns, CloseGate, SyncClose}
use Rattle.shard_core.specs.Work.{HoldsLog, HoldsRedo}

pub Awaits-prop : (patch : PatchValue) (left : List Run) (held : Option (List ℕ)) → IsProp (Awaits patch left held)
Awaits-prop patch [] held = hlevel props
Awaits-prop patch (Create size ∷ left) held = Unit-prop
Awaits-prop patch (Cells archive slot count ∷ left) held = hlevel props
Awaits-prop patch (Head ∷ left) held = hlevel props

pub HasLog-prop : (patch : PatchValue) (next : NextStep) (held : Option (List ℕ)) → IsProp (HasLog patch next held)
HasLog-prop patch CreateLog held = Unit-prop
HasLog-prop patch FirstPiece held = hlevel props
HasLog-prop patch (Piece written) held = hlevel props
HasLog-prop patch SyncBody held = hlevel props
HasLog-prop patch OpenGate held = hlevel props
HasLog-prop patch SyncOpen held = hlevel props
HasLog-prop patch RunStep held = hlevel props
HasLog-prop patch SyncRuns held = hlevel props
HasLog-prop patch CloseGate held = hlevel props
HasLog-prop patch SyncClose held = hlevel props

pub HasGate-prop : (next : NextStep) (held : Option (List ℕ)) → IsProp (HasGate next held)
HasGate-prop CreateLog held = hlevel props
HasGate-prop FirstPiece held = hlevel props
HasGate-prop (Piece written) held = hlevel props
HasGate-prop SyncBody held = hlevel props
HasGate-prop OpenGate held = hlevel props
HasGate-prop SyncOpen held = hlevel props
HasGate-prop RunStep held = hlevel props
HasGate-prop SyncRuns held = hlevel props
HasGate-prop CloseGate held = hlevel props
HasGate-prop SyncClose held = hlevel props

pub HasFile-prop : (drain : DrainValue) (next : NextStep) (held : Option (List ℕ)) → IsProp (HasFile drain next held)
HasFile-prop drain CreateLog held = Awaits-prop drain.patch drain.left held
HasFile-prop drain FirstPiece held = Awaits-prop drain.patch drain.left held
HasFile-prop drain (Piece written) held = Awaits-prop drain.patch drain.left held
HasFile-prop drain SyncBody held = Awaits-prop drain.patch drain.left held
HasFile-prop drain OpenGate held = Awaits-prop drain.patch drain.left held
HasFile-prop drain SyncOpen held = Awaits-prop drain.patch drain.left held
HasFile-prop drain RunStep held = Awaits-prop drain.patch drain.left held
HasFile-prop drain SyncRuns held = Awaits-prop drain.patch [] held
HasFile-prop drain CloseGate held = Awaits-prop drain.patch [] held
HasFile-prop drain SyncClose held = Awaits-prop drain.patch [] held

ruleset step_props = (props, HasLog-prop, HasGate-prop, HasFile-prop)

pub HoldsRedo-prop : (redo : Option RedoValue) (image : Image) → IsProp (HoldsRedo redo image)
HoldsRedo-prop None image = hlevel props
HoldsRedo-prop (Some redo) image = hlevel step_props

ruleset redo_props = (props, HoldsRedo-prop)

pub HoldsLog-prop : (log : Option (Option RedoValue)) (known : Option Image) → IsProp (HoldsLog log known)
HoldsLog-prop None known = hlevel props
HoldsLog-prop (Some redo) known = hlevel redo_props

pub ruleset shelf_props = (props, Awaits-prop, HoldsLog-prop)
