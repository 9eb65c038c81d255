use Rattle.std.proofs.Common.{subst, sym, Option}
use Rattle.outside_io.specs.Image.{Image, WhereKnown}
use Rattle.redo_log.specs.Recovery.{LaysAll, OpensAs}
use Rattle.redo_log.proofs.RecoverLemmas.{close_lays, close_leaves, close_opens, close_synced}
use Rattle.redo_log.proofs.recovery.close_gate.Goals as goal

pub returns-in-Err-clause-ends : goal.returns-in-Err-clause-ends
returns-in-Err-clause-ends g c = close_opens _ _ _ c.requires.held (λ x y torn. torn.1) c.in-Err.ensures.err

pub returns-in-Err-clause-leaves : goal.returns-in-Err-clause-leaves
returns-in-Err-clause-leaves g c = close_leaves g.D.Disk c.args.disk.now c.set_gate.new.disk c.requires.held c.requires.settled c.set_gate.ensures.crash c.set_gate.ensures.frame

pub returns-in-Ok-sync_disk-clause-ends : goal.returns-in-Ok-sync_disk-clause-ends
returns-in-Ok-sync_disk-clause-ends g c =
    subst (λ (o : Option Image). WhereKnown (g.D.Disk.image c.args.disk.now) o LaysAll) (sym c.sync_disk.ensures.kept) (close_lays _ _ c.requires.held c.in-Ok.ensures.ok)

pub returns-in-Ok-sync_disk-clause-leaves : goal.returns-in-Ok-sync_disk-clause-leaves
returns-in-Ok-sync_disk-clause-leaves g c =
    close_synced g.D.Disk c.args.disk.now c.set_gate.new.disk c.sync_disk.new.disk c.requires.held c.requires.settled c.set_gate.ensures.crash c.set_gate.ensures.frame c.sync_disk.ensures.crash c.sync_disk.ensures.frame

pub returns-in-Err-sync_disk-clause-ends : goal.returns-in-Err-sync_disk-clause-ends
returns-in-Err-sync_disk-clause-ends g c =
    subst (λ (o : Option Image). WhereKnown (g.D.Disk.image c.args.disk.now) o OpensAs) (sym c.sync_disk.ensures.kept) (close_opens _ _ _ c.requires.held (λ x y put. put.1) c.in-Ok.ensures.ok)

pub returns-in-Err-sync_disk-clause-leaves : goal.returns-in-Err-sync_disk-clause-leaves
returns-in-Err-sync_disk-clause-leaves g c =
    close_synced g.D.Disk c.args.disk.now c.set_gate.new.disk c.sync_disk.new.disk c.requires.held c.requires.settled c.set_gate.ensures.crash c.set_gate.ensures.frame c.sync_disk.ensures.crash c.sync_disk.ensures.frame
