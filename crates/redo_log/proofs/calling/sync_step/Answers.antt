use Rattle.redo_log.proofs.StepLemmas.{not_synced, sync_leads, synced}
use Rattle.redo_log.proofs.CrashRows.{not_synced_row, sound_named, sync_fits, synced_row}
use Rattle.redo_log.proofs.calling.sync_step.Goals as goal

pub is_sound-requires : goal.is_sound-requires
is_sound-requires g c = sync_fits c.args.shelf.now c.args.now c.args.behind c.patch_of.result.now c.requires.some c.requires.step c.requires.written c.patch_of.ensures

pub returns-in-Ok-clause-ends : goal.returns-in-Ok-clause-ends
returns-in-Ok-clause-ends g c = (
  synced c.args.shelf.now c.args.name.now c.args.now c.args.behind _ _ c.requires.step c.requires.ready c.sync_disk.ensures.kept,
  sync_leads c.args.shelf.now c.args.now c.args.behind c.requires.step c.requires.written,
)

pub returns-in-Err-clause-ends : goal.returns-in-Err-clause-ends
returns-in-Err-clause-ends g c = not_synced c.args.shelf.now c.args.name.now c.args.now c.args.behind _ _ c.requires.step c.requires.ready c.sync_disk.ensures.kept

pub returns-in-Ok-clause-row : goal.returns-in-Ok-clause-row
returns-in-Ok-clause-row g c = λ row. synced_row c.args.shelf.now c.args.name.now c.args.now c.args.behind _ _ _ c.requires.some (sound_named c.args.shelf.now c.args.name.now c.patch_of.result.now c.patch_of.ensures c.is_sound.ensures c.requires.named) c.requires.step c.requires.ready c.sync_disk.ensures.kept c.in-Ok.ensures.durable

pub returns-in-Err-clause-row : goal.returns-in-Err-clause-row
returns-in-Err-clause-row g c = λ row. not_synced_row c.args.shelf.now c.args.name.now c.args.now _ _ _ _ c.requires.some c.sync_disk.ensures.kept c.sync_disk.ensures.crash row
