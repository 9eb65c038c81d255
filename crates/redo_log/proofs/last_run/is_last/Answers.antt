use Rattle.redo_log.proofs.LastLemmas.{shelf_last}
use Rattle.redo_log.proofs.last_run.is_last.Goals as goal

pub returns-clause-last : goal.returns-clause-last
returns-clause-last c = shelf_last c.args.shelf.now c.in-Some.run' c.patch_of.result.now c.ends_with.result c.in-Some.ensures.value c.in-Some.ensures.begun c.in-Some.ensures.sound c.in-Some.ensures.turn c.patch_of.ensures c.ends_with.ensures.value c.ends_with.ensures.rise
