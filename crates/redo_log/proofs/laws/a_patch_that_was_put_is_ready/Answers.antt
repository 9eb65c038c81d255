use Rattle.redo_log.proofs.ReadyLemmas.{put_ready}
use Rattle.redo_log.proofs.laws.a_patch_that_was_put_is_ready.Goals as goal

pub returns : goal.returns
returns c = put_ready
