use Rattle.redo_log.proofs.BodyLaws.{one_patch}
use Rattle.redo_log.proofs.laws.a_body_has_one_patch.Goals as goal

pub returns : goal.returns
returns c = one_patch
