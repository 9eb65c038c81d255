use Rattle.std.proofs.lemmas.Slice.Eq.{slice_eq-Decides}
use Rattle.shard_core.proofs.SteppingLemmas.{same_point}
use Rattle.shard_core.proofs.stepping.has_same_points.Goals as goal

pub returns : goal.returns
returns c = slice_eq-Decides same_point c.args.one.now c.args.other.now c.eq.result c.eq.ensures
