use Rattle.std.proofs.Common.{arith}
use Rattle.path_glob.proofs.BitLemmas.{either_four}
use Rattle.path_glob.proofs.positions.Positions.with.Goals as goal

pub returns : goal.returns
returns c = λ j small. either_four c.args.self.words c.args.others.words j (omega (arith, small))
