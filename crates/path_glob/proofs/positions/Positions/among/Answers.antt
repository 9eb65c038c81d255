use Rattle.std.proofs.Common.{arith}
use Rattle.path_glob.proofs.BitLemmas.{both_four}
use Rattle.path_glob.proofs.positions.Positions.among.Goals as goal

pub returns : goal.returns
returns c = λ j small. both_four c.args.self.words c.args.others.words j (omega (arith, small))
