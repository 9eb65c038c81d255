use Rattle.std.proofs.Common.{arith}
use Rattle.std.proofs.lemmas.Bool.{eqb-true}
use Rattle.path_glob.proofs.BitLemmas.{none_of_four}
use Rattle.path_glob.proofs.positions.Positions.is_none.Goals as goal

pub returns : goal.returns
returns c = λ none j small. none_of_four c.args.self.words j (omega (arith, small)) (eqb-true _ 0 none)
