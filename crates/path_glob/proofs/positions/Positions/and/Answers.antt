use Rattle.std.proofs.Common.{arith}
use Rattle.path_glob.proofs.BitLemmas.{added_held, others_held}
use Rattle.path_glob.proofs.positions.Positions.and.Goals as goal

pub returns-clause-added : goal.returns-clause-added
returns-clause-added c = added_held c.args.self.words c.args.place (omega (arith, c.requires))

pub returns-clause-others : goal.returns-clause-others
returns-clause-others c = λ j other. others_held c.args.self.words c.args.place j (omega (arith, c.requires)) other
