use Rattle.line_front.proofs.StoreLemmas.{last_of_table}
use Rattle.front_tests.proofs.line_front_tests.run_store.Goals as goal

pub new-pass-requires : goal.new-pass-requires
new-pass-requires g c = last_of_table g.N.Named.table c.args.passes.items c.pop.new.self.items c.in-Some.pass c.requires.new c.in-Some.ensures.items
