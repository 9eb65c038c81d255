use Rattle.std.proofs.Common.{List, subst, length}
use Rattle.path_glob.specs.Glob.{Simple, SomeCovers}
use Rattle.path_glob.specs.Positions.{Leads, held}
use Rattle.path_glob.specs.States.{rows_of}
use Rattle.path_glob.proofs.TableLemmas.{fits_words, rows_leads, same_words}
use Rattle.path_glob.proofs.automaton.Automaton.after.Goals as goal

pub after-requires-clause-sized : goal.after-requires-clause-sized
after-requires-clause-sized c = fits_words (rows_of c.self.inside.rows) c.self.inside.tables (length c.self.inside.active) c.self.invariant.0

pub returns-clause-leads : goal.returns-clause-leads
returns-clause-leads c =
    subst (λ (rows : List (List Simple)). Leads (SomeCovers rows) c.args.node.now (held c.args.start) (held c.after.result)) c.self.view_is
    (rows_leads (rows_of c.self.inside.rows) c.self.inside.tables (length c.self.inside.active) c.args.node.now (held c.args.start) (held c.after.result) c.self.invariant.0 c.after.ensures.leads)

pub invariant_of-self : goal.invariant_of-self
invariant_of-self c = (same_words (rows_of c.self.inside.rows) c.self.inside.tables (length c.self.inside.active) (length c.after.new.active) c.after.ensures.room c.self.invariant.0, c.after.ensures.known)
