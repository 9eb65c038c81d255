use Rattle.std.proofs.Common.{refl, subst, sym}
use Rattle.shared_history.specs.Parts.{IsNewPass}
use Rattle.carbon_script.proofs.SessionLemmas.{means_opening}
use Rattle.carbon_script.proofs.session.Session.new.Goals as goal

pub returns : goal.returns
returns g c =
    means_opening g.N.Named.table g.N.Named.start _ (subst (λ p. IsNewPass g.N.Named.table 0 p) (sym c.new.ensures) c.requires.new) refl c.none.ensures
