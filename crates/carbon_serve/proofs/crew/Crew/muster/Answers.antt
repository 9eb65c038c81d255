use Rattle.std.proofs.Common.{◌≡◌, ◌-◌, [], false, refl, sym, subst, arith, vec_len, vec_capacity}
use Rattle.std.specs.Prelude.{All}
use Rattle.shared_history.specs.Parts.{PassValue}
use Rattle.carbon_serve.specs.Crews.{CrewValue, MusterValue, Musters, in_order}
use Rattle.carbon_serve.proofs.MusterLemmas.{mustered}
use Rattle.carbon_serve.proofs.OrderLemmas.{all_ready, none_there, reversed_few}
use Rattle.carbon_serve.proofs.crew.Crew.muster.Goals as goal

pub add_workers-requires-clause-ready : goal.add_workers-requires-clause-ready
add_workers-requires-clause-ready g c =
    all_ready g.N.Named.table c.self.inside.workers.items
    (subst (λ (crew : CrewValue). All (λ (pass : PassValue). pass.table ≡ g.N.Named.table) crew.served) (sym c.self.view_is) c.requires.one)

pub returns-clause-musters : goal.returns-clause-musters
returns-clause-musters g c =
    let first : MusterValue =
    record { served = c.self.inside.places.items; own = c.new.result; is_spent = false; places = vec_capacity c.self.inside.places - vec_len c.self.inside.places } in
    let none : c.self.inside.places.items ≡ [] = none_there c.self.inside.places.items (omega (arith, c.self.invariant.1.0, c.self.inside.places.ok.0)) in
    subst (λ (crew : CrewValue). Musters crew.served crew.own c.add_workers.new.self) c.self.view_is
    (mustered (in_order c.self.inside.workers.items) c.self.inside.own first c.add_workers.new.self none c.new.ensures refl c.add_workers.ensures)

pub returns-clause-places : goal.returns-clause-places
returns-clause-places g c =
    omega (arith, c.add_workers.ensures.places, reversed_few c.self.inside.workers.items, c.self.invariant.1.0, c.self.invariant.1.1.0, c.self.inside.workers.ok.0)
