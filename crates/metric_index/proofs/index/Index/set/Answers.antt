use Rattle.std.proofs.Common.{◌≡◌, Bool, true, false, Option, Some, subst, sym, ap, ◌∙◌}
use Rattle.std.specs.Option.{IsSome, option_copied_mut}
use Rattle.metric_index.proofs.IndexLemmas.{known_here, sets_from_updates}
use Rattle.metric_index.proofs.index.Index.set.Goals as goal

pub unreachable-requires : goal.unreachable-requires
unreachable-requires g c =
    let none = ap option_copied_mut (sym c.in_default.is) ∙ c.get_mut.ensures.value in
    let some : ◌≡◌ {A = Bool} false true = subst (λ (o : Option _). IsSome o) (sym none) (known_here c.self.inside.entries c.args.self.now c.args.path.now c.self.view_is c.requires) in
    absurd cc

pub returns : goal.returns
returns g c =
    let known = known_here c.self.inside.entries c.args.self.now c.args.path.now c.self.view_is c.requires in
    sets_from_updates c.self.inside.entries (c.get_mut.follows.lender c.args.entry) c.args.self.now c.args.path.now (Some c.args.entry) c.self.view_is ((c.get_mut.follows.holds c.args.entry).3 known)
