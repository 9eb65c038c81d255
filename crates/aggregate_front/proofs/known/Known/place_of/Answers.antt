use Rattle.std.proofs.Common.{◌∙◌, sym}
use Rattle.aggregate_front.proofs.KnownLemmas.{known_at}
use Rattle.aggregate_front.proofs.known.Known.place_of.Goals as goal

pub returns-in-Some-clause-place : goal.returns-in-Some-clause-place
returns-in-Some-clause-place c =
    let knows = rw (sym c.self.view_is) at c.requires in
    rw (sym c.self.view_is) (known_at c.args.rules.now c.self.inside.paths.entries c.args.path.now c.in-Some.place knows (sym c.get_index_of.ensures.index ∙ c.in-Some.is))
