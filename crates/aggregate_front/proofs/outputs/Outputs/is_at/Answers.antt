use Rattle.std.proofs.Common.{◌∙◌, sym}
use Rattle.aggregate_front.proofs.PlaceLemmas.{stands_at}
use Rattle.aggregate_front.proofs.outputs.Outputs.is_at.Goals as goal

pub returns-in-Some : goal.returns-in-Some
returns-in-Some c = λ same.
    rw (sym c.self.view_is)
    (stands_at c.self.inside.entries.entries c.args.place c.args.key.now c.in-Some.other.now c.in-Some.field-0-1.now c.len.ensures.unique (sym c.in-Some.ensures.entry) (sym c.eq.ensures ∙ same))
