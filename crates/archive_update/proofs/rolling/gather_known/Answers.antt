use Rattle.std.proofs.Common.{◌≤◌, ◌∙◌, ◌∷◌, ◌++◌, ℤ, List, [], Option, ap, drop, length, subst, sym}
use Rattle.std.specs.List.{filter_map}
use Rattle.archive_update.specs.Batch.{itself}
use Rattle.archive_update.specs.Rolled.{known_from}
use Rattle.archive_update.proofs.KnownLemmas.{known_all, known_few, known_more}
use Rattle.archive_update.proofs.rolling.gather_known.Goals as goal

pub loop-value-preserved : goal.loop-value-preserved
loop-value-preserved c =
    known_more c.loop-value.known.items _ c.part_of-part.result.now c.loop-value.value-index c.value-item.result c.loop-value-test.true c.loop-value.invariant
    (c.in_ok-push_known.ensures ∙ ap (λ (v : Option ℤ). c.loop-value.known.items ++ filter_map itself (v ∷ [])) c.value-item.is)

pub returns-clause-value : goal.returns-clause-value
unfolding known_from
returns-clause-value c = known_all c.loop-value.known.items c.part_of-part.result.now c.args.values.now c.loop-value.value-index c.args.at c.args.places c.loop-value-test.false c.loop-value.invariant c.part_of-part.ensures

pub returns-clause-few : goal.returns-clause-few
returns-clause-few c =
    subst (λ (known : List ℤ). length known ≤ c.args.places)
    (sym (known_all c.loop-value.known.items c.part_of-part.result.now c.args.values.now c.loop-value.value-index c.args.at c.args.places c.loop-value-test.false c.loop-value.invariant c.part_of-part.ensures))
    (known_few c.args.places (drop c.args.at c.args.values.now))
