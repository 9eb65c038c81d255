use Rattle.std.proofs.Common.{◌≡◌, rules}
use Rattle.std.proofs.lemmas.Iterator.{IsFirst-from_position, YieldsList-from_slice}
use Rattle.metric_table.proofs.TableLemmas.{first_is}
use Rattle.metric_table.proofs.layout_list.place_of.Goals as goal

pub returns : goal.returns
returns c =
    first_is c.args.layouts.now c.args.layout.now c.position.result
    (IsFirst-from_position _ _ c.position.result (λ y. y ≡ c.args.layout.now) (λ _. Unit) c.position.ensures.ran (YieldsList-from_slice c.args.layouts.now c.iter.ensures.rest)
    (λ x q k. search rules) (λ x q k. (search rules, tt)))
