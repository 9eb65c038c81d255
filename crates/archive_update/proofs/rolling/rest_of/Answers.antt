use Rattle.archive_update.proofs.KnownLemmas.{nothing_past}
use Rattle.archive_update.proofs.rolling.rest_of.Goals as goal

pub returns-then-at-values : goal.returns-then-at-values
returns-then-at-values c = nothing_past c.args.values.now c.args.at c.if-at-values.true
