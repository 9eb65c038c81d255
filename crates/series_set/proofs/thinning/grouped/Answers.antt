use Rattle.series_set.proofs.GroupLemmas.{grouped_is}
use Rattle.series_set.proofs.thinning.grouped.Goals as goal

pub from_legal-requires : goal.from_legal-requires
from_legal-requires c =
    let is = grouped_is c.args.size c.args.series.now c.requires.some c.requires.few c.requires.early c.values.ensures.legal in
    rw (c.start.ensures, c.step.ensures.value, c.in_ok-values.ensures, c.values.ensures.value) (record { some = is.some; few = is.few; early = is.early })
