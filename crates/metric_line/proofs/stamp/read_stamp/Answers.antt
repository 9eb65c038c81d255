use Rattle.std.proofs.Common.{◌∙◌}
use Rattle.metric_line.proofs.StampLemmas.{stamp_of_whole}
use Rattle.metric_line.proofs.stamp.read_stamp.Goals as goal

pub returns-in-Some-clause-moment : goal.returns-in-Some-clause-moment
returns-in-Some-clause-moment c =
    c.moment.ensures.moment ∙ stamp_of_whole c.args.text.now c.args.now c.in-Some.seconds c.in-Some.ensures
