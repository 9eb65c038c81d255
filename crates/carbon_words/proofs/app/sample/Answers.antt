use Rattle.std.proofs.Common.{codes}
use Rattle.std.proofs.lemmas.Result.{IfOk-weaker}
use Rattle.carbon_words.specs.CommandLine.{sample_app}
use Rattle.carbon_words.proofs.AppLemmas.{number_added}
use Rattle.carbon_words.proofs.app.sample.Goals as goal

pub returns : goal.returns
unfolding sample_app
returns c =
    let start = number_added (codes "start") _ _ _ _ c.in_ok-arg.ensures c.number.ensures.local c.number.ensures.rule c.in_ok-command.ensures in
    IfOk-weaker c.arg-2.result _ _
    (λ r added. number_added (codes "count") _ _ _ _ added c.number-2.ensures.local c.number-2.ensures.rule start) c.arg-2.ensures
