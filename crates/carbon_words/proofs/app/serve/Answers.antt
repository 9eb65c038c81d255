use Rattle.std.proofs.Common.{codes}
use Rattle.std.proofs.lemmas.Result.{IfOk-weaker}
use Rattle.carbon_words.specs.CommandLine.{serve_app}
use Rattle.carbon_words.proofs.AppLemmas.{option_added, repeatable_added}
use Rattle.carbon_words.proofs.app.serve.Goals as goal

pub returns : goal.returns
unfolding serve_app
returns c =
    let lines = option_added (codes "line-port") _ _ _ _ c.in_ok-arg.ensures c.option.ensures.local c.option.ensures.rule c.in_ok-command.ensures in
    let http = option_added (codes "http-port") _ _ _ _ c.in_ok-arg-2.ensures c.option-2.ensures.local c.option-2.ensures.rule lines in
    let receivers = option_added (codes "receivers") _ _ _ _ c.in_ok-arg-3.ensures c.option-3.ensures.local c.option-3.ensures.rule http in
    let renderers = option_added (codes "renderers") _ _ _ _ c.in_ok-arg-4.ensures c.option-4.ensures.local c.option-4.ensures.rule receivers in
    let patience = option_added (codes "line-patience") _ _ _ _ c.in_ok-arg-5.ensures c.option-5.ensures.local c.option-5.ensures.rule renderers in
    let links = option_added (codes "links") _ _ _ _ c.in_ok-arg-6.ensures c.option-6.ensures.local c.option-6.ensures.rule patience in
    let bytes = option_added (codes "answer-bytes") _ _ _ _ c.in_ok-arg-7.ensures c.option-7.ensures.local c.option-7.ensures.rule links in
    let drainers = option_added (codes "drainers") _ _ _ _ c.in_ok-arg-8.ensures c.option-8.ensures.local c.option-8.ensures.rule bytes in
    let pace = option_added (codes "pace") _ _ _ _ c.in_ok-arg-9.ensures c.option-9.ensures.local c.option-9.ensures.rule drainers in
    let creates = option_added (codes "creates") _ _ _ _ c.in_ok-arg-10.ensures c.option-10.ensures.local c.option-10.ensures.rule pace in
    let hosts = repeatable_added (codes "line-host") _ _ _ _ c.in_ok-arg-11.ensures c.repeatable.ensures.local c.repeatable.ensures.rule creates in
    IfOk-weaker c.arg-12.result _ _
    (λ r added. repeatable_added (codes "http-host") _ _ _ _ added c.repeatable-2.ensures.local c.repeatable-2.ensures.rule hosts) c.arg-12.ensures
