use Rattle.std.proofs.Common.{◌∙◌, ◌≡◌, ap, codes}
use Rattle.std.proofs.lemmas.Result.{IfOk-weaker}
use Rattle.clap.specs.Simple.{app_of, app_of_fields, new_app}
use Rattle.carbon_words.specs.CommandLine.{command_app, without_help}
use Rattle.carbon_words.proofs.AppLemmas.{flag_added, option_added}
use Rattle.carbon_words.proofs.app.command.Goals as goal

pub returns : goal.returns
unfolding command_app
returns c =
    let start : app_of c.disable_help_flag.result ≡ without_help (new_app c.args.name.now) =
    ap app_of_fields c.disable_help_flag.ensures ∙ ap without_help c.new.ensures.app in
    let limit = option_added (codes "limit") _ _ _ _ c.in_ok-arg.ensures c.option.ensures.local c.option.ensures.rule start in
    let order = option_added (codes "order") _ _ _ _ c.in_ok-arg-2.ensures c.option-2.ensures.local c.option-2.ensures.rule limit in
    IfOk-weaker c.arg-3.result _ _
    (λ r added. flag_added (codes "redo") _ _ _ _ added c.flag.ensures.local c.flag.ensures.rule order) c.arg-3.ensures
