use Rattle.std.proofs.Common.{◌∙◌, ◌≡◌, ap, codes, refl, true}
use Rattle.std.proofs.lemmas.Result.{IfOk-weaker}
use Rattle.clap.specs.Simple.{App, app_of, app_of_fields, new_app, on_top}
use Rattle.carbon_words.specs.CommandLine.{carbon, command_app, commands_alone, sample_app, serve_app}
use Rattle.carbon_words.proofs.AppLemmas.{subcommand_added}
use Rattle.carbon_words.proofs.app.carbon.Goals as goal

pub returns : goal.returns
unfolding carbon command_app sample_app serve_app
returns c =
    let new : App = new_app (codes "carbon") in
    let s1 : app_of c.no_binary_name.result ≡ on_top (λ s. record s { no_binary_name = true }) new =
    ap app_of_fields c.no_binary_name.ensures ∙ ap (on_top (λ s. record s { no_binary_name = true })) c.new.ensures.app in
    let s2 : app_of c.disable_help_flag.result ≡ on_top (λ s. record s { no_binary_name = true; disable_help_flag = true }) new =
    ap app_of_fields c.disable_help_flag.ensures ∙ ap (on_top (λ s. record s { disable_help_flag = true })) s1 in
    let s3 : app_of c.disable_help_subcommand.result
    ≡ on_top (λ s. record s { no_binary_name = true; disable_help_flag = true; disable_help_subcommand = true }) new =
    ap app_of_fields c.disable_help_subcommand.ensures ∙ ap (on_top (λ s. record s { disable_help_subcommand = true })) s2 in
    let s4 : app_of c.disable_version_flag.result
    ≡ on_top (λ s. record s { no_binary_name = true; disable_help_flag = true; disable_help_subcommand = true; disable_version_flag = true }) new =
    ap app_of_fields c.disable_version_flag.ensures ∙ ap (on_top (λ s. record s { disable_version_flag = true })) s3 in
    let alone : app_of c.subcommand_required.result ≡ on_top commands_alone new =
    ap app_of_fields c.subcommand_required.ensures ∙ ap (on_top (λ s. record s { subcommand_required = true })) s4 in
    let script = subcommand_added _ _ _ _ (command_app (codes "script")) c.in_ok-subcommand.ensures refl c.in_ok-command.ensures alone in
    let serve = subcommand_added _ _ _ _ serve_app c.in_ok-subcommand-2.ensures refl c.in_ok-serve.ensures script in
    IfOk-weaker c.subcommand-3.result _ _
    (λ r added. subcommand_added _ _ _ _ sample_app added refl c.in_ok-sample.ensures serve) c.subcommand-3.ensures
