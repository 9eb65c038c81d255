-- Commands of `clap`, step by step.
use Rattle.std.proofs.Common.{◌∙◌, ◌≡◌, ap, ap₂, false, true}
use Rattle.clap.specs.Words.{AddsArg, AddsSubcommand, App, Text, app_of, rule_of, with_rule, with_subcommand}
use Rattle.clap.specs.declared.builder.Arg.{Arg}
use Rattle.clap.specs.declared.builder.Command.{Command}
use Rattle.clap.proofs.SimpleLemmas.{plain_fields}
use Rattle.carbon_words.specs.CommandLine.{flag_rule, number_rule, option_rule, repeatable_rule, with_flag, with_number, with_option, with_repeatable}

-- a command with an option more
pub option_added : (name : Text) (arg : Arg) (old new : Command) (app : App) → AddsArg old arg new → arg.global ≡ false
    → rule_of arg ≡ option_rule name → app_of old ≡ app → app_of new ≡ with_option name app
option_added name arg old new app added local rule before = added.shape local ∙ ap₂ with_rule before rule

-- a command with an option more that stands alone
pub flag_added : (name : Text) (arg : Arg) (old new : Command) (app : App) → AddsArg old arg new → arg.global ≡ false
    → rule_of arg ≡ flag_rule name → app_of old ≡ app → app_of new ≡ with_flag name app
flag_added name arg old new app added local rule before = added.shape local ∙ ap₂ with_rule before rule

-- a command with an option more that may be given several times
pub repeatable_added : (name : Text) (arg : Arg) (old new : Command) (app : App) → AddsArg old arg new → arg.global ≡ false
    → rule_of arg ≡ repeatable_rule name → app_of old ≡ app → app_of new ≡ with_repeatable name app
repeatable_added name arg old new app added local rule before = added.shape local ∙ ap₂ with_rule before rule

-- a command with a number more
pub number_added : (name : Text) (arg : Arg) (old new : Command) (app : App) → AddsArg old arg new → arg.global ≡ false
    → rule_of arg ≡ number_rule name → app_of old ≡ app → app_of new ≡ with_number name app
number_added name arg old new app added local rule before = added.shape local ∙ ap₂ with_rule before rule

-- a command with a subcommand more, which has no global argument
pub subcommand_added : (old sub new : Command) (app below : App) → AddsSubcommand old sub new → below.top.is_plain ≡ true
    → app_of sub ≡ below → app_of old ≡ app → app_of new ≡ with_subcommand app below.top
subcommand_added old sub new app below added plain is before =
    let local = (plain_fields sub (ap (λ (a : App). a.top.is_plain) is ∙ plain)).globals in
    added.shape local ∙ ap₂ with_subcommand before (ap (λ (a : App). a.top) is)
