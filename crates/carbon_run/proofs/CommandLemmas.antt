-- Runs of a command whose rule files say rules.
use Rattle.std.proofs.Common.{◌≡◌, inr, List, Option, Some, Ok, subst, sym}
use Rattle.std.specs.Prelude.{IfSome}
use Rattle.outside_io.specs.declared.disk.Disk.{Ghosts}
use Rattle.schema_rules.specs.RulesOf.{RulesValue}
use Rattle.aggregate_rules.specs.RuleTexts.{RuleValue}
use Rattle.carbon_words.specs.declared.command.Command.{Command}
use Rattle.carbon_run.specs.Commands.{Beside, Does, Outcome}
use Rattle.carbon_run.specs.Conf.{agg_rules_in, rules_in}
use Rattle.carbon_run.specs.Runs.{Answer, ReadsAgg, Streams}

-- the command that the words say is done by the rules that were read for it
pub done_by_rules : {D E L : Type 0} (d : Ghosts D) (b : Beside E L) (said : Option Command) (command : Command) (rules : RulesValue) (agg : List RuleValue) (folder folder' : D) (streams : Streams) (given : List D) (answer : Answer D)
    → said ≡ Some command → IfSome (d.image folder) (λ image. rules_in image ≡ Ok rules)
    → (ReadsAgg command → IfSome (d.image folder) (λ image. agg_rules_in image ≡ Ok agg))
    → Does d b rules agg command streams given answer
    → IfSome said (λ command. Outcome d b command folder folder' streams given answer)
done_by_rules d b said command rules agg folder folder' streams given answer is read gathers does =
    subst (λ (o : Option Command). IfSome o (λ (command : Command). Outcome d b command folder folder' streams given answer)) (sym is)
    (inr (inr (record { rules = rules; read = read; agg = agg; gathers = gathers; does = does })))
