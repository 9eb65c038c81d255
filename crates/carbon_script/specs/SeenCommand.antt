-- The command that the code's own is seen as.
use Rattle.std.specs.Prelude.{◌≡◌, true}
use Rattle.fixed_num.specs.Moment.{is_moment}
use Rattle.metric_line.specs.Seen.{seen}
use Rattle.carbon_script.specs.Command.{Command, Metric, Refused, Long, Clock, Ask, Plan, Write, DrainAll, Bad}
use Rattle.carbon_script.specs.declared.command.Command.{Command as Read}
use Rattle.carbon_script.specs.declared.command.Command.TheVariants as read

abbrev pub seen_command : Read → Command
seen_command (read.Metric datum) = Metric (seen datum)
seen_command (read.Refused fault) = Refused fault
seen_command read.Long = Long
seen_command (read.Clock moment) = Clock moment
seen_command (read.Ask query) = Ask query.now
seen_command read.Plan = Plan
seen_command read.Write = Write
seen_command read.DrainAll = DrainAll
seen_command read.Bad = Bad

-- the clock is set to a legal moment
abbrev pub IsSound : Read → Type 0
IsSound (read.Metric datum) = Unit {0}
IsSound (read.Refused fault) = Unit {0}
IsSound read.Long = Unit {0}
IsSound (read.Clock moment) = is_moment moment ≡ true
IsSound (read.Ask query) = Unit {0}
IsSound read.Plan = Unit {0}
IsSound read.Write = Unit {0}
IsSound read.DrainAll = Unit {0}
IsSound read.Bad = Unit {0}
