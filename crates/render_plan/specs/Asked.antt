-- What a plan keeps of a query.
use Rattle.std.specs.Prelude.{List, map}
use Rattle.render_plan.specs.declared.settings.Settings.{Settings}
use Rattle.render_plan.specs.declared.target.Target.{Target}
use Rattle.render_plan.specs.Planned.{Plan, plan_of}
use Rattle.render_plan.specs.Terms.{term_of}

-- targets that were checked, and the other parameters
pub record Asked : Type 0 where
  pub targets : List Target
  pub settings : Settings

-- what they ask
abbrev pub plan_seen : Asked → Plan
plan_seen asked = plan_of (map term_of asked.targets) asked.settings
