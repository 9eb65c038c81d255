-- What a plan that was read keeps.
use Rattle.std.specs.Prelude.{◌≡◌, ◌≤◌, List, IfSome}
use Rattle.render_need.specs.declared.need.Need.{Need}
use Rattle.render_plan.specs.Needed.{needs_of}
use Rattle.render_plan.specs.Planned.{Plan}
use Rattle.render_plan.specs.Sound.{AreSound}
use Rattle.render_plan.specs.Terms.{all_terms}
use Rattle.target_parse.specs.Bytes.{most_depth}

-- its needs, sound targets, ends in order, and a number of values that is not 0
pub record IsReady (plan : Plan) (needs : List Need) : Type 0 where
  pub needed : needs ≡ needs_of plan
  pub sound : AreSound most_depth (all_terms plan.targets)
  pub order : plan.from ≤ plan.until
  pub some : IfSome plan.points (λ points. 1 ≤ points)
