-- The ends of a need.
use Rattle.std.specs.Prelude.{◌≤◌}
use Rattle.time_range.specs.SpanOf.{latest}
use Rattle.render_need.specs.declared.need.Need.{Need}

-- moments that are in order and not too late
pub record AreEnds (need : Need) : Type 0 where
  pub order : need.from ≤ need.until
  pub early : need.until ≤ latest
