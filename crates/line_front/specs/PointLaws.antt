-- What is put for a link, told apart: the points of its lines, and those that the rules emit for them.
use Rattle.std.specs.Prelude.{◌≡◌, ◌⊎◌, List, [], ◌∷◌}
use Rattle.metric_line.specs.Point.{Point}
use Rattle.aggregate_rules.specs.RuleTexts.{RuleValue}
use Rattle.aggregate_front.specs.Emitting.{emitted, link_limits}
use Rattle.line_front.specs.Points.{points_of_link}

-- all of these are the first ones and the second ones, both in their order
abbrev pub AreBoth : List Point → List Point → List Point → Type 0
AreBoth firsts seconds [] = (firsts ≡ []) × (seconds ≡ [])
AreBoth firsts seconds (point ∷ all) =
    ((more : List Point) × (firsts ≡ point ∷ more) × AreBoth more seconds all) ⊎ ((more : List Point) × (seconds ≡ point ∷ more) × AreBoth firsts more all)

-- What is put for a link that was read to its end are the points of its lines, and beside them what the rules emit for these.
abbrev pub PutsWhatIsEmitted : Type 0
PutsWhatIsEmitted = (rules : List RuleValue) (points : List Point) → AreBoth points (emitted rules link_limits points) (points_of_link rules points)
