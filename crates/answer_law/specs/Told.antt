-- Where what a state keeps is known.
use Rattle.std.specs.Prelude.{◌≡◌, ◌⊎◌, ◌<◌, ℕ, List, Option, None, IsSome}
use Rattle.outside_io.specs.Image.{Image}
use Rattle.metric_path.specs.Class.{class_of}
use Rattle.carbon_model.specs.State.{State}
use Rattle.render_need.specs.declared.need.Need.{Need}
use Rattle.found_rows.specs.Rows.{IsFoundBy}

-- What is kept of a metric is known: the disk of its class told at the opening what it held, or nothing is kept of it.
abbrev pub IsTold : (ℕ → Option Image) → State → List ℕ → Type 0
IsTold told s path = IsSome (told (class_of path)) ⊎ (s.kept path ≡ None)

-- so it is of each metric that some need finds
abbrev pub AreTold : (ℕ → Option Image) → State → ℕ → List Need → Type 0
AreTold told s now needs = (path : List ℕ) → IsFoundBy s now needs path → IsTold told s path

-- The disks of all classes told at the opening what they held. Then all that is kept is known.
abbrev pub AllTold : (ℕ → Option Image) → Type 0
AllTold told = (class : ℕ) → class < 16 → IsSome (told class)
