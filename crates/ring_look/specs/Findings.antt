-- What is found of a name among the files of a class.
use Rattle.std.specs.Prelude.{◌≡◌, ◌≢◌, ℕ, List, Option, Some, None, IfSome}
use Rattle.outside_io.specs.Image.{Image}
use Rattle.metric_path.specs.Class.{class_of}
use Rattle.metric_path.specs.FileName.{HasFileName}
use Rattle.ring_look.specs.Found.{found_in}
use Rattle.ring_look.specs.declared.finding.Finding.{Finding}
use Rattle.ring_look.specs.declared.finding.Finding.TheVariants.{Foreign, Elsewhere, Here}

-- the name is that of the file of a metric of this class
pub record IsNameOf (class : ℕ) (name : List ℕ) : Type 0 where
  pub path : List ℕ
  pub named : HasFileName (Some path) name
  pub own : class_of path ≡ class

abbrev pub Finds : ℕ → Option Image → List ℕ → Finding → Type 0
Finds class known name Foreign = HasFileName None name
Finds class known name (Elsewhere own) = IsNameOf own name × (own ≢ class)
Finds class known name (Here found) = IsNameOf class name × IfSome known (λ image. found ≡ found_in (image name))
