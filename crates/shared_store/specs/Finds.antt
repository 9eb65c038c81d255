-- What the needs of a question find in the classes, before anything of it is copied.
use Rattle.std.specs.Prelude.{◌≡◌, ℕ, ◌<◌, List, get_or, length, map}
use Rattle.carbon_history.specs.declared.entry.Entry.{Entry}
use Rattle.render_need.specs.declared.need.Need.{Need}
use Rattle.shared_store.specs.Asking.{IsDeskOf}
use Rattle.shared_store.specs.Desks.{DeskValue}

-- whose metrics they are, and which need found them
pub record ClassFindsValue : Type 0 where
  pub desk : DeskValue
  pub need : Need

-- what a need found in the classes
pub record NeedFindsValue : Type 0 where
  pub need : Need
  pub classes : List ClassFindsValue

-- what was found in a class, by a need, where the class has the entries about it of this history
pub record IsFindOf (k : ℕ) (history : List Entry) (need : Need) (finds : ClassFindsValue) : Type 0 where
  pub desk : IsDeskOf k history finds.desk
  pub same : finds.need ≡ need

-- the need found these in the sixteen classes, in their order
pub record AreFindsOf (history : List Entry) (finds : NeedFindsValue) : Type 0 where
  pub sixteen : length finds.classes ≡ 16
  pub each : (k : ℕ) (d : ClassFindsValue) → k < length finds.classes → IsFindOf k history finds.need (get_or finds.classes k d)

-- the needs, in order
abbrev pub needs_in : List NeedFindsValue → List Need
needs_in finds = map (λ f. f.need) finds
