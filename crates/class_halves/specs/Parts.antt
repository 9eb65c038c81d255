-- What contracts see of a half.
use Rattle.atomic_table.specs.Seated.{TableId}
use Rattle.shared_history.specs.Parts.{TailValue}
use Rattle.class_halves.specs.declared.view.Stand.{Stand}
use Rattle.class_halves.specs.Views.{stand}

-- the table of the two halves, and the stand
pub record HalfValue : Type 0 where
  pub table : TableId
  pub stand : Stand

-- the class as it is now
abbrev pub stand_of : TailValue → Stand
stand_of tail = stand tail.list tail.settled tail.runs

-- the half with another stand
abbrev pub half_with : HalfValue → Stand → HalfValue
half_with half s = record half { stand = s }
