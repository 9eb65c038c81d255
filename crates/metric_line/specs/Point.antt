-- The point that a metric line gives.
use Rattle.std.specs.Prelude.{ℕ, ℤ, List}

-- a point: the path of its metric, its time in seconds since the Unix epoch, and its value in thousandths
pub record Point : Type 0 where
  pub path : List ℕ
  pub time : ℕ
  pub value : ℤ
