-- What the sources of a sample have left.
use Rattle.std.specs.Prelude.{ℕ, List, ◌++◌}
use Rattle.sample_text.specs.Sample.{points_text}

-- what is left of the lines that were made last, where the generator stands, and how many metric lines are to be made, from the one with this number on
pub record SampleState : Type 0 where
  pub rest : List ℕ
  pub seed : ℕ
  pub number : ℕ
  pub todo : ℕ

abbrev pub left_of : SampleState → List ℕ
left_of state = state.rest ++ points_text state.seed state.number state.todo
