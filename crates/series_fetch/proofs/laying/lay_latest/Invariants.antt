use Rattle.std.proofs.Common.{◌≡◌, ℕ, ◌+◌, ◌*◌, ◌<◌, ◌≤◌, None, length, get_or}
use Rattle.series_fetch.specs.Cut.{IsCut}
use Rattle.series_fetch.specs.Shown.{shown_in}
use Rattle.series_fetch.proofs.laying.lay_latest.Given as goal

abbrev pub invariant-loop-k : goal.invariant-loop-k
invariant-loop-k l = record {
  place : l.limit ≡ l.fn.first + l.k * l.fn.step;
  all : length l.values ≡ length l.fn.values;
  cut : IsCut l.points l.limit l.at;
  done : (j : ℕ) → j < l.k → get_or l.values j None ≡ shown_in l.fn.layout (λ _ _. get_or l.fn.values j None) l.fn.points 0 l.fn.step (l.fn.first + j * l.fn.step);
  rest : (j : ℕ) → l.k ≤ j → get_or l.values j None ≡ get_or l.fn.values j None;
}
