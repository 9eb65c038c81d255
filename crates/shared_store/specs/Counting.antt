-- How much the needs of a question find, before anything of it is copied.
use Rattle.std.specs.Prelude.{◌≡◌, ◌↔◌, ℕ, ◌+◌, ◌<◌, Contains, List, length}
use Rattle.std.specs.List.Sorted.{IsStrictlySortedBy}
use Rattle.std.specs.Ordering.{nat_cmp}
use Rattle.std.specs.Cmp.Lexicographic.{slice_cmp}
use Rattle.metric_path.specs.Class.{class_of}
use Rattle.carbon_model.specs.State.{State}
use Rattle.carbon_model.specs.Found.{IsKnown}
use Rattle.shard_core.specs.declared.looked.LookCount.{LookCount}
use Rattle.render_need.specs.declared.need.Need.{Need}
use Rattle.found_rows.specs.Rows.{FindsAll, FindsOf, IsAsked, series_count, value_count_all, value_count_of}

-- two counts in one
pub record SumsUp (one other both : LookCount) : Type 0 where
  pub series : both.series ≡ one.series + other.series
  pub values : both.values ≡ one.values + other.values

-- so many metrics, with so many values, are found by a need among those of all classes below one
pub record CountsBelow (class : ℕ) (s : State) (now : ℕ) (need : Need)
    (count : LookCount) : Type 0 where
  pub paths : List (List ℕ)
  pub in_order : IsStrictlySortedBy (slice_cmp nat_cmp) paths
  pub found : (path : List ℕ) → Contains paths path
      ↔ ((class_of path < class) × (IsAsked s now need path × IsKnown s path))
  pub series : count.series ≡ length paths
  pub values : count.values ≡ value_count_of s now need paths

-- the same among all
pub record CountsNeed (s : State) (now : ℕ) (need : Need) (count : LookCount) : Type 0 where
  pub paths : List (List ℕ)
  pub finds : FindsOf s now need paths
  pub series : count.series ≡ length paths
  pub values : count.values ≡ value_count_of s now need paths

-- the same of all needs
pub record CountsNeeds (s : State) (now : ℕ) (needs : List Need) (count : LookCount) : Type 0 where
  pub found : List (List (List ℕ))
  pub finds : FindsAll s now needs found
  pub series : count.series ≡ series_count found
  pub values : count.values ≡ value_count_all s now needs found
