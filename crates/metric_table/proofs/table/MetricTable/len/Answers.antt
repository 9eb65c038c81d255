use Rattle.std.proofs.Common.{◌≡◌, ℕ, List, None, All, subst}
use Rattle.std.specs.Cmp.Lexicographic.{slice_cmp}
use Rattle.std.specs.List.Sorted.{IsStrictlySortedBy}
use Rattle.std.specs.Ordering.{nat_cmp}
use Rattle.metric_path.specs.Path.{path_fault}
use Rattle.metric_table.proofs.TableLemmas.{shown_paths}
use Rattle.metric_table.proofs.table.MetricTable.len.Goals as goal

pub returns-clause-rising : goal.returns-clause-rising
returns-clause-rising c =
    subst (λ (paths : List (List ℕ)). IsStrictlySortedBy (slice_cmp nat_cmp) paths) (shown_paths c.self.inside.layouts c.self.inside.index c.args.self.now c.self.view_is) c.len.ensures.rising

pub returns-clause-legal : goal.returns-clause-legal
returns-clause-legal c =
    subst (λ (paths : List (List ℕ)). All (λ path. path_fault path ≡ None) paths) (shown_paths c.self.inside.layouts c.self.inside.index c.args.self.now c.self.view_is) c.len.ensures.legal
