use Rattle.std.proofs.Common.{◌≡◌, ℕ, List, None, All, subst}
use Rattle.std.specs.List.Sorted.{IsStrictlySortedBy}
use Rattle.metric_path.specs.Path.{path_fault}
use Rattle.metric_index.specs.Index.{paths_of}
use Rattle.metric_index.proofs.IndexLemmas.{order}
use Rattle.metric_index.proofs.index.Index.len.Goals as goal

pub returns-clause-rising : goal.returns-clause-rising
returns-clause-rising g c = subst (λ (es : List (List ℕ × _)). IsStrictlySortedBy order (paths_of es)) c.self.view_is c.len.ensures.ordered

pub returns-clause-legal : goal.returns-clause-legal
returns-clause-legal g c = subst (λ (es : List (List ℕ × _)). All (λ path. path_fault path ≡ None) (paths_of es)) c.self.view_is c.self.invariant
