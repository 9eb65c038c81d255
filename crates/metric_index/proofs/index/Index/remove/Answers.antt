use Rattle.std.proofs.Common.{◌≡◌, None}
use Rattle.std.specs.BTreeMap.{is_at}
use Rattle.std.proofs.lemmas.Map.Views.{All-map-remove_entry}
use Rattle.metric_path.specs.Path.{path_fault}
use Rattle.metric_index.proofs.IndexLemmas.{order, sets_from_updates}
use Rattle.metric_index.proofs.index.Index.remove.Goals as goal

pub invariant_of-self : goal.invariant_of-self
invariant_of-self g c =
    rw c.remove.ensures.entries (All-map-remove_entry (is_at (order c.args.path.now)) (λ e. e.0) (λ path. path_fault path ≡ None) c.self.inside.entries.entries c.self.invariant)

pub returns : goal.returns
returns g c = sets_from_updates c.self.inside.entries c.remove.new.self c.args.self.now c.args.path.now None c.self.view_is c.remove.ensures.updates
