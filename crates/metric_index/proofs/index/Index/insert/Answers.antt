use Rattle.std.proofs.Common.{◌≡◌, ℕ, List, None, subst}
use Rattle.std.proofs.lemmas.Map.Views.{All-keys-insert_entry}
use Rattle.metric_path.specs.Path.{path_fault}
use Rattle.metric_index.proofs.IndexLemmas.{order, sets_from_updates}
use Rattle.metric_index.proofs.index.Index.insert.Goals as goal

pub invariant_of-self-2 : goal.invariant_of-self-2
invariant_of-self-2 g c =
    let legal : path_fault c.args.path ≡ None = subst (λ (text : List ℕ). path_fault text ≡ None) c.text.ensures.value c.text.ensures.legal in
    rw c.in_ok-insert.ensures.entries (All-keys-insert_entry order c.args.path c.args.entry (λ path. path_fault path ≡ None) c.self.inside.entries.entries c.self.invariant legal)

pub returns-clause-ok : goal.returns-clause-ok
returns-clause-ok g c = sets_from_updates c.self.inside.entries c.insert.new.self c.args.self.now c.args.path _ c.self.view_is c.in_ok-insert.ensures.updates
