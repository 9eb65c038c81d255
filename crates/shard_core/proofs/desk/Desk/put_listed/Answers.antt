use Rattle.std.proofs.Common.{◌≡◌, ℕ, List, None, subst}
use Rattle.metric_path.specs.Path.{path_fault}
use Rattle.drain_order.proofs.StayLemmas.{puts_keep_follows}
use Rattle.shard_core.specs.Halves.{both, desk_of}
use Rattle.shard_core.proofs.PendingLemmas.{of_class_after_put}
use Rattle.shard_core.proofs.PutLemmas.{lists_after_put, says_itself, takes_point}
use Rattle.shard_core.proofs.desk.Desk.put_listed.Goals as goal

pub invariant_of-self : goal.invariant_of-self
invariant_of-self c =
    let old = c.args.self.now in
    let datum = c.args.datum.now in
    let put = c.put.ensures in
    let legal = subst (λ (text : List ℕ). path_fault text ≡ None) c.text.ensures.value c.text.ensures.legal in record {
      metrics = of_class_after_put old.class old.cache c.put.new.self datum.path datum.time datum.value c.put.result put old.metrics legal c.requires.here datum.legal;
      waiting = puts_keep_follows old.picker old.cache c.put.new.self datum.path datum.time datum.value c.put.result put old.waiting;
      listed = lists_after_put old.class old.rules old.cache c.put.new.self old.table datum.path datum.time datum.value c.put.result put c.requires.known old.listed;
    }

pub returns-clause-put : goal.returns-clause-put
returns-clause-put c =
    let old = c.args.self.now in
    let datum = c.args.datum.now in
    let put = c.put.ensures in
    let legal = subst (λ (text : List ℕ). path_fault text ≡ None) c.text.ensures.value c.text.ensures.legal in
    λ files. takes_point c.put.result (both (desk_of old) files) c.put.new.self old.table datum.path datum.time datum.value c.requires.here (record { legal = legal; moment = datum.legal; fits = datum.fits }) (says_itself old.table) put
