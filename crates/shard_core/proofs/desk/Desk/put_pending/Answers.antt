use Rattle.std.proofs.Common.{◌≡◌, ℕ, List, None, subst}
use Rattle.metric_path.specs.Path.{path_fault}
use Rattle.drain_order.proofs.StayLemmas.{puts_keep_follows}
use Rattle.shard_core.specs.Halves.{both, desk_of}
use Rattle.shard_core.proofs.PendingLemmas.{of_class_after_put, pending_has_points}
use Rattle.shard_core.proofs.PutLemmas.{lists_after_put, says_itself, takes_point}
use Rattle.shard_core.proofs.desk.Desk.put_pending.Goals as goal

pub invariant_of-self : goal.invariant_of-self
invariant_of-self c =
    let old = c.args.self.now in
    let datum = c.args.datum.now in
    let put = c.put_at.ensures in
    let known = old.listed.pending datum.path (pending_has_points old.cache.metrics datum.path c.metrics.ensures.each c.requires.pending) in
    let legal = subst (λ (text : List ℕ). path_fault text ≡ None) c.text.ensures.value c.text.ensures.legal in record {
      metrics = of_class_after_put old.class old.cache c.put_at.new.self datum.path datum.time datum.value c.put_at.result put old.metrics legal c.requires.here datum.legal;
      waiting = puts_keep_follows old.picker old.cache c.put_at.new.self datum.path datum.time datum.value c.put_at.result put old.waiting;
      listed = lists_after_put old.class old.rules old.cache c.put_at.new.self old.table datum.path datum.time datum.value c.put_at.result put (λ room. known) old.listed;
    }

pub returns-clause-put : goal.returns-clause-put
returns-clause-put c =
    let old = c.args.self.now in
    let datum = c.args.datum.now in
    let put = c.put_at.ensures in
    let legal = subst (λ (text : List ℕ). path_fault text ≡ None) c.text.ensures.value c.text.ensures.legal in
    λ files. takes_point c.put_at.result (both (desk_of old) files) c.put_at.new.self old.table datum.path datum.time datum.value c.requires.here (record { legal = legal; moment = datum.legal; fits = datum.fits }) (says_itself old.table) put
