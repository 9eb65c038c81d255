use Rattle.std.proofs.Common.{◌≡◌, ℕ, List, None, refl, subst, sym}
use Rattle.metric_path.specs.Path.{path_fault}
use Rattle.point_cache.specs.Pending.{Puts}
use Rattle.point_cache.specs.declared.put.Put.{Put}
use Rattle.point_cache.specs.declared.put.Put.TheVariants.{NoMemory, Stored}
use Rattle.drain_order.proofs.StayLemmas.{puts_keep_follows}
use Rattle.shard_core.specs.Halves.{both, desk_of}
use Rattle.shard_core.specs.Puts.{TakesPoint}
use Rattle.shard_core.specs.Table.{Table}
use Rattle.shard_core.proofs.PendingLemmas.{of_class_after_put}
use Rattle.shard_core.proofs.PutLemmas.{layouts_out, lists_first, takes_nothing, takes_point, unknown_is_empty}
use Rattle.shard_core.proofs.TableLemmas.{says_alike, says_new, taken_out}
use Rattle.shard_core.proofs.desk.Desk.put_first.Goals as goal

pub invariant_of-self-in-Stored : goal.invariant_of-self-in-Stored
invariant_of-self-in-Stored c =
    let old = c.args.self.now in
    let datum = c.args.datum.now in
    let made = c.put.ensures in
    let put = subst (λ (p : Put). Puts old.cache c.put.new.self datum.path datum.time datum.value p) c.in-Stored.is made in
    let legal = subst (λ (text : List ℕ). path_fault text ≡ None) c.text.ensures.value c.text.ensures.legal in record {
      metrics = of_class_after_put old.class old.cache c.put.new.self datum.path datum.time datum.value c.put.result made old.metrics legal c.requires.here datum.legal;
      waiting = puts_keep_follows old.picker old.cache c.put.new.self datum.path datum.time datum.value c.put.result made old.waiting;
      listed = lists_first old.class old.rules old.cache c.put.new.self old.table c.list_metric.new.table datum.path datum.time datum.value c.requires.here put c.in-Ok.ensures.ok old.listed;
    }

pub returns-in_default : goal.returns-in_default
returns-in_default c =
    let old = c.args.self.now in
    let datum = c.args.datum.now in
    let made = c.put.ensures in
    let legal = subst (λ (text : List ℕ). path_fault text ≡ None) c.text.ensures.value c.text.ensures.legal in
    let same = taken_out old.table c.list_metric.new.table c.remove.new.self datum.path _ c.requires.new c.in-Ok.ensures.ok c.remove.ensures in record {
      put = λ files. takes_point c.put.result (both (desk_of old) files) c.put.new.self c.remove.new.self datum.path datum.time datum.value c.requires.here (record { legal = legal; moment = datum.legal; fits = datum.fits })
          (says_alike old.table c.remove.new.self same) made;
      others = record { class = refl; rules = refl; picker = refl; says = says_alike old.table c.remove.new.self same; layouts = λ files. layouts_out (both (desk_of old) files) c.put.new.self c.remove.new.self same };
    }

pub returns-in-Stored-clause-put : goal.returns-in-Stored-clause-put
returns-in-Stored-clause-put c =
    let old = c.args.self.now in
    let datum = c.args.datum.now in
    let made = c.put.ensures in
    let put = subst (λ (p : Put). Puts old.cache c.put.new.self datum.path datum.time datum.value p) c.in-Stored.is made in
    let legal = subst (λ (text : List ℕ). path_fault text ≡ None) c.text.ensures.value c.text.ensures.legal in
    λ files. takes_point Stored (both (desk_of old) files) c.put.new.self c.list_metric.new.table datum.path datum.time datum.value c.requires.here (record { legal = legal; moment = datum.legal; fits = datum.fits })
    (says_new old.table c.list_metric.new.table datum.path _ c.requires.new c.in-Ok.ensures.ok) put

pub returns-in-Err-clause-put : goal.returns-in-Err-clause-put
returns-in-Err-clause-put c =
    let old = c.args.self.now in
    let datum = c.args.datum.now in
    let legal = subst (λ (text : List ℕ). path_fault text ≡ None) c.text.ensures.value c.text.ensures.legal in
    λ files. subst (λ (table : Table). TakesPoint (both (desk_of old) files) (record (both (desk_of old) files) { table = table }) datum.path datum.time datum.value NoMemory) (sym c.in-Err.ensures.err)
    (takes_nothing (both (desk_of old) files) datum.path datum.time datum.value c.requires.here (record { legal = legal; moment = datum.legal; fits = datum.fits })
    (unknown_is_empty old.class old.rules old.cache.metrics old.table datum.path old.listed c.requires.new) c.requires.room)
