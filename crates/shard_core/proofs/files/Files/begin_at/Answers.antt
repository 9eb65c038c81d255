use Rattle.std.proofs.Common.{◌≡◌, ◌∙◌, ◌<◌, ◌-◌, ◌^◌, length, ℕ, ℤ, List, Option, Some, None, IfSome, IsSomeAnd, refl, sym, ap, subst, option_map}
use Rattle.metric_index.specs.Index.{Sets}
use Rattle.metric_table.specs.declared.known.Known.{Known}
use Rattle.metric_table.specs.Table.{drained}
use Rattle.point_cache.specs.Pending.{Cache, after_take}
use Rattle.drain_order.specs.Pick.{queue_after}
use Rattle.drain_order.specs.Picking.{Follows, Picking, settled_with}
use Rattle.write_shelf.specs.Shelf.{DrainValue}
use Rattle.carbon_model.specs.RingFiles.{IsOfClass}
use Rattle.shard_core.specs.Halves.{held_by}
use Rattle.shard_core.specs.Shard.{AreOfClass, HasFiles, HoldsShelf, patch_on}
use Rattle.shard_core.specs.Table.{Lists}
use Rattle.shard_core.proofs.BeginLemmas.{begins, files_begun, kept_begun, layouts_drained, log_begun, log_put, shelf_begun}
use Rattle.shard_core.proofs.PendingLemmas.{of_class_without}
use Rattle.shard_core.proofs.PickLemmas.{of_class_at}
use Rattle.shard_core.proofs.TableLemmas.{lists_drained}
use Rattle.shard_core.proofs.files.Files.begin_at.Goals as goal

pub note_drain-requires : goal.note_drain-requires
note_drain-requires g c =
    let makes = c.requires.makes c.take-path.result.0 c.take-path.ensures.path in
    subst (λ (o : Option Known). IsSomeAnd o (λ known. known.drains < 2 ^ 64 - 1)) (sym makes.there) makes.few

pub invariant_of-desk : goal.invariant_of-desk
invariant_of-desk g c =
    let old = c.args.desk.now in
    let path = c.take-path.result.0 in
    let makes = c.requires.makes path c.take-path.ensures.path in
    let picked = c.requires.picked in
    let used : c.settle.new.self ≡ settled_with old.picker (queue_after old.picker.strategy old.picker.queue old.cache.metrics) =
    subst (λ (o : Option (List (List ℕ))). IfSome o (λ q. c.settle.new.self ≡ settled_with old.picker q)) picked.settled c.settle.ensures in
    let sets : Sets old.table c.note_drain.new.self path (Some (drained makes.known)) =
    subst (λ (o : Option Known). Sets old.table c.note_drain.new.self path (option_map drained o)) makes.there c.note_drain.ensures in record {
      metrics = subst (λ (cache : Cache). AreOfClass old.class cache.metrics) (sym c.take-path.ensures.others) (of_class_without old.class old.cache.metrics path old.metrics);
      waiting = subst (λ (cache : Cache). Follows c.settle.new.self cache.metrics) (sym c.take-path.ensures.others)
          (subst (λ (p : Picking). Follows p (after_take old.cache c.args.place path).metrics) (sym used) (picked.rest path c.take-path.ensures.path));
      listed = subst (λ (cache : Cache). Lists old.class old.rules cache.metrics c.note_drain.new.self) (sym c.take-path.ensures.others)
          (lists_drained old.class old.rules old.cache.metrics old.table c.note_drain.new.self path makes.known makes.there sets old.listed);
    }

pub returns-clause-begins : goal.returns-clause-begins
returns-clause-begins g c =
    let old = c.args.desk.now in
    let path = c.take-path.result.0 in
    let makes = c.requires.makes path c.take-path.ensures.path in
    let picked = c.requires.picked in
    let one : IsOfClass old.class path = of_class_at old.class old.cache.metrics old.cache.places c.args.place path old.metrics c.metrics.ensures.placed c.take-path.ensures.path in
    let used : c.settle.new.self ≡ settled_with old.picker (queue_after old.picker.strategy old.picker.queue old.cache.metrics) =
    subst (λ (o : Option (List (List ℕ))). IfSome o (λ q. c.settle.new.self ≡ settled_with old.picker q)) picked.settled c.settle.ensures in
    let sets : Sets old.table c.note_drain.new.self path (Some (drained makes.known)) =
    subst (λ (o : Option Known). Sets old.table c.note_drain.new.self path (option_map drained o)) makes.there c.note_drain.ensures in
    let files : HasFiles old.class old.table None (g.D.Disk.image c.args.self.now.disk) =
    subst (λ (shelf : Option DrainValue). HasFiles old.class old.table (patch_on shelf) (g.D.Disk.image c.args.self.now.disk)) c.requires.empty c.requires.halves.rings in
    begins (held_by old c.args.self.now) c.take-path.new.self c.settle.new.self c.note_drain.new.self c.put.new.self.shelf c.put.new.self.steps c.put.new.self.log path c.args.next.now c.args.next.patch c.requires.empty one
    (record {
      metrics = ap (λ (cache : Cache). cache.metrics) c.take-path.ensures.others;
      limit = ap (λ (cache : Cache). cache.limit) c.take-path.ensures.others;
      queue = ap (λ (picker : Picking). picker.queue) used;
      strategy = ap (λ (picker : Picking). picker.strategy) used;
      picked = sym picked.told ∙ c.take-path.ensures.path;
      some = subst (λ (points : List (ℕ × ℤ)). 0 < length points) c.take-path.ensures.points c.take-path.ensures.some;
    })
    makes sets c.put.ensures.shelf c.put.ensures.runs c.put.ensures.steps files old.listed
    (log_put c.args.self.now.work.log c.put.new.self.log c.put.new.self.shelf c.args.next.patch _ c.put.ensures.log c.args.next.named c.put.ensures.shelf)

pub returns-clause-keeps : goal.returns-clause-keeps
returns-clause-keeps g c =
    let old = c.args.desk.now in
    let path = c.take-path.result.0 in
    let patch = c.args.next.patch in
    let image = g.D.Disk.image c.args.self.now.disk in
    let makes = c.requires.makes path c.take-path.ensures.path in
    let one : IsOfClass old.class path = of_class_at old.class old.cache.metrics old.cache.places c.args.place path old.metrics c.metrics.ensures.placed c.take-path.ensures.path in
    let sets : Sets old.table c.note_drain.new.self path (Some (drained makes.known)) =
    subst (λ (o : Option Known). Sets old.table c.note_drain.new.self path (option_map drained o)) makes.there c.note_drain.ensures in
    let files : HasFiles old.class old.table None image = subst (λ (shelf : Option DrainValue). HasFiles old.class old.table (patch_on shelf) image) c.requires.empty c.requires.halves.rings in
    let writing : HoldsShelf old.class c.note_drain.new.self c.put.new.self.shelf image =
    shelf_begun old.class old.table c.note_drain.new.self path makes.known c.put.new.self.shelf patch image one makes.there sets makes.plans.own makes.plans.layout makes.plans.fresh c.put.ensures.shelf
    (kept_begun old.class old.table c.note_drain.new.self path makes.known patch one sets makes.plans.own makes.plans.layout makes.lawful) files in record {
      halves = record {
        one = c.requires.halves.one;
        rings = files_begun old.class old.table c.note_drain.new.self path makes.known c.put.new.self.shelf patch image one makes.there sets makes.plans.own makes.plans.layout makes.plans.fresh c.put.ensures.shelf files;
        writing = writing;
        logged = log_begun old.class c.note_drain.new.self c.args.self.now.work.log c.put.new.self.log c.put.new.self.shelf patch _ image c.put.ensures.was c.put.ensures.log c.args.next.named c.put.ensures.shelf writing c.requires.halves.logged;
      };
      same = record { class = refl; rules = refl };
      layouts = layouts_drained (held_by old c.args.self.now) c.take-path.new.self c.settle.new.self c.note_drain.new.self c.put.new.self.shelf c.put.new.self.steps c.put.new.self.log path makes.known makes.there sets;
    }
