use Rattle.std.proofs.Common.{rules, ◌≡◌, ℕ, ◌<◌, true, List, Option, length}
use Rattle.std.specs.Prelude.{is_some, slice_index_or}
use Rattle.std.specs.Sync.Mutex.{mutex_guard_value}
use Rattle.std.specs.declared.sync.MutexGuard.{MutexGuard}
use Rattle.carbon_model.specs.Replay.{replay}
use Rattle.metric_path.specs.Class.{class_of}
use Rattle.shared_store.specs.Locks.{FilesValue}
use Rattle.shared_store.proofs.HeldLemmas.{bare_covers, held_covers}
use Rattle.shared_store.proofs.HoldLemmas.{bare_at_desk, class_at_desk, look_at_desk}
use Rattle.shared_store.proofs.holding.is_missing.Goals as goal

pub keeps-requires-clause-here : goal.keeps-requires-clause-here
keeps-requires-clause-here g c =
    let i : ℕ = c.class-class.result in
    let here : i ≡ class_of c.args.looked.now.path = search rules in
    let within : i < length c.args.desks.now = search rules in
    let value : c.deref.result.now ≡ mutex_guard_value (slice_index_or c.args.desks.now i c.index-desks-class.result) = search rules in
    class_at_desk g.N.Named.start c.args.desks.now c.args.looked.now i c.index-desks-class.result c.deref.result.now here within value c.requires.look

pub keeps-requires-clause-look : goal.keeps-requires-clause-look
keeps-requires-clause-look g c =
    let i : ℕ = c.class-class.result in
    let here : i ≡ class_of c.args.looked.now.path = search rules in
    let within : i < length c.args.desks.now = search rules in
    let value : c.deref.result.now ≡ mutex_guard_value (slice_index_or c.args.desks.now i c.index-desks-class.result) = search rules in
    look_at_desk g.N.Named.start c.args.desks.now c.args.looked.now i c.index-desks-class.result c.deref.result.now here within value c.requires.look

pub returns-then-is_some : goal.returns-then-is_some
returns-then-is_some g c = record {
  covered = λ none list are.
      let held : List (Option (MutexGuard FilesValue)) = c.args.held.now in
      let i : ℕ = c.class-class.result in
      let here : class_of c.args.looked.now.path ≡ i = search rules in
      let within : i < length held = search rules in
      let value : c.index-held-class.result ≡ slice_index_or held i c.index-held-class.result = search rules in
      let some : is_some c.index-held-class.result ≡ true = search rules in
      held_covers (replay g.N.Named.start list) held c.args.looked.now i c.index-held-class.result here within value some;
}

pub returns : goal.returns
returns g c = record {
  covered = λ none list are.
      let i : ℕ = c.class-class.result in
      let here : i ≡ class_of c.args.looked.now.path = search rules in
      let within : i < length c.args.desks.now = search rules in
      let value : c.deref.result.now ≡ mutex_guard_value (slice_index_or c.args.desks.now i c.index-desks-class.result) = search rules in
      bare_covers (replay g.N.Named.start list) c.args.held.now c.args.looked.now
      (bare_at_desk g.N.Named.start c.args.desks.now c.args.looked.now i c.index-desks-class.result c.deref.result.now here within value list are (c.keeps.ensures.bare none));
}
