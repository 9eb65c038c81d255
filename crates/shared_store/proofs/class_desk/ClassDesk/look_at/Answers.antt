use Rattle.std.proofs.Common.{rules, ◌≡◌, ℕ, List, None, sym, subst}
use Rattle.path_glob.specs.Faults.{Said}
use Rattle.metric_index.specs.Found.{IsFitted}
use Rattle.carbon_history.specs.declared.entry.Entry.{Entry}
use Rattle.carbon_model.specs.Replay.{replay}
use Rattle.shard_core.specs.Looks.{FindsFor, Looks}
use Rattle.shard_core.specs.Halves.{DeskInside, desk_of}
use Rattle.shared_store.proofs.DeskPutLemmas.{untold, with_untold}
use Rattle.shared_store.proofs.FindLemmas.{if_ok}
use Rattle.shared_store.proofs.class_desk.ClassDesk.look_at.Goals as goal

pub returns-clause-looks : goal.returns-clause-looks
returns-clause-looks g c =
    let n = g.N.Named in
    let desk : DeskInside = desk_of c.self.inside.desk in
    let tail = c.self.inside.tail in
    let found = c.args.found.now in
    let here : tail.class ≡ c.args.self.now.class = search rules in
    let list : tail.list ≡ c.args.self.now.list = search rules in
    let moment : c.from.result ≡ c.args.now = search rules in
    if_ok c.look_at.result _ _ c.look_at.ensures.looks (λ looked looks.
    subst (λ (k : ℕ). (glob : Said) → FindsFor k (replay n.start c.args.self.now.list) (IsFitted glob) found → Looks k (replay n.start c.args.self.now.list) (IsFitted glob) c.args.now c.args.from c.args.until looked.items) here
    (subst (λ (l : List Entry). (glob : Said) → FindsFor tail.class (replay n.start l) (IsFitted glob) found → Looks tail.class (replay n.start l) (IsFitted glob) c.args.now c.args.from c.args.until looked.items) list
    (subst (λ (k : ℕ). (glob : Said) → FindsFor k (replay n.start tail.list) (IsFitted glob) found → Looks k (replay n.start tail.list) (IsFitted glob) c.args.now c.args.from c.args.until looked.items) (sym c.self.invariant.class)
    (λ glob finds. subst (λ (t : ℕ). Looks desk.class (replay n.start tail.list) (IsFitted glob) t c.args.from c.args.until looked.items) moment
    (looks (untold desk.class) None (replay n.start tail.list) glob (with_untold desk (replay n.start tail.list) c.self.invariant.holds) finds)))))
