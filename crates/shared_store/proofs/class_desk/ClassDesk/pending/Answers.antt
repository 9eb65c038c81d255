use Rattle.std.proofs.Common.{rules, ◌≡◌, ◌∙◌, ℕ, None, ap, length}
use Rattle.carbon_model.specs.Replay.{replay}
use Rattle.shard_core.specs.Halves.{DeskInside, both, desk_of}
use Rattle.shared_store.proofs.DeskPutLemmas.{untold, with_untold}
use Rattle.shared_store.proofs.class_desk.ClassDesk.pending.Goals as goal
use Rattle.shared_store.proofs.LookLemmas.{pending_before}

pub returns-clause-count : goal.returns-clause-count
returns-clause-count g c =
    let n = g.N.Named in
    let tail = c.self.inside.tail in
    let desk : DeskInside = desk_of c.self.inside.desk in
    let seen = c.see.new.pass.seen in
    let here : tail.class ≡ c.args.self.now.class = search rules in
    c.cached_metrics.ensures
    ∙ (ap length (pending_before n.start None (both desk (untold desk.class)) tail seen c.self.invariant.class (with_untold desk (replay n.start tail.list) c.self.invariant.holds) c.see.ensures.all.class)
    ∙ ap (λ (k : ℕ). length ((replay n.start seen).pending k)) here)
