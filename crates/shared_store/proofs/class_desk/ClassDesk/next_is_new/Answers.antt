use Rattle.std.proofs.Common.{rules, ◌≡◌, ◌∙◌, Option, Some, None, sym, subst}
use Rattle.metric_path.specs.Path.{path_fault}
use Rattle.carbon_model.specs.Replay.{replay}
use Rattle.shared_history.specs.Parts.{TailValue}
use Rattle.shard_core.specs.Halves.{DeskInside, desk_of}
use Rattle.shard_core.specs.Stepping.{IsNext}
use Rattle.shard_core.specs.declared.next_metric.NextMetric.{NextMetric}
use Rattle.shared_store.specs.Locks.{KeepsDesk}
use Rattle.shared_store.specs.Steps.{MakesFileNext}
use Rattle.shared_store.proofs.CreateLemmas.{makes_file}
use Rattle.shared_store.proofs.HeldLemmas.{desk_picks}
use Rattle.shared_store.proofs.class_desk.ClassDesk.next_is_new.Goals as goal

pub invariant_of-self : goal.invariant_of-self
invariant_of-self g c =
    let n = g.N.Named in
    let d = c.self.inside in
    subst (λ (t : TailValue). KeepsDesk n.table n.halves n.start (desk_of c.next.new.self) d.half t) (sym c.see.ensures.tail)
    (desk_picks n.table n.halves n.start (desk_of d.desk) (desk_of c.next.new.self) d.half d.tail c.next.ensures.only c.self.invariant)

pub returns-clause-makes : goal.returns-clause-makes
returns-clause-makes g c =
    let n = g.N.Named in
    let d = c.self.inside in
    let desk : DeskInside = desk_of d.desk in
    let metric = c.in-Ok-Some.metric in
    let here : d.tail.class ≡ c.args.self.now.class = search rules in
    let legal : path_fault metric.path ≡ None = search rules in
    let next : IsNext desk (Some metric) = subst (λ (o : Option NextMetric). IsNext desk o) c.in-Ok-Some.field-0-is c.in-Ok-Some.ensures.next in
    λ is. subst (MakesFileNext (replay n.start c.see.new.pass.seen)) here
    (makes_file n.start desk d.tail c.see.new.pass.seen c.self.invariant.class c.self.invariant.holds c.see.ensures.all.class metric d.desk.listed legal next (sym c.lacks_file.ensures ∙ is))
