-- The metric of a class that goes next and of which nothing is kept in version 2.
use Rattle.std.proofs.Common.{◌≡◌, ◌∙◌, ℕ, Bool, true, false, List, length, Option, Some, None, IfSome, arith, sym, ap, subst, option_map, if◌then◌else◌}
use Rattle.std.specs.Prelude.{not, ◌||◌}
use Rattle.std.specs.Option.{option_map_or}
use Rattle.std.proofs.lemmas.Bool.{false≢true}
use Rattle.std.proofs.lemmas.Option.{none-some}
use Rattle.metric_path.specs.Path.{path_fault}
use Rattle.metric_path.specs.Class.{class_of}
use Rattle.metric_table.specs.declared.known.Known.{Known}
use Rattle.point_cache.specs.Pending.{points_of}
use Rattle.drain_order.specs.Pick.{pick}
use Rattle.carbon_history.specs.declared.entry.Entry.{Entry}
use Rattle.carbon_history.specs.Entries.{about_class}
use Rattle.ring_format.specs.Layout.{LayoutValue}
use Rattle.carbon_model.specs.State.{Kept, Metrics, SamePart, State, form_of, points_in}
use Rattle.carbon_model.specs.Replay.{replay}
use Rattle.carbon_model.proofs.PartLemmas.{replay_alike, same_part}
use Rattle.shared_history.specs.Parts.{TailValue}
use Rattle.shard_core.specs.Halves.{DeskInside}
use Rattle.shard_core.specs.Stepping.{GoesNext}
use Rattle.shard_core.specs.Table.{IsEntry, Lists, form_kept}
use Rattle.shard_core.specs.declared.next_metric.NextMetric.{NextMetric}
use Rattle.shared_store.specs.Locks.{HoldsDesk}
use Rattle.shared_store.specs.Steps.{MakesFileNext}

-- what is kept of a metric with such flags is of version 1
kept_old : (is_kept is_old : Bool) (layout : LayoutValue) (kept : Kept) → (not is_kept || is_old) ≡ true
    → option_map (λ version. (version, layout)) (if is_kept then Some (if is_old then 1 else 2) else None) ≡ Some (form_of kept) → kept.version ≡ 1
kept_old false old layout kept is e = absurd (none-some (form_of kept) e)
kept_old true true layout kept is e = sym (ap (λ (o : Option (ℕ × LayoutValue)). option_map_or (λ form. form.0) o 1) e)
kept_old true false layout kept is e = absurd (false≢true is)

made_anew : (known : Known) (kept : Option Kept) → (not known.is_kept || known.is_old) ≡ true → form_kept (Some known) ≡ option_map form_of kept
    → IfSome kept (λ k. k.version ≡ 1)
made_anew known None is e = tt
made_anew known (Some kept) is e = kept_old known.is_kept known.is_old known.layout kept is e

-- a desk stands for the state after a history, of which its tail has the part about its class
module _ (start : State) (desk : DeskInside) (tail : TailValue) (seen : List Entry)
    (keeps : tail.class ≡ desk.class) (holds : HoldsDesk desk (replay start tail.list)) (part : about_class tail.class seen ≡ tail.list) where
  alike : SamePart tail.class (replay start seen) (replay start tail.list)
  alike = subst (λ (l : List Entry). SamePart tail.class (replay start seen) (replay start l)) part
      (replay_alike tail.class start start seen (same_part tail.class start))

  pending_as : desk.cache.metrics ≡ (replay start seen).pending tail.class
  pending_as = holds.pending ∙ (ap (replay start tail.list).pending (sym keeps) ∙ sym alike.pending)

  queue_as : desk.picker.queue ≡ (replay start seen).queue tail.class
  queue_as = holds.queue ∙ (ap (replay start tail.list).queue (sym keeps) ∙ sym alike.queue)

  strategy_as : desk.picker.strategy ≡ (replay start seen).strategy
  strategy_as = holds.strategy ∙ sym alike.strategy

  pub makes_file : (metric : NextMetric) → Lists desk.class desk.rules desk.cache.metrics desk.table → path_fault metric.path ≡ None → GoesNext desk metric
      → (not metric.known.is_kept || metric.known.is_old) ≡ true → MakesFileNext (replay start seen) tail.class
  makes_file metric lists legal goes is =
      let known : IsEntry desk.class desk.rules desk.cache.metrics metric.path metric.known =
      subst (λ (o : Option Known). IfSome o (IsEntry desk.class desk.rules desk.cache.metrics metric.path)) goes.drainable.there (lists.entries metric.path) in
      let here : class_of metric.path ≡ tail.class = known.here ∙ sym keeps in
      let points : points_of desk.cache.metrics metric.path ≡ points_in (replay start seen) metric.path =
      ap (λ (ms : Metrics). points_of ms metric.path) (pending_as ∙ ap (replay start seen).pending (sym here)) in
      record {
        path = metric.path;
        here = here;
        next = sym (λ i. pick (strategy_as i) (queue_as i) (pending_as i)) ∙ goes.picked;
        some = λ none.
            let has = goes.has in
            let empty : length metric.points ≡ 0 = ap length (goes.points ∙ points ∙ none) in
            absurd (omega (arith, has, empty));
        anew = subst (λ (o : Option Kept). IfSome o (λ k. k.version ≡ 1)) (sym (alike.kept metric.path here))
            (made_anew metric.known ((replay start tail.list).kept metric.path) is
            (ap form_kept (sym goes.drainable.there) ∙ holds.layouts metric.path (record { legal = legal; here = known.here })));
      }
