use Rattle.std.proofs.Common.{◌≡◌, ◌∙◌, ◌∷◌, ◌++◌, [], ℕ, length, refl, sym, ap, subst, arith}
use Rattle.shared_store.proofs.StartLemmas.{picked}
use Rattle.shard_set.specs.Disks.{faults_at, told_at}
use Rattle.shard_set.specs.OpeningState.{opening_of}
use Rattle.shared_history.specs.Parts.{IsNewOrder, AreNewPasses}
use Rattle.carbon_run.specs.Serves.{passes_for}
use Rattle.carbon_run.proofs.RunLemmas.{fresh_from}
use Rattle.carbon_run.proofs.serving.serve_shards.Goals as goal

pub serve_parts-requires-clause-fresh : goal.serve_parts-requires-clause-fresh
serve_parts-requires-clause-fresh g c κs within =
    let shards = c.args.started.shards.items in
    let all : length (c.in-Ok-new.crew.served ++ c.in-Ok-new.crew.own ∷ []) ≡ passes_for c.args.options =
    ap (λ passes. length passes) c.in-Ok-new.ensures.all ∙ omega (arith, c.passes_for.ensures, c.in-Ok.ensures.passes.0, c.in-Ok.passes.ok.0) in record {
      same = refl;
      new = subst (λ (passes : ℕ). IsNewOrder passes 16 c.in-Ok.order) (c.passes_for.ensures ∙ sym all) c.in-Ok.ensures.order;
      sixteen_tails = omega (arith, c.in-Ok.ensures.tails.0, c.in-Ok.tails.ok.0);
      new_tails = c.in-Ok.ensures.tails.1;
      sixteen_pairs = omega (arith, c.in-Ok-make_pairs.ensures, c.in-Ok-make_pairs.pairs.ok.0);
      pairs = picked c.in-Ok-make_pairs.pairs.items;
      sixteen_shards = c.args.started.all;
      fresh_shards = fresh_from (told_at shards) (opening_of shards) (faults_at shards) shards c.requires.ready;
    }

pub serve_parts-requires-clause-crew : goal.serve_parts-requires-clause-crew
serve_parts-requires-clause-crew g c κs within = record {
  new = subst (λ passes. AreNewPasses c.in-Ok.order.table passes) (sym c.in-Ok-new.ensures.all) c.in-Ok.ensures.passes.1;
  all = refl;
}
