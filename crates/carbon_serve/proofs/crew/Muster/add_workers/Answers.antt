use Rattle.std.proofs.Common.{[], ◌∷◌, List, subst, arith}
use Rattle.std.specs.Prelude.{All}
use Rattle.carbon_serve.specs.Workers.{IsReady}
use Rattle.carbon_serve.specs.declared.workers.Worker.{Worker}
use Rattle.carbon_serve.proofs.MusterLemmas.{behind_more}
use Rattle.carbon_serve.proofs.OrderLemmas.{all_front, one_at_most}
use Rattle.carbon_serve.proofs.crew.Muster.add_workers.Goals as goal

pub loop-worker-preserved : goal.loop-worker-preserved
loop-worker-preserved g c =
    let v = c.loop-worker.invariant in record {
      ready = all_front (IsReady g.N.Named.table) c.pop.new.self.items (c.in-Some.worker ∷ [])
          (subst (λ (workers : List Worker). All (IsReady g.N.Named.table) workers) c.in-Some.ensures.items v.ready);
      places = omega (arith, v.places, c.add_worker.ensures.places, one_at_most c.in-Some.worker.pass, c.in-Some.ensures.cases);
      behind = behind_more c.loop-worker.workers.items c.pop.new.self.items c.args.workers.items c.in-Some.worker c.args.self.now c.loop-worker.self c.add_worker.new.self
          c.in-Some.ensures.items v.behind c.add_worker.ensures;
    }
