use Rattle.std.proofs.Common.{◌≤◌, vec_len}
use Rattle.std.specs.Prelude.{All}
use Rattle.carbon_serve.specs.Workers.{IsReady}
use Rattle.carbon_serve.proofs.MusterLemmas.{AddsBehind}
use Rattle.carbon_serve.proofs.crew.Muster.add_workers.Given as goal

abbrev pub invariant-loop-worker : goal.invariant-loop-worker
invariant-loop-worker g l = record {
  ready : All (IsReady g.N.Named.table) l.workers.items;
  places : vec_len l.workers ≤ l.self.places;
  behind : AddsBehind l.workers.items l.fn.workers.items l.fn.self l.self;
}

abbrev pub decreases-loop-worker : goal.decreases-loop-worker
decreases-loop-worker g l = vec_len l.workers
