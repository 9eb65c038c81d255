use Rattle.std.specs.Prelude.{◌∷◌, ◌++◌, [], length}
use Rattle.shard_set.specs.Disks.{faults_at, told_at}
use Rattle.shard_set.specs.OpeningState.{opening_of}
use Rattle.shared_store.specs.Starts.{halves_at}
use Rattle.carbon_run.proofs.serving.serve_shards.Given as goal

-- the store is that of the history, of the passes of the crew, and of what the shards stand for as they start
abbrev pub ghosts-serve_parts : goal.ghosts-serve_parts
ghosts-serve_parts g a = record {
  table = a.parts.order.table;
  passes = length (a.crew.served ++ a.crew.own ∷ []);
  halves = halves_at a.parts.pairs.items;
  told = told_at a.parts.shards.items;
  start = opening_of a.parts.shards.items;
  faults = faults_at a.parts.shards.items;
}
