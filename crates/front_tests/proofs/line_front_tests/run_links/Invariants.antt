use Rattle.shard_set.specs.Disks.{faults_at, told_at}
use Rattle.shard_set.specs.OpeningState.{opening_of}
use Rattle.shared_store.specs.Starts.{halves_at}
use Rattle.front_tests.proofs.line_front_tests.run_links.Given as goal

-- the store is that of the history, of one pass, and of what the shards stand for as they start
abbrev pub ghosts-run_store : goal.ghosts-run_store
ghosts-run_store g a = record {
  table = a.parts.order.table;
  passes = 1;
  halves = halves_at a.parts.pairs.items;
  told = told_at a.parts.shards.items;
  start = opening_of a.parts.shards.items;
  faults = faults_at a.parts.shards.items;
}
