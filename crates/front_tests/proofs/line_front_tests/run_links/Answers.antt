use Rattle.std.proofs.Common.{refl, arith}
use Rattle.shared_store.proofs.StartLemmas.{picked}
use Rattle.shard_set.specs.Disks.{faults_at, told_at}
use Rattle.shard_set.specs.OpeningState.{opening_of}
use Rattle.line_front.proofs.StoreLemmas.{fresh_from}
use Rattle.front_tests.proofs.line_front_tests.run_links.Goals as goal

pub run_store-requires : goal.run_store-requires
run_store-requires g c =
    let started = c.in_ok-shards.field-0 in
    let shards = started.shards.items in record {
      fresh = record {
        same = refl;
        new = c.in_ok-order.ensures.order;
        sixteen_tails = omega (arith, c.in_ok-order.ensures.tails.0, c.in_ok-order.tails.ok.0);
        new_tails = c.in_ok-order.ensures.tails.1;
        sixteen_pairs = omega (arith, c.in_ok-make_pairs.ensures, c.in_ok-make_pairs.field-0.ok.0);
        pairs = picked c.in_ok-make_pairs.field-0.items;
        sixteen_shards = started.all;
        fresh_shards = fresh_from (told_at shards) (opening_of shards) (faults_at shards) shards c.in_ok-shards.ensures;
      };
      new = c.in_ok-order.ensures.passes.1;
    }
