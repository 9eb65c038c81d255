use Rattle.std.proofs.Common.{◌≡◌, ◌∙◌, inl, length, refl, ap, arith}
use Rattle.shared_store.proofs.StartLemmas.{picked}
use Rattle.shard_set.specs.Disks.{faults_at, told_at}
use Rattle.shard_set.specs.OpeningState.{opening_of}
use Rattle.carbon_run.proofs.RunLemmas.{fresh_from, length_back}
use Rattle.carbon_run.proofs.scripts.run_shards.Goals as goal

pub run_parts-requires : goal.run_parts-requires
run_parts-requires g c =
    let shards = c.args.started.shards.items in record {
      fresh = record {
        same = refl;
        new = c.in-Ok.ensures.order;
        sixteen_tails = omega (arith, c.in-Ok.ensures.tails.0, c.in-Ok.tails.ok.0);
        new_tails = c.in-Ok.ensures.tails.1;
        sixteen_pairs = omega (arith, c.in-Ok-make_pairs.ensures, c.in-Ok-make_pairs.pairs.ok.0);
        pairs = picked c.in-Ok-make_pairs.pairs.items;
        sixteen_shards = c.args.started.all;
        fresh_shards = fresh_from (told_at shards) (opening_of shards) (faults_at shards) shards c.requires;
      };
      one = (refl, c.in-Ok.ensures.passes.0);
      new = c.in-Ok.ensures.passes.1;
      room = (c.args.started.empty, c.args.started.room_for_all);
    }

pub report_no_memory-requires : goal.report_no_memory-requires
report_no_memory-requires g c = record {
  empty = c.args.started.empty;
  room = omega (arith, c.args.started.all, c.args.started.shards.ok.0, c.args.started.room_for_all);
}

pub returns-in-Err-clause-runs : goal.returns-in-Err-clause-runs
returns-in-Err-clause-runs g c = inl (record {
  tells = c.report_no_memory-in-Err.ensures.told;
  history = c.report_no_memory-in-Err.ensures.history;
  disks = c.report_no_memory-in-Err.ensures.disks;
  input = refl;
})

pub returns-in-Err-clause-all : goal.returns-in-Err-clause-all
returns-in-Err-clause-all g c =
    let count : length c.report_no_memory-in-Err.result.disks.items ≡ 16 = ap (λ disks. length disks) c.report_no_memory-in-Err.ensures.disks ∙ (length_back c.args.started.shards.items ∙ c.args.started.all) in
    omega (arith, count, c.report_no_memory-in-Err.result.disks.ok.0)
