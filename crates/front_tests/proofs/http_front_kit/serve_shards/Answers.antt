use Rattle.std.proofs.Common.{ℕ, List, Option, refl, arith}
use Rattle.shared_store.proofs.StartLemmas.{picked}
use Rattle.outside_io.specs.Image.{Image}
use Rattle.outside_io.specs.declared.disk.Disk.{Ghosts}
use Rattle.carbon_model.specs.State.{State}
use Rattle.shard_core.specs.declared.shard.Shard.{Shard}
use Rattle.shard_set.specs.Disks.{faults_at, told_at}
use Rattle.shard_core.specs.Started.{AreReadyShards}
use Rattle.shard_set.specs.OpeningState.{opening_of}
use Rattle.shard_core.specs.Started.{AreReadyShards}
use Rattle.front_tests.proofs.http_front_kit.serve_shards.Goals as goal

fresh_from : {D : Type 0} {d : Ghosts D} (told : ℕ → Option Image) (start : State) (earlier : ℕ → ℕ) (shards : List (Shard D d)) → AreReadyShards told start earlier shards → AreReadyShards told start earlier shards
fresh_from told start earlier shards ready k shard there =
    let one = ready k shard there in record { class = one.class; empty = one.empty; idle = one.idle; holds = one.holds; faults = one.faults }

pub serve_parts-requires : goal.serve_parts-requires
serve_parts-requires g c =
    let shards = c.args.started.shards.items in record {
      fresh = record {
        same = refl;
        new = c.in-Ok.ensures.order;
        sixteen_tails = omega (arith, c.in-Ok.ensures.tails.0, c.in-Ok.tails.ok.0);
        new_tails = c.in-Ok.ensures.tails.1;
        sixteen_pairs = omega (arith, c.in_ok-make_pairs-in-Ok.ensures, c.in_ok-make_pairs-in-Ok.field-0.ok.0);
        pairs = picked c.in_ok-make_pairs-in-Ok.field-0.items;
        sixteen_shards = c.args.started.all;
        fresh_shards = fresh_from (told_at shards) (opening_of shards) (faults_at shards) shards c.requires;
      };
      one = c.in-Ok.ensures.passes.0;
      passes = refl;
      new = c.in-Ok.ensures.passes.1;
    }
