use Rattle.std.proofs.Common.{◌≡◌, ◌∙◌, inl, inr, length, map, refl, ap, arith}
use Rattle.carbon_run.proofs.RunLemmas.{length_back}
use Rattle.carbon_run.proofs.scripts.run_parts.Goals as goal

pub report_no_memory-requires : goal.report_no_memory-requires
report_no_memory-requires g c =
    let sixteen : length c.in-Err.parts.shards.items ≡ 16 = ap (λ parts. length parts.shards.items) c.in-Err.ensures.refused ∙ c.requires.fresh.sixteen_shards in
    record { empty = c.requires.room.0; room = omega (arith, sixteen, c.in-Err.parts.shards.ok.0, c.requires.room.1) }

pub returns-in-Ok-clause-runs : goal.returns-in-Ok-clause-runs
returns-in-Ok-clause-runs g c = inr c.run_store.ensures.came

pub returns-in-Err-clause-runs : goal.returns-in-Err-clause-runs
returns-in-Err-clause-runs g c = inl (record {
  tells = c.report_no_memory.ensures.told;
  history = c.report_no_memory.ensures.history;
  disks = c.report_no_memory.ensures.disks ∙ ap (λ parts. map (λ shard. shard.files.disk) parts.shards.items) c.in-Err.ensures.refused;
  input = refl;
})

pub returns-in-Err-clause-all : goal.returns-in-Err-clause-all
returns-in-Err-clause-all g c =
    let sixteen : length c.in-Err.parts.shards.items ≡ 16 = ap (λ parts. length parts.shards.items) c.in-Err.ensures.refused ∙ c.requires.fresh.sixteen_shards in
    let count : length c.report_no_memory.result.disks.items ≡ 16 = ap (λ disks. length disks) c.report_no_memory.ensures.disks ∙ (length_back c.in-Err.parts.shards.items ∙ sixteen) in
    omega (arith, count, c.report_no_memory.result.disks.ok.0)
