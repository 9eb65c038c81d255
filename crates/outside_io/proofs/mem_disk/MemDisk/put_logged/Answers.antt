use Rattle.std.proofs.Common.{refl, rules, ap, ◌∙◌, drop}
use Rattle.outside_io.specs.MemDisk.{disk_image}
use Rattle.outside_io.proofs.LogLemmas.{create_crashes, create_may, each_err, each_ok, same_crashes}
use Rattle.outside_io.proofs.mem_disk.MemDisk.put_logged.Goals as goal

pub returns-then-is_err-clause-crash : goal.returns-then-is_err-clause-crash
returns-then-is_err-clause-crash c =
    same_crashes c.args.self.now _ _ (λ image name differs. refl) (search rules) (c.pop.ensures ∙ ap (λ log. drop 1 log) c.in_ok-log_file.ensures.ok.logged)

pub returns-else-is_err-clause-crash : goal.returns-else-is_err-clause-crash
returns-else-is_err-clause-crash c =
    create_crashes c.args.self.now _ c.args.name.now c.in_ok-log_file.ensures.ok (search rules)

pub returns-then-is_err-clause-log : goal.returns-then-is_err-clause-log
returns-then-is_err-clause-log c = each_err c.put_zeros-made.result (c.pop.ensures ∙ ap (λ log. drop 1 log) c.in_ok-log_file.ensures.ok.logged)

pub returns-else-is_err-clause-may : goal.returns-else-is_err-clause-may
returns-else-is_err-clause-may c = each_ok c.put_zeros-made.result (create_may (disk_image c.args.self.now) _ c.args.self.now.log _ c.args.name.now c.in_ok-log_file.ensures.ok (search rules))
