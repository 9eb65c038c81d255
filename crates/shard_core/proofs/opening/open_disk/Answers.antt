use Rattle.std.proofs.Common.{refl, sym}
use Rattle.std.proofs.lemmas.Bool.{true≢false}
use Rattle.shard_core.proofs.OpenLemmas.{all_opened, heads_refused, log_refused, log_refuses, makes_known, recovered_shut}
use Rattle.shard_core.proofs.CrashLemmas.{all_starts, given_there, reading_starts, recovery_starts, start_behind}
use Rattle.shard_core.proofs.opening.open_disk.Goals as goal

pub make_log-requires : goal.make_log-requires
make_log-requires g c = record { shut = recovered_shut (g.D.Disk.image c.args.disk.now) (g.D.Disk.image c.lay_log.new.disk) (g.D.Disk.image c.read_table.new.disk) c.in-Ok.ensures.laid c.read_table.ensures.frame.kept }

pub returns-in-Err-clause-refused : goal.returns-in-Err-clause-refused
returns-in-Err-clause-refused g c = log_refuses c.in-Err.fault (g.D.Disk.image c.args.disk.now) (g.D.Disk.image c.lay_log.new.disk) c.args.class c.in-Err.ensures.refused

pub returns-in-Err-read_table-clause-refused : goal.returns-in-Err-read_table-clause-refused
returns-in-Err-read_table-clause-refused g c =
    heads_refused c.in-Err-read_table.fault c.args.class (g.D.Disk.image c.args.disk.now) (g.D.Disk.image c.lay_log.new.disk) (g.D.Disk.image c.read_table.new.disk) c.in-Ok.ensures.laid c.read_table.ensures.frame.kept c.in-Err-read_table.ensures.damaged

pub returns-in-Ok-make_log-clause-opens : goal.returns-in-Ok-make_log-clause-opens
returns-in-Ok-make_log-clause-opens g c =
    all_opened c.args.class c.args.is_logged c.in-Ok-read_table.table (g.D.Disk.image c.args.disk.now) (g.D.Disk.image c.lay_log.new.disk) (g.D.Disk.image c.read_table.new.disk) (g.D.Disk.image c.make_log.new.disk) c.in-Ok.ensures.laid
    c.read_table.ensures.frame.kept c.in-Ok-make_log.ensures.rings c.in-Ok-read_table.ensures.opens c.in-Ok-read_table.ensures.files c.in-Ok-make_log.ensures.log
    (makes_known c.args.is_logged (g.D.Disk.image c.args.disk.now) (g.D.Disk.image c.lay_log.new.disk) (g.D.Disk.image c.read_table.new.disk) (g.D.Disk.image c.make_log.new.disk) c.in-Ok.ensures.laid c.read_table.ensures.frame.kept
    c.in-Ok-make_log.ensures.rings c.make_log.ensures.bare c.make_log.ensures.kept c.in-Ok-make_log.ensures.made)

pub returns-in-Err-make_log-clause-refused : goal.returns-in-Err-make_log-clause-refused
returns-in-Err-make_log-clause-refused g c =
    log_refused c.args.class (g.D.Disk.image c.args.disk.now) (g.D.Disk.image c.lay_log.new.disk) (g.D.Disk.image c.read_table.new.disk) (g.D.Disk.image c.make_log.new.disk) c.in-Ok.ensures.laid c.read_table.ensures.frame.kept c.in-Err-make_log.ensures.left

pub returns-in-Err-clause-crash : goal.returns-in-Err-clause-crash
returns-in-Err-clause-crash g c = record {
  leaves = λ bare. recovery_starts g.D.Disk c.args.disk.now c.lay_log.new.disk c.lay_log.ensures.crash;
  behind = λ ended. absurd (true≢false (sym ended));
}

pub returns-in-Err-read_table-clause-crash : goal.returns-in-Err-read_table-clause-crash
returns-in-Err-read_table-clause-crash g c = record {
  leaves = λ bare. reading_starts g.D.Disk c.args.disk.now c.lay_log.new.disk c.read_table.new.disk c.in-Ok.ensures.crash c.read_table.ensures.frame;
  behind = λ ended. absurd (true≢false (sym ended));
}

pub returns-in-Ok-make_log-clause-crash : goal.returns-in-Ok-make_log-clause-crash
returns-in-Ok-make_log-clause-crash g c = record {
  leaves = all_starts g.D.Disk c.args.disk.now c.lay_log.new.disk c.read_table.new.disk c.make_log.new.disk c.in-Ok.ensures.crash c.read_table.ensures.frame c.in-Ok.ensures.laid refl c.make_log.ensures.moments;
  behind = λ ended given.
      start_behind g.D.Disk c.args.disk.now c.lay_log.new.disk c.read_table.new.disk (g.D.Disk.image c.make_log.new.disk) (g.D.Disk.may_leave c.make_log.new.disk) c.in-Ok.ensures.crash c.read_table.ensures.frame c.in-Ok.ensures.laid refl
      (c.in-Ok-make_log.ensures.behind
      (given_there (g.D.Disk.image c.args.disk.now) (g.D.Disk.image c.lay_log.new.disk) (g.D.Disk.image c.read_table.new.disk) c.in-Ok.ensures.laid c.read_table.ensures.frame.kept given));
}

pub returns-in-Err-make_log-clause-crash : goal.returns-in-Err-make_log-clause-crash
returns-in-Err-make_log-clause-crash g c = record {
  leaves = all_starts g.D.Disk c.args.disk.now c.lay_log.new.disk c.read_table.new.disk c.make_log.new.disk c.in-Ok.ensures.crash c.read_table.ensures.frame c.in-Ok.ensures.laid refl c.make_log.ensures.moments;
  behind = λ ended. absurd (true≢false (sym ended));
}
