use Rattle.outside_io.proofs.mem_disk.log_file.Goals as goal

pub returns-clause-ok : goal.returns-clause-ok
returns-clause-ok c = record {
  made = record { name = c.in_ok-name.name; file = c.in_ok-file.file };
  logged = c.in_ok-push.ensures.ok;
  named = c.in_ok-name.ensures.ok;
  file = c.in_ok-file.ensures;
}
