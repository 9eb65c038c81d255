use Rattle.std.proofs.Common.{refl}
use Rattle.outside_io.proofs.mem_disk.log_range.Goals as goal

pub returns-clause-ok : goal.returns-clause-ok
returns-clause-ok c = record {
  range = record { name = c.in_ok-name.name; at = c.args.at; bytes = c.in_ok-bytes.bytes };
  logged = c.in_ok-push.ensures.ok;
  named = c.in_ok-name.ensures.ok;
  place = refl;
  long = c.in_ok-bytes.ensures.long;
  bytes = c.in_ok-bytes.ensures.bytes;
}
