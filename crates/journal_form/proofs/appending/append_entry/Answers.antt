use Rattle.std.proofs.Common.{subst}
use Rattle.journal_form.specs.Form.{behind_path, put_bytes}
use Rattle.journal_form.specs.Room.{Appends}
use Rattle.journal_form.proofs.appending.append_entry.Goals as goal

pub returns-in-Put : goal.returns-in-Put
unfolding put_bytes
returns-in-Put c =
    rw c.in-Put.is
    (subst (λ rest. Appends c.args.out.now c.append_path.new.out (behind_path 1 c.in-Put.pass c.in-Put.path.now rest)) c.put_end_array.ensures c.append_path.ensures)
