use Rattle.std.proofs.Common.{sym}
use Rattle.carbon_script.proofs.behind.script_behind.Goals as goal

pub returns-clause-ends : goal.returns-clause-ends
returns-clause-ends g c = record { code = c.serve_behind-end.new.session; pass = sym c.into_pass.ensures.value; ends = c.serve_behind-end.ensures.ends }
