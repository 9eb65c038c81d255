use Rattle.std.proofs.Common.{sym}
use Rattle.carbon_script.specs.Script.{opening}
use Rattle.carbon_script.proofs.serve.script.Goals as goal

pub returns-clause-ends : goal.returns-clause-ends
returns-clause-ends g c = record {
  code = c.serve-end.new.session;
  pass = sym c.into_pass.ensures.value;
  ends = c.serve-end.ensures.ends (opening g.N.Named.start) c.new-session.ensures;
}
