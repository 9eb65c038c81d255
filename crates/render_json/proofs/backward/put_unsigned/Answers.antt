use Rattle.render_json.proofs.BackwardLemmas.{unsigned_short}
use Rattle.render_json.proofs.backward.put_unsigned.Goals as goal

pub returns-clause-short : goal.returns-clause-short
returns-clause-short c = unsigned_short c.args.thousandths c.requires.range
