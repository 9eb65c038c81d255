use Rattle.std.proofs.Common.{◌∙◌}
use Rattle.shard_core.proofs.BeginLemmas.{named_begun}
use Rattle.shard_core.proofs.work.put_straight.Goals as goal

pub returns-clause-named : goal.returns-clause-named
returns-clause-named c = c.name_where_shelved.ensures ∙ named_begun c.put.new.self c.args.patch _ c.put.ensures.value c.requires.named
