use Rattle.std.proofs.Common.{◌≡◌, count_by, rules, arith}
use Rattle.std.proofs.lemmas.List.Splits.{length-slice_split}
use Rattle.metric_path.specs.Path.{is_dot}
use Rattle.metric_path.proofs.path.dot_count.Goals as goal

pub returns-clause-nodes : goal.returns-clause-nodes
returns-clause-nodes c = let count : c.count.result ≡ count_by is_dot c.args.text.now = search rules in omega (arith, length-slice_split is_dot c.args.text.now)
