use Rattle.std.proofs.Common.{◌≡◌, ap, arith, count_by, length, rules}
use Rattle.std.proofs.lemmas.List.{length-map}
use Rattle.std.proofs.lemmas.List.Splits.{length-slice_split}
use Rattle.metric_path.specs.Path.{is_dot, nodes_of}
use Rattle.path_glob.specs.Faults.{Said}
use Rattle.path_glob.specs.Reading.{pieces_of}
use Rattle.find_api.proofs.find.node_count.Goals as goal

pub returns-clause-value : goal.returns-clause-value
returns-clause-value c =
    let text = c.text.result.now in
    let count : c.count.result ≡ count_by is_dot text = search rules in
    omega (arith, count, ap (λ (g : Said). length g.nodes) c.text.ensures.said, length-map (nodes_of text) pieces_of, length-slice_split is_dot text)
