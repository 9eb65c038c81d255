use Rattle.std.proofs.Common.{◌≡◌, None, sym, ap, ◌∙◌}
use Rattle.std.proofs.lemmas.Bool.{false≢true}
use Rattle.metric_path.specs.Path.{path_fault}
use Rattle.metric_path.proofs.PathLemmas.{utf8_of_legal}
use Rattle.metric_path.proofs.path.of_text.Goals as goal

pub unreachable-requires : goal.unreachable-requires
unreachable-requires c =
    let legal : path_fault c.args.text.items ≡ None = ap path_fault (sym c.as_slice.ensures.value) ∙ sym c.in_default.ensures in
    false≢true (c.in-Err.ensures.succeeds (utf8_of_legal c.args.text.items legal))
