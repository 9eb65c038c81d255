use Rattle.std.proofs.Common.{◌≡◌, IsUtf8, string_bytes, sym, subst, ◌∙◌, ap}
use Rattle.std.proofs.lemmas.Bool.{false≢true}
use Rattle.metric_path.specs.FileName.{file_name_of}
use Rattle.metric_path.proofs.FileNameLemmas.{utf8_of_file_name}
use Rattle.metric_path.proofs.path.MetricPath.file_name.Goals as goal

pub unreachable-requires : goal.unreachable-requires
unreachable-requires c =
    let is : c.in_ok-name.name.items ≡ file_name_of (string_bytes c.self.inside.text) = c.in_ok-name.ensures ∙ ap file_name_of c.as_bytes.ensures.value in
    false≢true (c.in-Err.ensures.succeeds (subst IsUtf8 (sym is) (utf8_of_file_name (string_bytes c.self.inside.text) c.self.invariant)))
