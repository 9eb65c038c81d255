use Rattle.target_parse.proofs.GlobLemmas.{glob_is_utf8}
use Rattle.target_parse.proofs.print.push_glob.Goals as goal

pub unreachable-requires : goal.unreachable-requires
unreachable-requires c = c.in_default.ensures.cases.0 (glob_is_utf8 c.text.result.now c.text.ensures.legal)
