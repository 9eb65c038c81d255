use Rattle.target_parse.proofs.AsciiLemmas.{ascii_is_utf8}
use Rattle.target_parse.proofs.read.ascii_word.Goals as goal

pub unreachable-requires : goal.unreachable-requires
unreachable-requires c = c.in_default.ensures.cases.0 (ascii_is_utf8 c.args.text.now c.requires)
