use Rattle.std.proofs.Common.{◌+◌, drop}
use Rattle.std.proofs.lemmas.List.{take_rest}
use Rattle.std.specs.Str.{IsUtf8}
use Rattle.rule_lines.specs.TextLines.{without_first_blanks}
use Rattle.schema_rules.proofs.TextLemmas.{utf8_behind, utf8_from_first}
use Rattle.schema_rules.proofs.section.value_behind.Goals as goal

pub unreachable-requires : goal.unreachable-requires
unreachable-requires c =
    let behind : IsUtf8 (drop (c.args.at + 1) c.args.line.now) = utf8_behind c.args.line.now c.args.at c.utf8.line c.requires.place c.requires.ascii in
    let value : IsUtf8 (without_first_blanks (drop (c.args.at + 1) c.args.line.now)) = utf8_from_first (drop (c.args.at + 1) c.args.line.now) behind in
    c.in-Err.ensures.cases.0 (rw (c.without_first_blanks-value.ensures, take_rest, c.as_bytes.ensures.value) value)
