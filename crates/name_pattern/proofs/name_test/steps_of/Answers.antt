use Rattle.std.proofs.Common.{map, option_map, string_bytes}
use Rattle.regex.specs.Patterns.{default_config, Reads}
use Rattle.name_pattern.proofs.PatternLemmas.{searches_for_text}
use Rattle.name_pattern.proofs.name_test.steps_of.Goals as goal

pub returns-clause-searches : goal.returns-clause-searches
returns-clause-searches c =
    let read : Reads default_config c.args.text.now c.in-Ok.field-0.hir (map (option_map string_bytes) c.in-Ok.field-0.names.items) = rw c.default.ensures at c.in-Ok.ensures.ok in
    searches_for_text c.args.text.now c.in-Ok.field-0.hir (map (option_map string_bytes) c.in-Ok.field-0.names.items) read
