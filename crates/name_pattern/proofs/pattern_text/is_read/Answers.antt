use Rattle.std.proofs.Common.{◌≡◌, map, option_map, string_bytes, sym, ◌∙◌}
use Rattle.std.proofs.lemmas.Result.{IfOk-weaker}
use Rattle.regex.specs.Patterns.{default_config, Reads, Refuses}
use Rattle.name_pattern.proofs.PatternLemmas.{readable, not_readable}
use Rattle.name_pattern.proofs.pattern_text.is_read.Goals as goal

pub returns-in-Ok : goal.returns-in-Ok
returns-in-Ok c =
    let read : Reads default_config c.args.text.now c.in-Ok.field-0.hir (map (option_map string_bytes) c.in-Ok.field-0.names.items) = rw c.default.ensures at c.in-Ok.ensures.ok in
    sym (readable c.args.text.now c.in-Ok.field-0.hir (map (option_map string_bytes) c.in-Ok.field-0.names.items) read)

pub returns-in-Err : goal.returns-in-Err
returns-in-Err c =
    let refused : Refuses default_config c.args.text.now c.in-Err.error.kind = rw c.default.ensures at c.in-Err.ensures.err in
    IfOk-weaker c.told.result _ _ (λ x p. p.0 ∙ sym (not_readable c.args.text.now c.in-Err.error.kind p.1 refused)) c.told.ensures
