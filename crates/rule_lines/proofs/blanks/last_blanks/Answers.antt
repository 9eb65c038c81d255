use Rattle.std.proofs.Common.{◌∙◌, ap, sym}
use Rattle.std.specs.Option.{unwrap_or}
use Rattle.std.proofs.lemmas.List.{length-reverse}
use Rattle.rule_lines.proofs.PlaceLemmas.{position_or_len-from_position}
use Rattle.rule_lines.proofs.blanks.last_blanks.Goals as goal

pub returns-clause-count : goal.returns-clause-count
returns-clause-count c =
    c.unwrap_or.ensures ∙ (ap (unwrap_or c.last_no_blank_in.result) (sym (length-reverse c.args.text.now)) ∙ position_or_len-from_position _ _ _ c.last_no_blank_in.ensures)
