use Rattle.std.proofs.Common.{◌≡◌, sym, ◌∙◌, Some, rules}
use Rattle.std.proofs.lemmas.List.{take_rest}
use Rattle.std.specs.List.{position}
use Rattle.rule_lines.specs.TextLines.{is_lf}
use Rattle.rule_lines.proofs.SplitLemmas.{lines_first, lines_none}
use Rattle.rule_lines.proofs.lines.next_line.Goals as goal

pub returns-in-Some : goal.returns-in-Some
returns-in-Some c =
    let found : position is_lf c.args.text.now ≡ Some c.in-Some.at = sym c.lf_in.ensures.value ∙ c.in-Some.is in
    (rw (c.without_carriage_return.ensures, take_rest) (lines_first c.args.text.now c.in-Some.at found), search rules)

pub returns-in-None : goal.returns-in-None
returns-in-None c = lines_none c.args.text.now (sym c.lf_in.ensures.value ∙ c.in-None.is)
