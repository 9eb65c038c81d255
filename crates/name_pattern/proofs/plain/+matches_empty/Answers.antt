use Rattle.std.proofs.Common.{◌≡◌, ap, ◌∙◌, rules}
use Rattle.regex_hir.specs.Meaning.{meaning, repeat}
use Rattle.regex_hir.proofs.MeaningLemmas.{meaning-Repetition}
use Rattle.name_pattern.proofs.PlainLemmas.{empty_repeat}
use Rattle.name_pattern.specs.PlainTexts.{MatchesEmpty}
use Rattle.name_pattern.proofs.plain.+matches_empty.Goals as goal

pub returns-in-Repetition : goal.returns-in-Repetition
returns-in-Repetition t c = λ none.
    let arm = c.in-Repetition in
    let least : arm.min ≡ 0 = search rules in
    let is = ap meaning arm.is ∙ meaning-Repetition _ _ _ _ ∙ ap (λ n. repeat n arm.max arm.greedy (meaning arm.sub.value)) least in
    rw is (empty_repeat arm.max arm.greedy (meaning arm.sub.value))
