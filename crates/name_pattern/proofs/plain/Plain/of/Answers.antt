use Rattle.std.proofs.Common.{List, [], ◌∷◌, map, IfOk, IfSome, subst}
use Rattle.regex_hir.specs.Meaning.{meaning, cat_all}
use Rattle.regex_hir.specs.declared.hir.Hir.{Hir}
use Rattle.name_pattern.proofs.PlainLemmas.{asks_alone, told_more}
use Rattle.name_pattern.specs.PlainTexts.{Asks}
use Rattle.name_pattern.proofs.plain.Plain.of.Goals as goal

pub returns-in_default : goal.returns-in_default
returns-in_default c =
    let alone : IfOk c.of_parts-in_default.result (λ o. IfSome o (Asks (cat_all (map meaning (c.args.hir.now ∷ []))))) =
    subst (λ (hs : List Hir). IfOk c.of_parts-in_default.result (λ o. IfSome o (Asks (cat_all (map meaning hs))))) c.from_ref.ensures.value c.of_parts-in_default.ensures in
    told_more c.of_parts-in_default.result (λ p h. asks_alone _ p.text.items p.at_start p.at_end h) alone
