use Rattle.std.proofs.Common.{ap, refl, ◌∙◌}
use Rattle.std.specs.List.{list_all}
use Rattle.std.specs.Char.{is_ascii_digit}
use Rattle.fixed_num.proofs.ReachLemmas.{digits_front, reached_record}
use Rattle.fixed_num.proofs.scaling.reached_by.Goals as goal

pub capped_number_after-first-requires : goal.capped_number_after-first-requires
capped_number_after-first-requires c =
    record { digits = ap (list_all is_ascii_digit) c.cut_at.ensures.front ∙ digits_front c.saturating_sub-keep.result c.args.whole.now c.requires.whole }

pub capped_number_after-both-requires : goal.capped_number_after-both-requires
capped_number_after-both-requires c =
    record { digits = ap (list_all is_ascii_digit) c.cut_at-2.ensures.front ∙ digits_front c.saturating_sub.result c.args.fraction.now c.requires.fraction }

pub returns-clause-value : goal.returns-clause-value
returns-clause-value c =
    let parts = reached_record c.args.whole.now c.args.fraction.now _ _ _ _ c.args.up c.args.down _ _ _ _ _ _ _ c.requires.whole c.requires.fraction
    c.saturating_sub-keep.ensures c.saturating_sub.ensures c.saturating_sub-zeros.ensures
    c.cut_at.ensures.front c.cut_at.ensures.rest c.cut_at-2.ensures.front c.cut_at-2.ensures.rest
    c.capped_number_after-first.ensures c.capped_number_after-both.ensures c.capped_tens-tens.ensures c.are_zeros.ensures in
    rw (c.min.ensures, parts.0, parts.1) refl
