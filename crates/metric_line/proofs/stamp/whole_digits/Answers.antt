use Rattle.std.proofs.Common.{◌∙◌, sym}
use Rattle.metric_line.proofs.StampLemmas.{whole_digits_none, whole_digits_some}
use Rattle.metric_line.proofs.stamp.whole_digits.Goals as goal

pub returns-then-not-is_cut_time-clause-whole : goal.returns-then-not-is_cut_time-clause-whole
returns-then-not-is_cut_time-clause-whole c =
    let cut = rw (c.split_at.ensures.front, c.split_at.ensures.back, c.first_point.ensures.place) at c.is_cut_time.ensures in
    sym (whole_digits_none c.args.text.now (sym cut ∙ c.if-not-is_cut_time.true))

pub returns-clause-whole : goal.returns-clause-whole
returns-clause-whole c =
    let cut = rw (c.split_at.ensures.front, c.split_at.ensures.back, c.first_point.ensures.place) at c.is_cut_time.ensures in
    rw (c.split_at.ensures.front, c.first_point.ensures.place) (sym (whole_digits_some c.args.text.now (sym cut ∙ c.if-not-is_cut_time.false)))
