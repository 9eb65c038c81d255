use Rattle.std.proofs.Common.{◌≡◌, [], arith, rules, drop, length}
use Rattle.std.proofs.lemmas.List.{drop_all}
use Rattle.render_json.specs.Csv.{point_fields, time_text}
use Rattle.render_json.proofs.csv_form.put_fields.Goals as goal

pub returns-clause-written : goal.returns-clause-written
unfolding point_fields time_text
returns-clause-written c =
    let text = c.args.text.now in
    let long : length text ≡ 56 = search rules in
    let last : drop 56 text ≡ [] = drop_all 56 text (omega (arith, long)) in
    rw (c.put.ensures.written, c.put_date-at.ensures.written, c.put-at-3.ensures.written, c.put_clock-at.ensures.written, c.put-at-2.ensures.written, c.put_value_or-at.ensures.written, c.put-at.ensures.written, last, c.requires.date)
