use Rattle.std.proofs.Common.{◌<◌, length, ap, arith, length-drop}
use Rattle.metric_line.proofs.PlainLemmas.{two_plain}
use Rattle.metric_line.proofs.plain.plain_fields.Goals as goal

pub returns-clause-fields : goal.returns-clause-fields
returns-clause-fields c =
    let others = c.in_ok-others.others.now in
    let front = c.in_ok-front in
    let back = c.split_at.ensures.back in
    let within : front.front.len < length others = omega (arith, c.in_ok-time_text.ensures.blank.0, ap length back, length-drop front.front.len others) in
    rw c.split_at.ensures.front
    (two_plain c.args.text.now others c.split_at.result.1.now c.in_ok-time_text.time_text.now front.front.len c.in_ok-seconds.seconds
    c.in_ok-others.ensures.fields front.ensures.some within front.ensures.clean back c.in_ok-time_text.ensures.blank.1 c.in_ok-time_text.ensures.fields c.in_ok-seconds.ensures)
