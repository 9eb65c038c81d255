use Rattle.std.proofs.Common.{◌≡◌, ◌≤◌, ◌<◌, ◌-◌, ◌*◌, ◌/◌, ◌%◌, arith, rules}
use Rattle.render_json.specs.Json.{no_text}
use Rattle.render_json.proofs.BackwardLemmas.{behind_time, next_time, no_text_long}
use Rattle.render_json.proofs.json_form.put_next_time.Goals as goal

pub put_time-end-requires : goal.put_time-end-requires
put_time-end-requires c = behind_time c.args.text.now no_text c.args.end c.args.time (search rules) no_text_long c.requires.room.1 c.requires.is

pub put_time-end-requires-then-next-base-ge10000 : goal.put_time-end-requires-then-next-base-ge10000
put_time-end-requires-then-next-base-ge10000 c = behind_time c.args.text.now no_text c.args.end c.args.time (search rules) no_text_long c.requires.room.1 c.requires.is

pub returns-clause-written : goal.returns-clause-written
returns-clause-written c =
    let args = c.args in
    let some : 10000 ≤ args.next = omega arith in
    let base : args.base ≡ args.time / 10000 * 10000 = c.requires.base.0 in
    let later : args.time ≤ args.next = c.requires.base.1 in
    let near : args.next - args.base < 10000 = search rules in
    let same : args.next / 10000 ≡ args.time / 10000 = omega (arith, base, later, near) in
    let digits : args.next - args.base ≡ args.next % 10000 = omega (arith, base, later, near) in
    let behind = behind_time args.text.now no_text args.end args.time (search rules) no_text_long c.requires.room.1 c.requires.is in
    next_time args.text.now c.put_last_digits.new.text no_text args.end args.time args.next (search rules) no_text_long c.requires.room.1 c.ranges.time.fits c.ranges.next.fits some same
    c.put_last_digits.ensures.before (rw behind at (rw digits at c.put_last_digits.ensures.written)) c.requires.is
