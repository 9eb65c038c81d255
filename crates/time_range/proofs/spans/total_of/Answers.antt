use Rattle.std.proofs.Common.{◌≡◌, ◌+◌, refl, ◌<◌, ◌^◌, min, Some, None, length, take, drop, option_map, ◌∙◌, sym, arith, rules}
use Rattle.time_range.specs.Spans.{first_length, span_seconds, spans_of}
use Rattle.time_range.proofs.SpanLemmas.{total_end, total_fails, total_from_none, total_more}
use Rattle.time_range.proofs.spans.total_of.Goals as goal

pub returns-in_err-seconds : goal.returns-in_err-seconds
returns-in_err-seconds c =
    let some : 0 < length c.loop-rest.rest.now = search (rules, arith) in
    let none : None ≡ option_map (λ n. min n (2 ^ 100)) (span_seconds (take (first_length c.loop-rest.rest.now) c.loop-rest.rest.now)) = search rules in
    let is : c.from_residual.result ≡ None = search rules in
    is ∙ sym (sym (total_from_none (spans_of c.args.text.now)) ∙ (c.loop-rest.invariant.same ∙ total_fails c.loop-rest.rest.now c.loop-rest.total some none))

pub loop-rest-preserved : goal.loop-rest-preserved
loop-rest-preserved c =
    let some : 0 < length c.loop-rest.rest.now = search (rules, arith) in
    let own : Some c.in_ok-seconds.seconds ≡ option_map (λ n. min n (2 ^ 100)) (span_seconds (take (first_length c.loop-rest.rest.now) c.loop-rest.rest.now)) = search rules in
    let more : c.split_at.result.1.now ≡ drop (first_length c.loop-rest.rest.now) c.loop-rest.rest.now = search rules in
    let sum : c.cut-total.result ≡ min (c.loop-rest.total + c.in_ok-seconds.seconds) (2 ^ 100) = search rules in
    record {
      same = c.loop-rest.invariant.same ∙ (total_more c.loop-rest.rest.now c.loop-rest.total c.in_ok-seconds.seconds some own ∙ rw (sum, more) refl);
      most = omega (arith, sum);
    }

pub returns : goal.returns
returns c =
    let none : length c.loop-rest.rest.now ≡ 0 = search (rules, arith) in
    sym (sym (total_from_none (spans_of c.args.text.now)) ∙ (c.loop-rest.invariant.same ∙ total_end c.loop-rest.rest.now c.loop-rest.total none c.loop-rest.invariant.most))
