use Rattle.std.proofs.Common.{◌≡◌, ◌-◌, ℕ, length, Some, None, Err, take, drop, sym, ap, ◌∙◌, rules}
use Rattle.std.specs.Str.Lossy.{utf8_valid_len}
use Rattle.target_parse.specs.declared.fault.Stop.TheVariants.{Left}
use Rattle.target_parse.specs.Reading.{before_byte, behind_byte, from_byte}
use Rattle.target_parse.proofs.ReadLemmas.{quoted_bad, quoted_closed, quoted_open}
use Rattle.target_parse.proofs.read.read_quoted.Goals as goal

pub returns-in-Err-clause-err : goal.returns-in-Err-clause-err
returns-in-Err-clause-err c = λ other.
    let front : c.split_at.result.0.now ≡ before_byte c.args.quote c.args.text.now = c.split_at.ensures.front ∙ ap (λ (n : ℕ). take n c.args.text.now) c.place_of_byte.ensures.place in
    let left : length c.args.text.now - utf8_valid_len c.split_at.result.0.now ≡ c.saturating_sub.result = search rules in
    quoted_bad c.args.quote c.args.text.now c.split_at.result.0.now front c.in-Err.ensures.cases.0 ∙ ap (λ (n : ℕ). Err (Left n)) left

pub returns-in_default-clause-err : goal.returns-in_default-clause-err
returns-in_default-clause-err c = λ other.
    let front : c.split_at.result.0.now ≡ before_byte c.args.quote c.args.text.now = c.split_at.ensures.front ∙ ap (λ (n : ℕ). take n c.args.text.now) c.place_of_byte.ensures.place in
    let back : c.split_at.result.1.now ≡ from_byte c.args.quote c.args.text.now = c.split_at.ensures.back ∙ ap (λ (n : ℕ). drop n c.args.text.now) c.place_of_byte.ensures.place in
    let none : behind_byte c.args.quote (from_byte c.args.quote c.args.text.now) ≡ None = ap (behind_byte c.args.quote) (sym back) ∙ sym c.in_default.ensures in
    quoted_open c.args.quote c.args.text.now c.split_at.result.0.now front c.in-Ok.ensures.cases.1 none

pub returns-clause-ok : goal.returns-clause-ok
returns-clause-ok c =
    let front : c.split_at.result.0.now ≡ before_byte c.args.quote c.args.text.now = c.split_at.ensures.front ∙ ap (λ (n : ℕ). take n c.args.text.now) c.place_of_byte.ensures.place in
    let back : c.split_at.result.1.now ≡ from_byte c.args.quote c.args.text.now = c.split_at.ensures.back ∙ ap (λ (n : ℕ). drop n c.args.text.now) c.place_of_byte.ensures.place in
    let found : behind_byte c.args.quote (from_byte c.args.quote c.args.text.now) ≡ Some c.in-Some.rest.now = ap (behind_byte c.args.quote) (sym back) ∙ sym c.in-Some.ensures in
    quoted_closed c.args.quote c.args.text.now c.split_at.result.0.now c.in-Some.rest.now c.in_ok-new.field-0 front c.in-Ok.ensures.cases.1 found (c.in_ok-new.ensures ∙ c.in-Ok.ensures.cases.0)
