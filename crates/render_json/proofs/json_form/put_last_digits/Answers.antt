use Rattle.std.proofs.Common.{◌≡◌, ◌∷◌, ◌∙◌, set, arith, rules, length, drop}
use Rattle.std.proofs.lemmas.List.{drop-set, take-set-le}
use Rattle.render_json.proofs.BackwardLemmas.{take_earlier}
use Rattle.render_json.proofs.json_form.put_last_digits.Goals as goal

pub returns-clause-before : goal.returns-clause-before
returns-clause-before c =
    c.set_pair-2.ensures.before ∙ (take_earlier 59 61 _ _ (omega arith) c.set_pair.ensures.before ∙ take-set-le 59 c.args.text.now 63 93 (omega arith))

pub returns-clause-written : goal.returns-clause-written
returns-clause-written c =
    let text = c.args.text.now in
    let long : length text ≡ 128 = search rules in
    let last : drop 63 (set text 63 93) ≡ 93 ∷ drop 64 text = drop-set text 63 93 (omega (arith, long)) in
    rw (c.set_pair-2.ensures.written, c.set_pair.ensures.written, last)
