use Rattle.std.proofs.Common.{rules, ◌≡◌, ℕ, List, codes, refl, ap, ◌∙◌}
use Rattle.std.proofs.lemmas.Str.Ascii.{trim_ascii_is}
use Rattle.std.specs.Str.{str_eq_ignore_ascii_case}
use Rattle.http_wire.specs.Fields.{is_close, without_first_blanks}
use Rattle.http_wire.proofs.fields.is_close.Goals as goal

pub returns : goal.returns
unfolding is_close
returns c =
    let test : c.eq_ignore_ascii_case.result ≡ str_eq_ignore_ascii_case c.trim_ascii.result.now (codes "close") = search rules in
    test
    ∙ ap (λ (t : List ℕ). str_eq_ignore_ascii_case t (codes "close"))
    (trim_ascii_is c.args.token.now c.trim_ascii.result.now (without_first_blanks c.args.token.now) refl c.trim_ascii.ensures.value)
