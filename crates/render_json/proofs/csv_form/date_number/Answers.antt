use Rattle.std.proofs.Common.{◌≡◌, ◌∙◌, pos, unsigned_abs, ap, arith, rules}
use Rattle.std.specs.Int.{w16}
use Rattle.jiff_core.specs.Date.{epoch_day}
use Rattle.jiff_core.proofs.SignedLemmas.{back_small}
use Rattle.render_json.proofs.DateLemmas.{number_is, small}
use Rattle.render_json.proofs.csv_form.date_number.Goals as goal

pub returns-clause-value : goal.returns-clause-value
returns-clause-value c =
    let date = c.in-Ok.date in
    let day : epoch_day date ≡ pos c.args.days = search rules in
    let year : c.unsigned_abs.result ≡ unsigned_abs date.year =
    c.unsigned_abs.ensures.value ∙ ap unsigned_abs (back_small w16 date.year (omega (arith, small date.year date.year_in))) in
    omega (arith, number_is date c.args.days day, c.from-2.ensures, c.from-3.ensures, c.from-4.ensures, year)
