use Rattle.std.proofs.Common.{◌≡◌, ◌∷◌, ◌∙◌, ◌<◌, ℕ, ap, arith, length, sym}
use Rattle.path_glob.specs.Glob.{AnyRow, Exact}
use Rattle.path_glob.specs.Positions.{held}
use Rattle.path_glob.specs.Reading.{row_of}
use Rattle.path_glob.specs.declared.cut.ByteSet.TheVariants.{One}
use Rattle.path_glob.proofs.CoverLemmas.{row_of_byte}
use Rattle.path_glob.proofs.PositionLemmas.{leads_any_row, leads_byte}
use Rattle.path_glob.proofs.cover.next_step.Goals as goal

pub returns-then-first-eq42 : goal.returns-then-first-eq42
returns-then-first-eq42 c =
    let node = c.args.node.now in
    let after = c.in-Some.after.now in
    let star : c.in-Some.first.now ≡ 42 = grind arith in
    let whole : c.args.row.now ≡ 42 ∷ after = c.in-Some.ensures.cases.0 ∙ ap (λ (b : ℕ). b ∷ after) star in
    let shorter : length after < length c.args.row.now = omega (arith, ap length whole) in
    (AnyRow, ap row_of whole, shorter, leads_any_row node (held c.args.start) (held c.after_any_row-reached.result) (λ j within. c.after_any_row-reached.ensures j (omega (arith, within, c.requires))))

pub returns-then-not-is_special : goal.returns-then-not-is_special
returns-then-not-is_special c =
    let node = c.args.node.now in
    let first = c.in-Some.first.now in
    let after = c.in-Some.after.now in
    let whole : c.args.row.now ≡ first ∷ after = c.in-Some.ensures.cases.0 in
    let shorter : length after < length c.args.row.now = omega (arith, ap length whole) in (
      Exact first,
      ap row_of whole ∙ row_of_byte first after (sym c.if-not-is_special.ensures),
      shorter,
      leads_byte (One first) node (held c.args.start) (held c.after_one-reached.result) c.after_one-reached.ensures.first c.after_one-reached.ensures.next,
    )
