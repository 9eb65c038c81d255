use Rattle.std.proofs.Common.{◌≤◌, arith}
use Rattle.regex_hir.proofs.TextLemmas.{has_bytes_at_fits}
use Rattle.name_pattern.proofs.PlainLemmas.{too_long}
use Rattle.name_pattern.proofs.plain.Plain.place_in.Goals.{then-self, else-self, then-self-2, else-self-2}
use Rattle.name_pattern.proofs.plain.Plain.place_in.Goals as goal

pub returns-in_default-clause-none : goal.returns-in_default-clause-none
returns-in_default-clause-none c = λ i s.
    too_long _ _ _ c.args.name.now (omega (arith, c.in_default.ensures, c.len.ensures)) i s

pub returns-clause-none : goal.returns-clause-none
returns-clause-none c = λ i s.
    let fits = has_bytes_at_fits c.args.name.now i c.args.self.now.text.items s.bytes in
    let low : c.if-self.first ≤ i =
    elim c.if-self.branch [
      | then-self w ↦ omega (arith, w.first-is, s.end w.if-self.true, c.in-Some.ensures, c.len.ensures)
      | else-self w ↦ omega (arith, w.first-is)
    ] in
    let high : i ≤ c.if-self-2.last =
    elim c.if-self-2.branch [
      | then-self-2 w ↦ omega (arith, w.last-is, s.start w.if-self-2.true)
      | else-self-2 w ↦ omega (arith, w.last-is, fits, s.within, c.in-Some.ensures, c.len.ensures)
    ] in
    c.loop-at.invariant i (omega (arith, low, high, c.loop-at-test.false, c.loop-at.auto.at)) s
