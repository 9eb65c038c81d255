use Rattle.std.proofs.Common.{◌∙◌, ap, sym, arith, get_or, ℕ}
use Rattle.path_glob.specs.Parts.{covers_byte}
use Rattle.path_glob.specs.Positions.{held}
use Rattle.path_glob.specs.declared.positions.Positions.{Positions}
use Rattle.path_glob.proofs.BitLemmas.{done_more}
use Rattle.path_glob.proofs.positions.covered.Goals as goal
use Rattle.path_glob.proofs.positions.covered.Goals.{then-is_covered, else-is_covered}

pub loop-i-init : goal.loop-i-init
loop-i-init c = (λ j within. absurd (omega (arith, within)), λ j within. c.none-found.ensures j)

pub loop-i-preserved : goal.loop-i-preserved
loop-i-preserved c =
    let i = c.loop-i.i in
    let covers = λ (j : ℕ). covers_byte c.args.bytes (get_or c.args.node.now j 0) in
    elim c.if-is_covered.branch [
      | then-is_covered w ↦
          done_more covers (held c.loop-i.found) (held c.if-is_covered.found) i
          (ap (λ (p : Positions). held p i) w.found-is ∙ w.and-found.ensures.added ∙ sym (sym c.is_covered.ensures ∙ w.if-is_covered.true))
          (λ j other. ap (λ (p : Positions). held p j) w.found-is ∙ w.and-found.ensures.others j other) c.loop-i.invariant
      | else-is_covered w ↦
          done_more covers (held c.loop-i.found) (held c.if-is_covered.found) i
          (ap (λ (p : Positions). held p i) w.found-is ∙ c.loop-i.invariant.1 i (omega arith) ∙ sym (sym c.is_covered.ensures ∙ w.if-is_covered.false))
          (λ j other. ap (λ (p : Positions). held p j) w.found-is) c.loop-i.invariant
    ]

pub returns : goal.returns
returns c = λ j within. c.loop-i.invariant.0 j (omega (arith, within))
