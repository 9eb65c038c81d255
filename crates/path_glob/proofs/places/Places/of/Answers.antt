use Rattle.std.proofs.Common.{◌<◌, ◌∙◌, ap, arith, length, refl}
use Rattle.std.proofs.lemmas.List.{length-set}
use Rattle.path_glob.specs.Places.{no_positions}
use Rattle.path_glob.specs.Positions.{held}
use Rattle.path_glob.specs.declared.positions.Positions.{Positions}
use Rattle.path_glob.proofs.PlaceLemmas.{any_default, filled, placed}
use Rattle.path_glob.proofs.places.Places.of.Goals as goal

pub loop-i-init : goal.loop-i-init
loop-i-init c = record {
  size = refl;
  done = λ b small. (λ j within. absurd (omega (arith, within)), λ j within. ap (λ (p : Positions). held p j) (filled 256 c.none-of.result no_positions b small) ∙ c.none-of.ensures j);
}

pub loop-i-preserved : goal.loop-i-preserved
loop-i-preserved c =
    let at = c.from-b.result in
    let within : at < length c.loop-i.of = omega (arith, c.loop-i.invariant.size, c.from-b.ensures, c.type_inv.node c.loop-i.i) in
    record {
      size = length-set c.loop-i.of at c.and.result ∙ c.loop-i.invariant.size;
      done = λ b small.
          placed c.args.node.now c.loop-i.of no_positions at c.and.result c.loop-i.i b within c.from-b.ensures c.and.ensures.added
          (λ j other. c.and.ensures.others j other ∙ ap (λ (p : Positions). held p j) (any_default c.loop-i.of at _ no_positions within)) (c.loop-i.invariant.done b small);
    }

pub returns : goal.returns
returns c = λ b j small within. (c.loop-i.invariant.done b small).0 j (omega (arith, within))
