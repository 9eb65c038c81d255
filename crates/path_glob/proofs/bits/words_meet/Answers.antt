use Rattle.std.proofs.Common.{◌<◌, ◌^◌, arith, get_or}
use Rattle.path_glob.proofs.WordLemmas.{found_more, has_met, none_yet}
use Rattle.path_glob.proofs.bits.words_meet.Goals as goal

pub loop-k-init : goal.loop-k-init
loop-k-init c = none_yet c.args.words.now c.args.others.now

pub loop-k-preserved : goal.loop-k-preserved
loop-k-preserved c =
    let small : get_or c.args.words.now c.loop-k.k 0 < 2 ^ 64 = omega (arith, c.type_inv.words c.loop-k.k) in
    found_more c.args.words.now c.args.others.now c.loop-k.common c.loop-k.k small c.loop-k.invariant

pub returns : goal.returns
returns c = (
  λ yes. c.loop-k.invariant.met (c.has_bit.ensures.0 yes),
  λ met. c.has_bit.ensures.1 (has_met c.args.words.now c.args.others.now c.loop-k.common c.loop-k.k (omega arith) c.loop-k.invariant met),
)
