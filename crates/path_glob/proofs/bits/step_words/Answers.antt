use Rattle.std.proofs.Common.{arith, refl}
use Rattle.path_glob.proofs.WordLemmas.{moved_bits, moved_more, now_moving}
use Rattle.path_glob.proofs.bits.step_words.Goals as goal

pub loop-k-init : goal.loop-k-init
loop-k-init c = record { before = refl; moved = (λ j below. absurd (omega (arith, below)), λ j above. refl) }

pub loop-k-preserved : goal.loop-k-preserved
loop-k-preserved c =
    let k = c.loop-k.k in
    record {
      before = now_moving c.args.words.now c.args.on.now c.loop-k.words k (c.loop-k.invariant.moved.1 k (omega arith));
      moved = moved_more c.args.words.now c.args.on.now c.args.stay.now c.loop-k.words k c.loop-k.before c.next_word.result (omega arith) c.loop-k.invariant.before c.loop-k.invariant.moved
          c.next_word.ensures.first c.next_word.ensures.next;
    }

pub returns : goal.returns
returns c =
    moved_bits c.args.words.now c.args.on.now c.args.stay.now c.loop-k.words (λ k within. c.loop-k.invariant.moved.0 k (omega (arith, within)))
