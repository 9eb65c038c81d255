use Rattle.std.proofs.Common.{◌∙◌, ℕ, sym, subst, arith}
use Rattle.std.specs.List.{ReversedBelow}
use Rattle.shared_store.proofs.StartLemmas.{classes_fall, fresh_here, fresh_left, new_tail}
use Rattle.shared_store.proofs.start.open_classes.Goals as goal

pub loop-class-init : goal.loop-class-init
loop-class-init g c =
    let n = g.N.Named in
    let f = c.requires.fresh in record {
      count = c.requires.none;
      tails = omega (arith, c.args.tails.ok.0, f.tail_count, c.reverse.ensures.len);
      pairs = omega (arith, c.args.pairs.ok.0, f.pair_count, c.reverse-2.ensures.len);
      shards = omega (arith, c.args.shards.ok.0, f.shard_count, c.reverse-3.ensures.len);
      fresh = classes_fall {d = g.D.Disk} n.table n.halves n.told n.start n.faults c.args.tails.items c.reverse.new.self.items c.args.pairs.items c.reverse-2.new.self.items c.args.shards.items
          c.reverse-3.new.self.items f (omega (arith, c.reverse.new.self.ok.0, c.args.tails.ok.0, f.tail_count, c.reverse.ensures.len))
          (omega (arith, c.reverse-2.new.self.ok.0, c.args.pairs.ok.0, f.pair_count, c.reverse-2.ensures.len))
          (omega (arith, c.reverse-3.new.self.ok.0, c.args.shards.ok.0, f.shard_count, c.reverse-3.ensures.len))
          (subst (λ (k : ℕ). ReversedBelow c.args.tails.items c.reverse.new.self.items k) (omega (arith, c.args.tails.ok.0, f.tail_count)) c.reverse.ensures.by_index)
          (subst (λ (k : ℕ). ReversedBelow c.args.pairs.items c.reverse-2.new.self.items k) (omega (arith, c.args.pairs.ok.0, f.pair_count)) c.reverse-2.ensures.by_index)
          (subst (λ (k : ℕ). ReversedBelow c.args.shards.items c.reverse-3.new.self.items k) (omega (arith, c.args.shards.ok.0, f.shard_count)) c.reverse-3.ensures.by_index);
    }

pub open_class-requires : goal.open_class-requires
open_class-requires g c =
    let n = g.N.Named in
    fresh_here {d = g.D.Disk} n.table n.halves n.told n.start n.faults c.loop-class._class c.pop.new.self.items c.loop-class.tails.items c.in-Some.tail
    c.pop-in-loop-class.new.self.items c.loop-class.pairs.items c.in-Some-pop.pair c.pop-in-loop-class-2.new.self.items c.loop-class.shards.items c.in-Some-pop-2.shard
    c.loop-class.invariant.fresh c.loop-class-test.true c.in-Some.ensures.items c.in-Some-pop.ensures.items c.in-Some-pop-2.ensures.items

pub put-requires-clause-place : goal.put-requires-clause-place
put-requires-clause-place g c =
    let n = g.N.Named in
    let v = c.loop-class.invariant in
    let here = (new_tail {d = g.D.Disk} n.table n.halves n.told n.start n.faults c.loop-class._class c.pop.new.self.items c.loop-class.tails.items c.in-Some.tail
    c.pop-in-loop-class.new.self.items c.loop-class.pairs.items c.in-Some-pop.pair c.pop-in-loop-class-2.new.self.items c.loop-class.shards.items c.in-Some-pop-2.shard
    v.fresh c.loop-class-test.true c.in-Some.ensures.items c.in-Some-pop.ensures.items c.in-Some-pop-2.ensures.items).number in
    (c.open_class.ensures.desk ∙ (here ∙ sym v.count), c.open_class.ensures.files ∙ (here ∙ sym v.count))

pub loop-class-preserved : goal.loop-class-preserved
loop-class-preserved g c =
    let n = g.N.Named in
    let v = c.loop-class.invariant in record {
      count = omega (arith, v.count, c.put.ensures);
      tails = omega (arith, v.tails, c.in-Some.ensures.cases);
      pairs = omega (arith, v.pairs, c.in-Some-pop.ensures.cases);
      shards = omega (arith, v.shards, c.in-Some-pop-2.ensures.cases);
      fresh = fresh_left {d = g.D.Disk} n.table n.halves n.told n.start n.faults c.loop-class._class c.pop.new.self.items c.loop-class.tails.items c.in-Some.tail
          c.pop-in-loop-class.new.self.items c.loop-class.pairs.items c.in-Some-pop.pair c.pop-in-loop-class-2.new.self.items c.loop-class.shards.items c.in-Some-pop-2.shard
          v.fresh c.loop-class-test.true c.in-Some.ensures.items c.in-Some-pop.ensures.items c.in-Some-pop-2.ensures.items;
    }
