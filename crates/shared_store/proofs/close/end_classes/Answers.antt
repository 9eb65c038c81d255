use Rattle.std.proofs.Common.{◌≡◌, ℕ, subst, arith}
use Rattle.shared_store.specs.Closes.{EndsBelow}
use Rattle.shared_store.proofs.CloseLemmas.{ends_more, ends_none, still_of_table}
use Rattle.shared_store.proofs.close.end_classes.Goals as goal

pub loop-class-init : goal.loop-class-init
loop-class-init g c = record {
  left = omega (arith, c.reverse.ensures.len, c.requires.sixteen.0);
  files = omega (arith, c.reverse-2.ensures.len, c.requires.sixteen.1);
  disk_room = c.requires.room.0;
  tail_room = c.requires.room.1;
  ends = ends_none g.D.Disk g.N.Named.table g.N.Named.told g.N.Named.start g.N.Named.faults c.args.ends.disks.items c.args.ends.tails.items c.args.passes.now
      (omega (arith, c.args.ends.disks.ok.0, c.requires.none.0)) (omega (arith, c.args.ends.tails.ok.0, c.requires.none.1));
}

pub end_class-end-requires : goal.end_class-end-requires
end_class-end-requires g c = record {
  one = still_of_table g.D.Disk g.N.Named.table g.N.Named.told g.N.Named.start g.N.Named.faults c.loop-class.class c.loop-class.ends.disks.items c.loop-class.ends.tails.items
      c.args.passes.now c.loop-class.passes c.loop-class.invariant.ends c.requires.one;
}

pub loop-class-preserved : goal.loop-class-preserved
loop-class-preserved g c =
    let v = c.loop-class.invariant in record {
      left = omega (arith, v.left, c.in-Some.ensures.cases);
      files = omega (arith, v.files, c.in-Some-pop.ensures.cases);
      disk_room = omega (arith, v.disk_room, c.put.ensures.disk_room);
      tail_room = omega (arith, v.tail_room, c.put.ensures.tail_room);
      ends = ends_more g.D.Disk g.N.Named.table g.N.Named.told g.N.Named.start g.N.Named.faults c.loop-class.class c.loop-class.ends.disks.items c.put.new.self.disks.items
          c.loop-class.ends.tails.items c.put.new.self.tails.items c.args.passes.now c.loop-class.passes c.end_class-end.new.passes
          c.end_class-end.result.disk c.end_class-end.result.tail v.ends c.end_class-end.ensures.ends c.end_class-end.ensures.look c.put.ensures.disks c.put.ensures.tails;
    }

pub returns : goal.returns
returns g c =
    let all : c.loop-class.class ≡ 16 = omega (arith, c.loop-class-test.false, c.loop-class.invariant.left) in
    subst (λ (k : ℕ). EndsBelow g.D.Disk g.N.Named.table g.N.Named.told g.N.Named.start g.N.Named.faults k c.loop-class.ends.disks.items c.loop-class.ends.tails.items c.args.passes.now c.loop-class.passes) all
    c.loop-class.invariant.ends
