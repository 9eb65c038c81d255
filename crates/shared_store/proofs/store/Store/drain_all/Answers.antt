use Rattle.std.proofs.Common.{◌-◌, add-one, arith, refl, subst, sym}
use Rattle.shared_store.specs.declared.drain_end.DrainEnd.{DrainEnd}
use Rattle.shared_store.specs.Drains.{DrainsTo}
use Rattle.shared_store.proofs.DrainLemmas.{all_done, all_stop, few_all, few_at_stop, few_class, few_first, first_more, first_none, on_more, on_none}
use Rattle.shared_store.proofs.store.Store.drain_all.Goals as goal

pub loop-class-init : goal.loop-class-init
loop-class-init g c = record {
  first = first_none g.N.Named.start g.N.Named.passes c.args.now c.args.pass.now;
  few = few_first g.N.Named.start g.N.Named.passes c.args.pass.now;
  looks = on_none c.args.pass.now;
  room = c.requires.room;
}

pub loop-class-preserved : goal.loop-class-preserved
loop-class-preserved g c = record {
  first = rw add-one (first_more g.N.Named.start g.N.Named.passes c.args.now c.loop-class.class c.args.pass.now c.loop-class.pass c.drain_class.new.pass
      c.loop-class.invariant.first c.in-Ok.ensures.drains c.drain_class.ensures.looks);
  few = rw add-one (few_class g.N.Named.start g.N.Named.passes c.args.now c.loop-class.class c.args.pass.now c.loop-class.pass c.drain_class.new.pass
      c.loop-class.invariant.first c.loop-class.invariant.few c.in-Ok.ensures.drains c.drain_class.ensures.few);
  looks = on_more c.loop-class.class c.args.pass.now c.loop-class.pass c.drain_class.new.pass c.loop-class.invariant.looks c.drain_class.ensures.looks;
  room = c.in-Ok.ensures.drains.room;
}

pub returns-in-Err-clause-drains : goal.returns-in-Err-clause-drains
returns-in-Err-clause-drains g c =
    subst (λ (e : DrainEnd). DrainsTo g.N.Named.start g.N.Named.passes c.args.now e c.args.pass.now c.drain_class.new.pass) (sym c.end_of.ensures)
    (all_stop g.N.Named.start g.N.Named.passes c.args.now c.loop-class.class c.in-Err.stop c.args.pass.now c.loop-class.pass c.drain_class.new.pass
    (omega (arith, c.loop-class-test.true)) c.loop-class.invariant.first c.loop-class.invariant.looks c.in-Err.ensures.drains c.drain_class.ensures.looks)

pub returns-in-Err-clause-few : goal.returns-in-Err-clause-few
returns-in-Err-clause-few g c =
    few_at_stop g.N.Named.start g.N.Named.passes c.args.now c.loop-class.class c.in-Err.stop c.args.pass.now c.loop-class.pass c.drain_class.new.pass
    c.loop-class.invariant.first c.loop-class.invariant.few c.in-Err.ensures.drains c.drain_class.ensures.few

pub returns-clause-few : goal.returns-clause-few
returns-clause-few g c =
    few_all g.N.Named.start g.N.Named.passes c.loop-class.class c.args.pass.now c.loop-class.pass (omega (arith, c.loop-class-test.false, c.loop-class.auto.class-end))
    c.loop-class.invariant.few

pub returns-clause-drains : goal.returns-clause-drains
returns-clause-drains g c =
    all_done g.N.Named.start g.N.Named.passes c.args.now c.loop-class.class (c.left-before.result - c.left.result) c.args.pass.now c.loop-class.pass
    (omega (arith, c.loop-class-test.false, c.loop-class.auto.class-end)) c.loop-class.invariant.first c.left-before.result c.left.result
    c.left-before.ensures c.left.ensures refl c.loop-class.invariant.room
