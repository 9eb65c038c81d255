use Rattle.std.proofs.Common.{arith}
use Rattle.shared_store.proofs.DrainLemmas.{few_here, few_stopped, few_unwritten, here_all, here_more, in_both, in_same, leaves_none, leaves_whole, most_begin, most_few, most_next, part_none, stops_more, stops_writing, turns_begin, turns_more}
use Rattle.shared_store.proofs.store.Store.drain_class.Goals as goal

pub returns-in-Err-clause-drains : goal.returns-in-Err-clause-drains
returns-in-Err-clause-drains g c =
    stops_writing g.N.Named.start g.N.Named.passes c.args.class c.args.now c.in-Err.stop c.args.pass.now c.pending-most.new.pass c.finish.new.pass
    (part_none g.N.Named.start g.N.Named.passes c.args.class c.args.now c.args.pass.now c.pending-most.new.pass c.pending-most.ensures.enters)
    (leaves_none g.N.Named.start g.N.Named.passes c.args.class c.args.pass.now c.pending-most.new.pass
    (in_same c.args.class c.args.pass.now c.pending-most.new.pass c.pending-most.ensures.looks).here.settled) c.in-Err.ensures.writes

pub returns-in-Err-clause-few : goal.returns-in-Err-clause-few
returns-in-Err-clause-few g c =
    few_unwritten g.N.Named.start g.N.Named.passes c.args.class c.pending-most.result c.in-Err.stop c.args.pass.now c.pending-most.new.pass c.finish.new.pass
    c.pending-most.ensures.enters c.pending-most.ensures.count c.in-Err.ensures.writes c.finish.ensures.none

pub loop-turn-init : goal.loop-turn-init
loop-turn-init g c = record {
  turns = turns_begin g.N.Named.start g.N.Named.passes c.args.class c.args.now c.pending-most.result c.args.pass.now c.pending-most.new.pass c.finish.new.pass
      c.pending-most.ensures.enters c.pending-most.ensures.count c.in-Ok.ensures.writes;
  most = most_begin g.N.Named.start g.N.Named.passes c.args.class c.pending-most.result c.args.pass.now c.pending-most.new.pass c.finish.new.pass
      c.pending-most.ensures.enters c.pending-most.ensures.count c.in-Ok.ensures.writes c.finish.ensures.none;
  looks = in_both c.args.class c.args.pass.now c.pending-most.new.pass c.finish.new.pass
      (in_same c.args.class c.args.pass.now c.pending-most.new.pass c.pending-most.ensures.looks) c.finish.ensures.looks;
}

pub loop-turn-preserved : goal.loop-turn-preserved
loop-turn-preserved g c =
    let drains = rw c.in-Ok-true.field-0-test at c.in-Ok-true.ensures.drains in record {
      turns = turns_more g.N.Named.start g.N.Named.passes c.args.class c.args.now c.pending-most.result c.loop-turn._turn c.args.pass.now c.loop-turn.pass c.drain_next.new.pass
          c.loop-turn.invariant.turns drains;
      most = most_next g.N.Named.start g.N.Named.passes c.args.class c.args.now c.pending-most.result c.loop-turn._turn c.args.pass.now c.loop-turn.pass c.drain_next.new.pass
          c.loop-turn.invariant.most drains c.drain_next.ensures.one;
      looks = in_both c.args.class c.args.pass.now c.loop-turn.pass c.drain_next.new.pass c.loop-turn.invariant.looks c.drain_next.ensures.looks;
    }

pub returns-in-Ok-false-clause-drains : goal.returns-in-Ok-false-clause-drains
returns-in-Ok-false-clause-drains g c =
    let drains = rw c.in-Ok-false.field-0-test at c.in-Ok-false.ensures.drains in
    here_more g.N.Named.start g.N.Named.passes c.args.class c.args.now c.args.pass.now c.loop-turn.pass c.drain_next.new.pass c.loop-turn.invariant.turns.part drains

pub returns-in-Ok-false-clause-few : goal.returns-in-Ok-false-clause-few
returns-in-Ok-false-clause-few g c =
    let drains = rw c.in-Ok-false.field-0-test at c.in-Ok-false.ensures.drains in
    few_here g.N.Named.start g.N.Named.passes c.args.class c.args.now c.pending-most.result c.loop-turn._turn c.args.pass.now c.loop-turn.pass c.drain_next.new.pass c.loop-turn-test.true
    c.loop-turn.invariant.most drains c.drain_next.ensures.one

pub returns-in-Err-drain_next-clause-drains : goal.returns-in-Err-drain_next-clause-drains
returns-in-Err-drain_next-clause-drains g c =
    stops_more g.N.Named.start g.N.Named.passes c.args.class c.args.now c.in-Err-drain_next.stop c.args.pass.now c.loop-turn.pass c.drain_next.new.pass
    c.loop-turn.invariant.turns.part
    (leaves_whole g.N.Named.start g.N.Named.passes c.args.class c.loop-turn.invariant.turns.part.made c.args.pass.now c.loop-turn.pass c.loop-turn.invariant.turns.whole)
    c.in-Err-drain_next.ensures.drains

pub returns-in-Err-drain_next-clause-few : goal.returns-in-Err-drain_next-clause-few
returns-in-Err-drain_next-clause-few g c =
    few_stopped g.N.Named.start g.N.Named.passes c.args.class c.args.now c.pending-most.result c.loop-turn._turn c.in-Err-drain_next.stop c.args.pass.now c.loop-turn.pass
    c.drain_next.new.pass c.loop-turn-test.true c.loop-turn.invariant.most c.in-Err-drain_next.ensures.drains c.drain_next.ensures.one

pub returns-clause-drains : goal.returns-clause-drains
returns-clause-drains g c =
    here_all g.N.Named.start g.N.Named.passes c.args.class c.args.now c.pending-most.result c.loop-turn._turn c.args.pass.now c.loop-turn.pass
    (omega (arith, c.loop-turn-test.false)) c.loop-turn.invariant.turns

pub returns-clause-few : goal.returns-clause-few
returns-clause-few g c =
    most_few g.N.Named.start c.args.class c.pending-most.result c.loop-turn._turn c.args.pass.now c.loop-turn.pass (omega (arith, c.loop-turn.auto._turn-end))
    c.loop-turn.invariant.most
