use Rattle.shared_store.proofs.LearnLemmas.{alone_both, alone_itself, knows_nothing}
use Rattle.shared_store.proofs.store.Store.names_in.Goals as goal

pub loop-piece-init : goal.loop-piece-init
loop-piece-init g c = record {
  names = knows_nothing g.N.Named.start c.args.pass.now.looks c.args.class c.new-names.result.items c.new-names.ensures.items;
  alone = alone_itself c.args.class c.args.pass.now;
}

pub returns-in_err-names-clause-alone : goal.returns-in_err-names-clause-alone
returns-in_err-names-clause-alone g c = alone_both c.args.class c.args.pass.now c.loop-piece.pass c.with_piece.new.pass c.loop-piece.invariant.alone c.with_piece.ensures.alone

pub returns-then-len-saturating_add-clause-alone : goal.returns-then-len-saturating_add-clause-alone
returns-then-len-saturating_add-clause-alone g c =
    alone_both c.args.class c.args.pass.now c.loop-piece.pass c.with_piece.new.pass c.loop-piece.invariant.alone c.with_piece.ensures.alone

pub loop-piece-preserved : goal.loop-piece-preserved
loop-piece-preserved g c = record {
  names = c.in_ok-names.ensures.names;
  alone = alone_both c.args.class c.args.pass.now c.loop-piece.pass c.with_piece.new.pass c.loop-piece.invariant.alone c.with_piece.ensures.alone;
}
