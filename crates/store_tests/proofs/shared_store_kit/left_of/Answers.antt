use Rattle.std.proofs.Common.{List, sym, subst}
use Rattle.shared_history.specs.Parts.{PassesOfTable, PassValue}
use Rattle.shared_history.proofs.EndLemmas.{passes_more}
use Rattle.store_tests.proofs.shared_store_kit.left_of.Goals as goal

pub loop-worker-preserved : goal.loop-worker-preserved
loop-worker-preserved g c =
    subst (λ (passes : List PassValue). PassesOfTable g.N.Named.table passes) (sym c.in_ok-push.ensures.items)
    (passes_more g.N.Named.table c.loop-worker.passes.items c.into_pass.result c.loop-worker.invariant c.into_pass.ensures.one)
