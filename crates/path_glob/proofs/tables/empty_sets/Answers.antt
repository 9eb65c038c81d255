use Rattle.std.proofs.Common.{◌≡◌, ◌+◌, ℕ, List, arith, subst, sym}
use Rattle.path_glob.specs.Tables.{AreEmpty}
use Rattle.path_glob.proofs.TableLemmas.{no_sets, one_set_more}
use Rattle.path_glob.proofs.tables.empty_sets.Goals as goal

pub loop-byte-init : goal.loop-byte-init
loop-byte-init c = subst (λ (l : List (List ℕ)). AreEmpty l c.args.words 0) (sym c.new-sets.ensures.items) (no_sets c.args.words)

pub loop-byte-preserved : goal.loop-byte-preserved
loop-byte-preserved c =
    let k = c.loop-byte._byte in
    subst (λ (l : List (List ℕ)). AreEmpty l c.args.words (k + 1)) (sym {A = List (List ℕ)} c.in_ok-push.ensures.items)
    (one_set_more c.loop-byte.sets.items c.in_ok-none.field-0 c.args.words k c.loop-byte.invariant c.in_ok-none.ensures)

pub returns : goal.returns
returns c = let last : c.loop-byte._byte ≡ 256 = omega arith in subst (AreEmpty c.loop-byte.sets.items c.args.words) last c.loop-byte.invariant
