use Rattle.std.proofs.Common.{◌≡◌, ◌∙◌, Some, sym, arith}
use Rattle.aggregate_rules.proofs.PlaceLemmas.{behind_own}
use Rattle.aggregate_rules.proofs.rules.AggRules.next_of.Goals as goal

same_some : {X : Type 0} (x y : X) → Some x ≡ Some y → x ≡ y
same_some x y e = cc

pub returns : goal.returns
returns c =
    rw (sym c.self.view_is)
    (λ class from le is. behind_own c.self.inside.rules class from c.args.place c.next.result le is
    (λ rule at. same_some _ _ (sym c.next.ensures ∙ c.self.invariant.nexts c.args.place rule (omega arith) at)))
