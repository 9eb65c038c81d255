use Rattle.carbon_model.proofs.FoundLemmas.{same_members}
use Rattle.carbon_model.proofs.laws.found_metrics_are_one_list.Goals as goal

pub returns : goal.returns
returns c s fits xs ys one other =
    same_members xs ys one.in_order other.in_order (λ p c. (other.found p).1 ((one.found p).0 c)) (λ p c. (one.found p).1 ((other.found p).0 c))
