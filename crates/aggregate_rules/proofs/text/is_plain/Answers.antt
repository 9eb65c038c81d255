-- The table is held against the definition at each of the 256 bytes, by computing.
use Rattle.std.proofs.Common.{◌≡◌, ℕ, ◌<◌, true, not, nat_eq, get_or, List, refl, arith}
use Rattle.std.proofs.lemmas.Bool.{agree_below, agree_below_at}
use Rattle.aggregate_rules.specs.declared.text.TheConstants.{PLAIN_BYTES}
use Rattle.aggregate_rules.specs.RuleTexts.{is_plain}
use Rattle.aggregate_rules.proofs.text.is_plain.Goals as goal

from_table : (table : List ℕ) (b : ℕ) → b < 256 → agree_below (λ k. not (nat_eq (get_or table k 0) 47)) is_plain 256 ≡ true → not (nat_eq (get_or table b 0) 47) ≡ is_plain b
from_table table b lt h = agree_below_at (λ k. not (nat_eq (get_or table k 0) 47)) is_plain 256 b h lt

pub returns : goal.returns
returns c = from_table PLAIN_BYTES c.args.b (omega arith) refl
