-- The table is held against the definition at each of the 256 bytes, by computing.
use Rattle.std.proofs.Common.{◌≡◌, ℕ, ◌<◌, true, not, nat_eq, get_or, List, refl, arith}
use Rattle.std.proofs.lemmas.Bool.{agree_below, agree_below_at}
use Rattle.metric_path.specs.declared.check.TheConstants.{NODE_BYTES}
use Rattle.metric_path.specs.Path.{is_node_byte}
use Rattle.metric_path.proofs.check.is_node_byte.Goals as goal

from_table : (table : List ℕ) (b : ℕ) → b < 256 → agree_below (λ k. not (nat_eq (get_or table k 0) 47)) is_node_byte 256 ≡ true → not (nat_eq (get_or table b 0) 47) ≡ is_node_byte b
from_table table b lt h = agree_below_at (λ k. not (nat_eq (get_or table k 0) 47)) is_node_byte 256 b h lt

pub returns : goal.returns
returns c = from_table NODE_BYTES c.args.b (omega arith) refl
