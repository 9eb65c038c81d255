-- The table is held against the definition at each of the 256 bytes, by computing.
use Rattle.std.proofs.Common.{◌≡◌, ℕ, ◌<◌, true, nat_eq, get_or, List, refl, arith}
use Rattle.std.proofs.lemmas.Bool.{agree_below, agree_below_at}
use Rattle.metric_line.specs.declared.fields.TheConstants.{BLANKS}
use Rattle.metric_line.specs.LineFields.{is_blank}
use Rattle.metric_line.proofs.fields.is_blank.Goals as goal

from_table : (table : List ℕ) (b : ℕ) → b < 256 → agree_below (λ k. nat_eq (get_or table k 0) 120) is_blank 256 ≡ true → nat_eq (get_or table b 0) 120 ≡ is_blank b
from_table table b lt h = agree_below_at (λ k. nat_eq (get_or table k 0) 120) is_blank 256 b h lt

pub returns : goal.returns
unfolding is_blank
returns c = from_table BLANKS c.args.b (omega arith) refl
