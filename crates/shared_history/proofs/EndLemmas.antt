-- Tails and passes of one table, one after the other.
use Rattle.std.proofs.Common.{◌≡◌, List, [], ◌∷◌, ◌++◌}
use Rattle.atomic_table.specs.Seated.{TableId}
use Rattle.shared_history.specs.Parts.{PassesOfTable, PassValue, TailValue, TailsOfTable}
use Rattle.shared_history.proofs.ListLemmas.{pushed}

pub passes_more : (table : TableId) (passes : List PassValue) (pass : PassValue)
    → PassesOfTable table passes → pass.table ≡ table → PassesOfTable table (passes ++ pass ∷ [])
passes_more table passes pass all here = pushed (λ k p. p.table ≡ table) passes pass all here

pub tails_more : (table : TableId) (tails : List TailValue) (tail : TailValue)
    → TailsOfTable table tails → tail.table ≡ table → TailsOfTable table (tails ++ tail ∷ [])
tails_more table tails tail all here = pushed (λ k t. t.table ≡ table) tails tail all here
