-- What a store starts from, in the tests.
use Rattle.std.proofs.Common.{◌≡◌, ◌∙◌, ℕ, List, [], ◌∷◌, ◌++◌, length, Option, Some, refl, ap}
use Rattle.std.specs.Prelude.{slice_get}
use Rattle.atomic_table.specs.Seated.{TableId}
use Rattle.outside_io.specs.Image.{Image}
use Rattle.outside_io.specs.declared.disk.Disk.{Ghosts}
use Rattle.carbon_model.specs.State.{State}
use Rattle.shard_core.specs.declared.shard.Shard.{Shard}
use Rattle.shard_core.specs.Started.{AreReadyShards}
use Rattle.shared_history.specs.Parts.{AreNewPasses, PassValue}
use Rattle.shard_core.specs.Started.{AreReadyShards}

-- shards that stand for a state as they started are those that a store starts from
pub fresh_from : {D : Type 0} {d : Ghosts D} (told : ℕ → Option Image) (start : State) (earlier : ℕ → ℕ) (shards : List (Shard D d)) → AreReadyShards told start earlier shards → AreReadyShards told start earlier shards
fresh_from told start earlier shards ready k shard there =
    let one = ready k shard there in record { class = one.class; empty = one.empty; idle = one.idle; holds = one.holds; faults = one.faults }

at_end : {X : Type 0} (xs : List X) (x : X) → slice_get (xs ++ x ∷ []) (length xs) ≡ Some x
at_end [] x = refl
at_end (y ∷ ys) x = at_end ys x

-- the last of new passes is of their table
pub last_of_table : (table : TableId) (passes front : List PassValue) (pass : PassValue) → AreNewPasses table passes → passes ≡ front ++ pass ∷ [] → pass.table ≡ table
last_of_table table passes front pass new is = (new (length front) pass (ap (λ (ps : List PassValue). slice_get ps (length front)) is ∙ at_end front pass)).same
