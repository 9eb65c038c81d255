-- What a store starts from.
use Rattle.std.specs.Prelude.{◌≡◌, ◌<◌, ◌-◌, ℕ, zero, suc, List, [], ◌∷◌, Option, Some, length, slice_get}
use Rattle.atomic_table.specs.Seated.{TableId}
use Rattle.outside_io.specs.Image.{Image}
use Rattle.outside_io.specs.declared.disk.Disk.{Ghosts}
use Rattle.carbon_model.specs.State.{State}
use Rattle.shard_core.specs.Started.{AreReadyShards, IsReadyShard}
use Rattle.shard_core.specs.declared.shard.Shard.{Shard}
use Rattle.shared_history.specs.Parts.{AreNewTails, IsNewOrder, IsNewTail, TailValue}
use Rattle.shared_store.specs.declared.start.Parts.{Parts}

-- no table, which stands where a list has none
abbrev no_table : TableId
no_table = record { words = 0; slots = 0; views_name = 0; atom = 0; block = 0; offset = 0; slot_names = [] }

-- each of these is the table of what the two locks of its class agree on
abbrev pub AreHalves : (ℕ → TableId) → List TableId → Type 0
AreHalves half_of pairs = (k : ℕ) (table : TableId) → slice_get pairs k ≡ Some table → table ≡ half_of k

-- A new history with the tails of sixteen classes, and as many pairs and shards.
pub record IsFresh {D : Type 0} {d : Ghosts D} (table : TableId) (passes : ℕ) (half_of : ℕ → TableId) (told : ℕ → Option Image) (start : State) (earlier : ℕ → ℕ) (parts : Parts D d) : Type 0 where
  pub same : parts.order.table ≡ table
  pub new : IsNewOrder passes 16 parts.order
  pub sixteen_tails : length parts.tails.items ≡ 16
  pub new_tails : AreNewTails table parts.tails.items
  pub sixteen_pairs : length parts.pairs.items ≡ 16
  pub pairs : AreHalves half_of parts.pairs.items
  pub sixteen_shards : length parts.shards.items ≡ 16
  pub fresh_shards : AreReadyShards told start earlier parts.shards.items

-- the tables of these pairs, in order of class
abbrev pub halves_at : List TableId → ℕ → TableId
halves_at [] class = no_table
halves_at (table ∷ tables) zero = table
halves_at (table ∷ tables) (suc class) = halves_at tables class

-- ---- inside a start

-- the tail, the pair and the shard of one class
pub record IsFreshClass {D : Type 0} {d : Ghosts D} (table : TableId) (half_of : ℕ → TableId) (told : ℕ → Option Image) (start : State) (earlier : ℕ → ℕ) (tail : TailValue) (pair : TableId) (shard : Shard D d) : Type 0 where
  pub place : ℕ
  pub within : place < 16
  pub new : IsNewTail table place tail
  pub half : pair ≡ half_of place
  pub fresh : IsReadyShard told start earlier place shard

-- those of so many classes, in order
pub record AreFreshClasses {D : Type 0} {d : Ghosts D} (table : TableId) (half_of : ℕ → TableId) (told : ℕ → Option Image) (start : State) (earlier : ℕ → ℕ) (count : ℕ) (tails : List TailValue) (pairs : List TableId) (shards : List (Shard D d)) : Type 0 where
  pub tail_count : length tails ≡ count
  pub new_tails : AreNewTails table tails
  pub pair_count : length pairs ≡ count
  pub halves : AreHalves half_of pairs
  pub shard_count : length shards ≡ count
  pub fresh_shards : AreReadyShards told start earlier shards

-- those of the last classes, so many, in falling order
pub record AreFreshFalling {D : Type 0} {d : Ghosts D} (table : TableId) (half_of : ℕ → TableId) (told : ℕ → Option Image) (start : State) (earlier : ℕ → ℕ) (count : ℕ) (tails : List TailValue) (pairs : List TableId) (shards : List (Shard D d)) : Type 0 where
  pub tail_count : length tails ≡ count
  pub new_tails : (k : ℕ) (tail : TailValue) → slice_get tails k ≡ Some tail → IsNewTail table (15 - k) tail
  pub pair_count : length pairs ≡ count
  pub halves : (k : ℕ) (pair : TableId) → slice_get pairs k ≡ Some pair → pair ≡ half_of (15 - k)
  pub shard_count : length shards ≡ count
  pub fresh_shards : (k : ℕ) (shard : Shard D d) → slice_get shards k ≡ Some shard → IsReadyShard told start earlier (15 - k) shard
