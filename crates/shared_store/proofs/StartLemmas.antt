-- What a store starts from stands for the opening state.
use Rattle.std.proofs.Common.{◌≡◌, ◌∙◌, ℕ, zero, suc, ◌<◌, ◌≤◌, ◌+◌, ◌-◌, ◌*◌, List, [], ◌∷◌, ◌++◌, length, Option, Some, IfSome, refl, sym, ap, subst, arith, length-append}
use Rattle.std.specs.Prelude.{count_by, get_or, slice_get}
use Rattle.std.specs.List.{ReversedBelow}
use Rattle.std.proofs.lemmas.Option.{get_or_from_slice_get, slice_get-get_or, slice_get_within}
use Rattle.atomic_table.specs.Seated.{TableId}
use Rattle.outside_io.specs.Image.{Image}
use Rattle.outside_io.specs.declared.disk.Disk.{Ghosts}
use Rattle.carbon_history.specs.declared.entry.Entry.{Entry}
use Rattle.carbon_history.specs.Entries.{drains}
use Rattle.carbon_model.specs.State.{State}
use Rattle.carbon_model.specs.Replay.{replay}
use Rattle.class_halves.specs.Parts.{HalfValue, half_with, stand_of}
use Rattle.class_halves.specs.Views.{no_stand, stand}
use Rattle.shard_core.specs.Halves.{AreHalves as AreHalvesOfShard, DeskInside, FilesInside, both}
use Rattle.shard_core.specs.Shard.{Holds, Inside}
use Rattle.shard_core.specs.Started.{IsReadyShard}
use Rattle.shard_core.specs.View.{inside_of}
use Rattle.shard_core.specs.declared.shard.Shard.{Shard}
use Rattle.write_shelf.specs.Shelf.{DrainValue}
use Rattle.shared_history.specs.Parts.{IsNewTail, TailValue}
use Rattle.shared_store.specs.Desks.{KeepsClass, LastDrains}
use Rattle.shared_store.specs.Locks.{KeepsDesk, KeepsFiles}
use Rattle.shared_store.specs.Starts.{AreFreshClasses, AreFreshFalling, AreHalves, IsFresh, IsFreshClass, halves_at}
use Rattle.shared_store.proofs.BothLemmas.{desk_keeps, files_keep}
use Rattle.shared_store.specs.declared.start.Parts.{Parts}
use Rattle.shared_store.specs.Tallies.{capped, is_fault}

no_drains : (settled : ℕ) (list : List Entry) → list ≡ [] → settled ≡ 0 → drains list ≡ settled
no_drains settled list none nil = ap drains none ∙ sym nil

owed_none : (settled all : ℕ) → settled ≡ 0 → all ≡ 0 → (settled ≤ all) × (all ≤ settled + 1)
owed_none settled all none empty = (omega (arith, none, empty), omega (arith, none, empty))

runs_none : (runs ahead all : ℕ) → runs ≡ 0 → ahead ≡ 0 → runs + ahead ≤ 5000000 * all
runs_none runs ahead all none empty = omega (arith, none, empty)

faults_none : (earlier count failed : ℕ) → count ≡ 0 → earlier ≡ failed → capped (earlier + count) ≤ failed
faults_none earlier count failed none is = omega (arith, none, is)

-- what both locks keep, before they are apart
both_fresh : {D : Type 0} {d : Ghosts D} (table : TableId) (half_of : ℕ → TableId) (told : ℕ → Option Image) (start : State) (earlier : ℕ → ℕ) (tail : TailValue) (pair : TableId) (shard : Shard D d)
    → IsFreshClass {d = d} table half_of told start earlier tail pair shard → KeepsClass table told start earlier (inside_of shard) (d.faults shard.files.disk) tail
both_fresh {D} {d} table half_of told start earlier tail pair shard fresh =
    let t = fresh.new in
    let s = fresh.fresh in
    let owed = owed_none tail.settled (drains tail.list) t.settled (ap drains t.list) in record {
      same = t.same;
      class = t.number ∙ sym s.class;
      within = subst (λ (k : ℕ). k < 16) (sym s.class) fresh.within;
      holds = subst (λ (k : ℕ). Holds (told k) (inside_of shard) (replay start tail.list)) (sym s.class)
          (subst (λ (l : List Entry). Holds (told fresh.place) (inside_of shard) (replay start l)) (sym t.list) s.holds);
      settled = ((λ none. no_drains tail.settled tail.list t.list t.settled), (λ all. s.empty));
      owed = record { low = owed.0; high = owed.1 };
      last = subst (λ (o : Option DrainValue). IfSome o (λ drain. LastDrains drain.patch.path tail.list)) (sym s.empty) tt;
      runs = runs_none tail.runs shard.files.work.steps (drains tail.list) t.runs s.idle;
      faults = subst (λ (k : ℕ). capped (earlier k + count_by is_fault tail.list) ≤ d.faults shard.files.disk) (sym s.class)
          (faults_none (earlier fresh.place) (count_by is_fault tail.list) (d.faults shard.files.disk) (ap (count_by is_fault) t.list) s.faults);
    }

-- a half that knows of no entry knows of all of a new tail
half_new : (tail : TailValue) (half : HalfValue) → tail.list ≡ [] → tail.settled ≡ 0 → tail.runs ≡ 0 → half.stand ≡ no_stand → half_with half (stand_of tail) ≡ half
half_new tail half list settled runs none =
    let is : stand_of tail ≡ half.stand = (λ i. stand (list i) (settled i) (runs i)) ∙ sym none in
    λ i. half_with half (is i)

module _ {D : Type 0} {d : Ghosts D} (table : TableId) (half_of : ℕ → TableId) (told : ℕ → Option Image) (start : State) (earlier : ℕ → ℕ) (tail : TailValue) (pair : TableId) (shard : Shard D d)
    (fresh : IsFreshClass {d = d} table half_of told start earlier tail pair shard) (desk : DeskInside) (files : FilesInside) (half : HalfValue) (is : both desk files ≡ inside_of shard)
    (tied : half.table ≡ pair) (none : half.stand ≡ no_stand) where
  class_of_desk : desk.class ≡ fresh.place
  class_of_desk = ap (λ (x : Inside). x.class) is ∙ fresh.fresh.class

  keeps_both : KeepsClass table told start earlier (both desk files) (d.faults shard.files.disk) tail
  keeps_both = subst (λ (x : Inside). KeepsClass table told start earlier x (d.faults shard.files.disk) tail) (sym is) (both_fresh {d = d} table half_of told start earlier tail pair shard fresh)

  half_of_class : half.table ≡ half_of desk.class
  half_of_class = tied ∙ (fresh.half ∙ ap half_of (sym class_of_desk))

  -- the files are of the class of the tail
  pub files_of_class : AreHalvesOfShard desk files → files.class ≡ tail.class
  files_of_class are = are.one ∙ (class_of_desk ∙ sym fresh.new.number)

  pub fresh_desk : KeepsDesk table half_of start desk half tail
  fresh_desk =
      subst (λ (h : HalfValue). KeepsDesk table half_of start desk h tail) (half_new tail half fresh.new.list fresh.new.settled fresh.new.runs none)
      (desk_keeps table half_of told start earlier desk files (d.faults shard.files.disk) half tail half_of_class keeps_both)

  pub fresh_files : (failed : ℕ) → failed ≡ d.faults shard.files.disk → AreHalvesOfShard desk files → KeepsFiles half_of told start earlier files failed half
  fresh_files failed same are =
      subst (λ (h : HalfValue). KeepsFiles half_of told start earlier files failed h) (half_new tail half fresh.new.list fresh.new.settled fresh.new.runs none)
      (files_keep table half_of told start earlier desk files failed half tail are (half_of_class ∙ ap half_of (sym are.one))
      (subst (λ (n : ℕ). KeepsClass table told start earlier (both desk files) n tail) (sym same) keeps_both))

-- ---- the last of them

get_more : {A : Type 0} (xs ys : List A) (k : ℕ) (x : A) → slice_get xs k ≡ Some x → slice_get (xs ++ ys) k ≡ Some x
get_more [] ys k x e = absurd cc
get_more (y ∷ xs) ys zero x e = e
get_more (y ∷ xs) ys (suc k) x e = get_more xs ys k x e

get_last : {A : Type 0} (xs : List A) (x : A) → slice_get (xs ++ x ∷ []) (length xs) ≡ Some x
get_last [] x = refl
get_last (y ∷ xs) x = get_last xs x

less_one : {A : Type 0} (xs ys : List A) (x : A) (n : ℕ) → ys ≡ xs ++ x ∷ [] → length ys ≡ n + 1 → length xs ≡ n
less_one xs ys x n is count = omega (arith, count, ap length is, length-append xs (x ∷ []))

-- of n + 1 the last one, and all but that
last_is : {A : Type 0} (P : ℕ → A → Type 0) (xs ys : List A) (x : A) (n : ℕ) → ys ≡ xs ++ x ∷ [] → length ys ≡ n + 1
    → ((k : ℕ) (y : A) → slice_get ys k ≡ Some y → P k y) → P n x
last_is {A} P xs ys x n is count each =
    each n x (ap (λ (l : List A). slice_get l n) is ∙ (ap (λ (k : ℕ). slice_get (xs ++ x ∷ []) k) (sym (less_one xs ys x n is count)) ∙ get_last xs x))

rest_are : {A : Type 0} (P : ℕ → A → Type 0) (xs ys : List A) (x : A) → ys ≡ xs ++ x ∷ [] → ((k : ℕ) (y : A) → slice_get ys k ≡ Some y → P k y)
    → (k : ℕ) (y : A) → slice_get xs k ≡ Some y → P k y
rest_are {A} P xs ys x is each k y e = each k y (ap (λ (l : List A). slice_get l k) is ∙ get_more xs (x ∷ []) k y e)

-- ---- in falling order

-- what holds of each of a list of sixteen holds of them turned round, by their places from the back
turned : {A : Type 0} (P : ℕ → A → Type 0) (xs ys : List A) → length xs ≡ 16 → length ys ≡ 16 → ReversedBelow xs ys 16 → ((k : ℕ) (x : A) → slice_get xs k ≡ Some x → P k x)
    → (k : ℕ) (y : A) → slice_get ys k ≡ Some y → P (15 - k) y
turned {A} P xs ys all all' round each k y at =
    let few : k < 16 = subst (λ (n : ℕ). k < n) all' (slice_get_within ys k y at) in
    let there : slice_get xs (15 - k) ≡ Some (get_or xs (15 - k) y) = slice_get-get_or xs (15 - k) y (omega (arith, few, all)) in
    subst (P (15 - k)) (sym (round k y few) ∙ get_or_from_slice_get ys k y y at) (each (15 - k) (get_or xs (15 - k) y) there)

pub classes_fall : {D : Type 0} {d : Ghosts D} (table : TableId) (half_of : ℕ → TableId) (told : ℕ → Option Image) (start : State) (earlier : ℕ → ℕ) (tails tails' : List TailValue)
    (pairs pairs' : List TableId) (shards shards' : List (Shard D d)) → AreFreshClasses {d = d} table half_of told start earlier 16 tails pairs shards → length tails' ≡ 16 → length pairs' ≡ 16
    → length shards' ≡ 16 → ReversedBelow tails tails' 16 → ReversedBelow pairs pairs' 16 → ReversedBelow shards shards' 16
    → AreFreshFalling {d = d} table half_of told start earlier 16 tails' pairs' shards'
classes_fall {D} {d} table half_of told start earlier tails tails' pairs pairs' shards shards' fresh tail_count pair_count shard_count tails_turn pairs_turn shards_turn = record {
  tail_count = tail_count;
  new_tails = turned (IsNewTail table) tails tails' fresh.tail_count tail_count tails_turn fresh.new_tails;
  pair_count = pair_count;
  halves = turned (λ k t. t ≡ half_of k) pairs pairs' fresh.pair_count pair_count pairs_turn fresh.halves;
  shard_count = shard_count;
  fresh_shards = turned (λ k s. IsReadyShard {d = d} told start earlier k s) shards shards' fresh.shard_count shard_count shards_turn fresh.fresh_shards;
}

module _ {D : Type 0} {d : Ghosts D} (table : TableId) (half_of : ℕ → TableId) (told : ℕ → Option Image) (start : State) (earlier : ℕ → ℕ) (class : ℕ)
    (tails tails' : List TailValue) (tail : TailValue) (pairs pairs' : List TableId) (pair : TableId) (shards shards' : List (Shard D d)) (shard : Shard D d)
    (fresh : AreFreshFalling {d = d} table half_of told start earlier (16 - class) tails' pairs' shards') (few : class < 16)
    (tails_are : tails' ≡ tails ++ tail ∷ []) (pairs_are : pairs' ≡ pairs ++ pair ∷ []) (shards_are : shards' ≡ shards ++ shard ∷ []) where
  one_before : AreFreshFalling {d = d} table half_of told start earlier ((15 - class) + 1) tails' pairs' shards'
  one_before = subst (λ (n : ℕ). AreFreshFalling {d = d} table half_of told start earlier n tails' pairs' shards') (omega (arith, few)) fresh

  -- the last of them is the first that is left
  here : 15 - (15 - class) ≡ class
  here = omega (arith, few)

  pub new_tail : IsNewTail table class tail
  new_tail = subst (λ (k : ℕ). IsNewTail table k tail) here (last_is (λ k t. IsNewTail table (15 - k) t) tails tails' tail (15 - class) tails_are one_before.tail_count one_before.new_tails)

  pub fresh_here : IsFreshClass {d = d} table half_of told start earlier tail pair shard
  fresh_here = record {
    place = class;
    within = few;
    new = new_tail;
    half = subst (λ (k : ℕ). pair ≡ half_of k) here (last_is (λ k t. t ≡ half_of (15 - k)) pairs pairs' pair (15 - class) pairs_are one_before.pair_count one_before.halves);
    fresh = subst (λ (k : ℕ). IsReadyShard {d = d} told start earlier k shard) here
        (last_is (λ k s. IsReadyShard {d = d} told start earlier (15 - k) s) shards shards' shard (15 - class) shards_are one_before.shard_count one_before.fresh_shards);
  }

  pub fresh_left : AreFreshFalling {d = d} table half_of told start earlier (16 - (class + 1)) tails pairs shards
  fresh_left =
      subst (λ (n : ℕ). AreFreshFalling {d = d} table half_of told start earlier n tails pairs shards) (omega (arith, few))
      (record {
        tail_count = less_one tails tails' tail (15 - class) tails_are one_before.tail_count;
        new_tails = rest_are (λ k t. IsNewTail table (15 - k) t) tails tails' tail tails_are one_before.new_tails;
        pair_count = less_one pairs pairs' pair (15 - class) pairs_are one_before.pair_count;
        halves = rest_are (λ k t. t ≡ half_of (15 - k)) pairs pairs' pair pairs_are one_before.halves;
        shard_count = less_one shards shards' shard (15 - class) shards_are one_before.shard_count;
        fresh_shards = rest_are (λ k s. IsReadyShard {d = d} told start earlier (15 - k) s) shards shards' shard shards_are one_before.fresh_shards;
      })

pub classes_of : {D : Type 0} {d : Ghosts D} (table : TableId) (passes : ℕ) (half_of : ℕ → TableId) (told : ℕ → Option Image) (start : State) (earlier : ℕ → ℕ) (parts : Parts D d)
    → IsFresh {d = d} table passes half_of told start earlier parts → AreFreshClasses {d = d} table half_of told start earlier 16 parts.tails.items parts.pairs.items parts.shards.items
classes_of table passes half_of told start earlier parts fresh = record {
  tail_count = fresh.sixteen_tails;
  new_tails = fresh.new_tails;
  pair_count = fresh.sixteen_pairs;
  halves = fresh.pairs;
  shard_count = fresh.sixteen_shards;
  fresh_shards = fresh.fresh_shards;
}

-- the tables of these pairs are those that are picked for them
pub picked : (pairs : List TableId) → AreHalves (halves_at pairs) pairs
picked [] k table e = absurd cc
picked (x ∷ xs) zero table e = sym (some_is x table e)
  where
    some_is : (a b : TableId) → Some a ≡ Some b → a ≡ b
    some_is a b same = cc
picked (x ∷ xs) (suc k) table e = picked xs k table e
