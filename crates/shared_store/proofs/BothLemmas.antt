-- Both locks together keep what the lock of a class keeps, and the other way round.
use Rattle.std.proofs.Common.{◌≡◌, ℕ, ◌+◌, ◌*◌, ◌<◌, ◌≤◌, List, [], ◌∷◌, ◌++◌, length, refl, ap, sym, subst, ◌∙◌, arith, append_assoc, length-append, cond, Option, Some, None, IfSome}
use Rattle.std.specs.Prelude.{filter, count_by}
use Rattle.std.proofs.lemmas.List.Sums.{sum_by-append}
use Rattle.std.proofs.lemmas.List.Elements.{filter-append}
use Rattle.std.proofs.lemmas.List.{append-nil}
use Rattle.atomic_table.specs.Seated.{TableId}
use Rattle.outside_io.specs.Image.{Image, WhereKnown}
use Rattle.carbon_history.specs.declared.entry.Entry.{Entry}
use Rattle.carbon_history.specs.declared.entry.Entry.TheVariants.{Put, Drain, Ask, Fault}
use Rattle.carbon_history.specs.declared.entry.PutEnd.TheVariants.{Stored, Replaced, Full}
use Rattle.carbon_history.specs.Entries.{drains, is_drain}
use Rattle.write_shelf.specs.Shelf.{DrainValue}
use Rattle.carbon_model.specs.State.{Kept, State}
use Rattle.carbon_model.specs.Replay.{after, replay}
use Rattle.carbon_model.specs.RingFiles.{IsOfClass, StandsUnder}
use Rattle.shard_core.specs.Shard.{patch_on}
use Rattle.shard_core.specs.Table.{Table}
use Rattle.shared_history.specs.Parts.{TailValue}
use Rattle.shared_history.specs.Rule.{OneOwed}
use Rattle.shared_store.specs.Desks.{KeepsClass, LastDrains}
use Rattle.shared_store.specs.Tallies.{capped, is_fault}
use Rattle.class_halves.specs.declared.view.Stand.{Stand}
use Rattle.class_halves.specs.Parts.{HalfValue, half_with, stand_of}
use Rattle.shared_store.specs.Locks.{HasLayouts, KeepsDesk, KeepsFiles, OnlyPuts, is_late, forms_of}
use Rattle.shared_store.proofs.FilesLemmas.{halves_move}
use Rattle.shard_core.specs.Halves.{AreHalves, DeskInside, FilesInside, both}

replay_more : (s : State) (xs ys : List Entry) → replay s (xs ++ ys) ≡ replay (replay s xs) ys
replay_more s [] ys = refl
replay_more s (x ∷ xs) ys = replay_more (after s x) xs ys

-- puts change nothing of what is kept
kept_stays : (s : State) (xs : List Entry) → filter is_late xs ≡ [] → (replay s xs).kept ≡ s.kept
kept_stays s [] e = refl
kept_stays s (Put n p t v Stored ∷ xs) e = kept_stays (after s (Put n p t v Stored)) xs e
kept_stays s (Put n p t v Replaced ∷ xs) e = kept_stays (after s (Put n p t v Replaced)) xs e
kept_stays s (Put n p t v Full ∷ xs) e = kept_stays s xs e
kept_stays s (Drain n p now ∷ xs) e = absurd cc
kept_stays s (Ask n a t now ∷ xs) e = kept_stays s xs e
kept_stays s (Fault n c ∷ xs) e = absurd cc

no_drains : (xs : List Entry) → filter is_late xs ≡ [] → drains xs ≡ 0
no_drains [] e = refl
no_drains (Put n p t v end ∷ xs) e = no_drains xs e
no_drains (Drain n p now ∷ xs) e = absurd cc
no_drains (Ask n a t now ∷ xs) e = no_drains xs e
no_drains (Fault n c ∷ xs) e = absurd cc

-- the faults of a list and puts behind it
put_faults : (xs ys : List Entry) → filter is_late ys ≡ [] → count_by is_fault (xs ++ ys) ≡ count_by is_fault xs
put_faults xs ys none = count_more xs ys ∙ (ap (λ n. count_by is_fault xs + n) (no_faults ys none) ∙ plus_none (count_by is_fault xs))
  where
    plus_none : (n : ℕ) → n + 0 ≡ n
    plus_none n = omega arith

    no_faults : (zs : List Entry) → filter is_late zs ≡ [] → count_by is_fault zs ≡ 0
    no_faults [] e = refl
    no_faults (Put n p t v end ∷ zs) e = no_faults zs e
    no_faults (Drain n p now ∷ zs) e = absurd cc
    no_faults (Ask n a t now ∷ zs) e = no_faults zs e
    no_faults (Fault n c ∷ zs) e = absurd cc

    count_more : (us ws : List Entry) → count_by is_fault (us ++ ws) ≡ count_by is_fault us + count_by is_fault ws
    count_more us ws = sum_by-append (λ x. cond (is_fault x) 1 0) us ws

put_drains : (xs ys : List Entry) → filter is_late ys ≡ [] → drains (xs ++ ys) ≡ drains xs
put_drains xs ys none =
    let e = ap length (filter-append is_drain xs ys) ∙ length-append (filter is_drain xs) (filter is_drain ys) in
    let z = no_drains ys none in
    omega (arith, e, z)

put_last : (path : List ℕ) (xs ys : List Entry) → filter is_late ys ≡ [] → LastDrains path xs → LastDrains path (xs ++ ys)
put_last path xs ys none was = record {
  before = was.before;
  pass = was.pass;
  now = was.now;
  since = was.since ++ ys;
  is = ap (λ (l : List Entry). l ++ ys) was.is ∙ append_assoc was.before (Drain was.pass path was.now ∷ was.since) ys;
  last = put_drains was.since ys none ∙ was.last;
}

put_last_on : (shelf : Option DrainValue) (xs ys : List Entry) → filter is_late ys ≡ [] → IfSome shelf (λ drain. LastDrains drain.patch.path xs) → IfSome shelf (λ drain. LastDrains drain.patch.path (xs ++ ys))
put_last_on None xs ys none was = tt
put_last_on (Some drain) xs ys none was = put_last drain.patch.path xs ys none was

-- the parts of what the lock of the class keeps that are of its list
module _ (start : State) (stand : Stand) (list : List Entry) (o : OnlyPuts stand.list list) where
  kept_now : (replay start list).kept ≡ (replay start stand.list).kept
  kept_now = ap (λ (l : List Entry). (replay start l).kept) o.list ∙ (ap (λ (s : State). s.kept) (replay_more start stand.list o.more) ∙ kept_stays (replay start stand.list) o.more o.puts)

  drains_now : drains list ≡ drains stand.list
  drains_now = ap drains o.list ∙ put_drains stand.list o.more o.puts

  faults_now : count_by is_fault list ≡ count_by is_fault stand.list
  faults_now = ap (count_by is_fault) o.list ∙ put_faults stand.list o.more o.puts

le_by : (a b c d : ℕ) → a ≤ b → c ≡ a → d ≡ b → c ≤ d
le_by a b c d le e f = omega (arith, le, e, f)

owed_by : (s t : ℕ) (xs ys : List Entry) → s ≡ t → drains xs ≡ drains ys → OneOwed t ys → OneOwed s xs
owed_by s t xs ys e f o = let low = o.low in let high = o.high in record { low = omega (arith, e, f, low); high = omega (arith, e, f, high) }

-- both locks together
pub both_keep : (table : TableId) (half_of : ℕ → TableId) (told : ℕ → Option Image) (start : State) (earlier : ℕ → ℕ) (desk : DeskInside) (files : FilesInside) (failed : ℕ) (half other : HalfValue) (tail : TailValue)
    → files.class ≡ desk.class → other.stand ≡ half.stand
    → KeepsDesk table half_of start desk half tail → KeepsFiles half_of told start earlier files failed other
    → KeepsClass table told start earlier (both desk files) failed tail
both_keep table half_of told start earlier desk files failed half other tail here met k f =
    let list : List Entry = tail.list in
    let o : OnlyPuts other.stand.list list = subst (λ (s : Stand). OnlyPuts s.list list) (sym met) k.since in
    let kept = kept_now start other.stand list o in
    let drained = drains_now start other.stand list o in
    let faulted = faults_now start other.stand list o in
    let settled : tail.settled ≡ other.stand.settled = k.settled ∙ ap (λ (s : Stand). s.settled) (sym met) in
    let runs : tail.runs ≡ other.stand.runs = k.runs ∙ ap (λ (s : Stand). s.runs) (sym met) in
    let stood : WhereKnown (told files.class) files.known (λ opening now. StandsUnder opening now (patch_on files.shelf) (replay start list).kept files.class) =
    subst (λ (q : List ℕ → Option Kept). WhereKnown (told files.class) files.known (λ opening now. StandsUnder opening now (patch_on files.shelf) q files.class)) (sym kept) f.holds in
    let stands : WhereKnown (told desk.class) files.known (λ opening now. StandsUnder opening now (patch_on files.shelf) (replay start list).kept desk.class) =
    subst (λ (c : ℕ). WhereKnown (told c) files.known (λ opening now. StandsUnder opening now (patch_on files.shelf) (replay start list).kept c)) here stood in
    record {
      same = k.same;
      class = k.class;
      within = k.within;
      holds = record {
        pending = k.holds.pending;
        queue = k.holds.queue;
        kept = record { layouts = k.holds.layouts; files = stands };
        drains = k.holds.drains;
        rules = k.holds.rules;
        limit = k.holds.limit;
        strategy = k.holds.strategy;
      };
      settled = (λ h. drained ∙ (f.settled.0 h ∙ sym settled), λ h. f.settled.1 (sym drained ∙ (h ∙ settled)));
      owed = owed_by tail.settled other.stand.settled list other.stand.list settled drained f.owed;
      last = subst (λ (l : List Entry). IfSome files.shelf (λ drain. LastDrains drain.patch.path l)) (sym o.list) (put_last_on files.shelf other.stand.list o.more o.puts f.last);
      runs = subst (λ (n : ℕ). tail.runs + files.steps ≤ 5000000 * n) (sym drained) (subst (λ (n : ℕ). n + files.steps ≤ 5000000 * drains other.stand.list) (sym runs) f.runs);
      faults = subst (λ (n : ℕ). capped (earlier desk.class + n) ≤ failed) (sym faulted) (subst (λ (c : ℕ). capped (earlier c + count_by is_fault other.stand.list) ≤ failed) here f.faults);
    }

-- and apart again, once both halves have the class as it is now
pub desk_keeps : (table : TableId) (half_of : ℕ → TableId) (told : ℕ → Option Image) (start : State) (earlier : ℕ → ℕ) (desk : DeskInside) (files : FilesInside) (failed : ℕ) (half : HalfValue) (tail : TailValue)
    → half.table ≡ half_of desk.class → KeepsClass table told start earlier (both desk files) failed tail
    → KeepsDesk table half_of start desk (half_with half (stand_of tail)) tail
desk_keeps table half_of told start earlier desk files failed half tail tied k = record {
  same = k.same;
  class = k.class;
  within = k.within;
  tied = tied;
  holds = record {
    pending = k.holds.pending;
    queue = k.holds.queue;
    layouts = k.holds.kept.layouts;
    drains = k.holds.drains;
    rules = k.holds.rules;
    limit = k.holds.limit;
    strategy = k.holds.strategy;
  };
  since = record { more = []; list = sym (append-nil tail.list); puts = refl };
  settled = refl;
  runs = refl;
}

layouts_are : (class : ℕ) (table : Table) (kept kept' : List ℕ → Option Kept) → kept' ≡ kept → HasLayouts class table (forms_of kept) → HasLayouts class table (forms_of kept')
layouts_are class table kept kept' same has = subst (λ (k : List ℕ → Option Kept). HasLayouts class table (forms_of k)) (sym same) has

-- with the desk as it is now the files are the halves of one shard
pub both_halves : (table : TableId) (half_of : ℕ → TableId) (told : ℕ → Option Image) (start : State) (earlier : ℕ → ℕ) (desk : DeskInside) (files : FilesInside) (failed : ℕ) (half other : HalfValue) (tail : TailValue)
    → files.class ≡ desk.class → other.stand ≡ half.stand
    → KeepsDesk table half_of start desk half tail → KeepsFiles half_of told start earlier files failed other
    → AreHalves desk files
both_halves table half_of told start earlier desk files failed half other tail here met k f =
    let o : OnlyPuts other.stand.list tail.list = subst (λ (s : Stand). OnlyPuts s.list tail.list) (sym met) k.since in
    let kept = kept_now start other.stand tail.list o in
    let now : HasLayouts files.class desk.table (forms_of (replay start tail.list).kept) = record { each = λ path is. k.holds.layouts path (subst (λ (c : ℕ). IsOfClass c path) here is) } in
    halves_move f.before desk files (forms_of (replay start tail.list).kept)
    (layouts_are files.class f.before.table (replay start other.stand.list).kept (replay start tail.list).kept kept f.layouts) now here f.halves

pub files_keep : (table : TableId) (half_of : ℕ → TableId) (told : ℕ → Option Image) (start : State) (earlier : ℕ → ℕ) (desk : DeskInside) (files : FilesInside) (failed : ℕ) (half : HalfValue) (tail : TailValue)
    → AreHalves desk files → half.table ≡ half_of files.class → KeepsClass table told start earlier (both desk files) failed tail
    → KeepsFiles half_of told start earlier files failed (half_with half (stand_of tail))
files_keep table half_of told start earlier desk files failed half tail are tied k =
    let here : files.class ≡ desk.class = are.one in
    record {
      within = subst (λ (c : ℕ). c < 16) (sym here) k.within;
      tied = tied;
      holds = subst (λ (c : ℕ). WhereKnown (told c) files.known (λ opening now. StandsUnder opening now (patch_on files.shelf) (replay start tail.list).kept c)) (sym here) k.holds.kept.files;
      settled = k.settled;
      owed = k.owed;
      last = k.last;
      runs = k.runs;
      faults = subst (λ (c : ℕ). capped (earlier c + count_by is_fault tail.list) ≤ failed) (sym here) k.faults;
      before = desk;
      layouts = record { each = λ path is. k.holds.kept.layouts path (subst (λ (c : ℕ). IsOfClass c path) here is) };
      halves = are;
    }
