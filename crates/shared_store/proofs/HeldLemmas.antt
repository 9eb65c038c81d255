-- What holds of the files of a class while their lock is held and the desk is given back.
use Rattle.std.proofs.Common.{◌≡◌, ◌∙◌, ◌⊎◌, inl, inr, ℕ, ◌<◌, ◌≤◌, ◌+◌, Bool, true, false, List, [], ◌∷◌, Option, Some, None, refl, sym, ap, subst, arith}
use Rattle.std.specs.Prelude.{count_by, filter, is_some, length, slice_index_or}
use Rattle.std.specs.Sync.Mutex.{mutex_guard_value}
use Rattle.std.specs.declared.sync.MutexGuard.{MutexGuard}
use Rattle.std.proofs.lemmas.Bool.{false≢true}
use Rattle.std.proofs.lemmas.List.{get_or_default}
use Rattle.metric_path.specs.Class.{class_of}
use Rattle.outside_io.specs.Image.{Image}
use Rattle.atomic_table.specs.Seated.{TableId}
use Rattle.carbon_history.specs.declared.entry.Entry.{Entry}
use Rattle.carbon_history.specs.declared.entry.Entry.TheVariants.{Put, Drain, Ask, Fault}
use Rattle.carbon_history.specs.declared.entry.PutEnd.TheVariants.{Stored, Replaced, Full}
use Rattle.carbon_history.specs.Entries.{about_class, listed}
use Rattle.carbon_model.specs.State.{State}
use Rattle.carbon_model.specs.Replay.{after, replay}
use Rattle.carbon_model.proofs.HistoryLemmas.{replay-append}
use Rattle.class_halves.specs.Parts.{HalfValue}
use Rattle.write_shelf.specs.Shelf.{DrainValue}
use Rattle.shared_history.specs.Parts.{PassValue, TailValue}
use Rattle.shard_core.specs.Halves.{DeskInside, FilesInside}
use Rattle.shard_core.specs.Plans.{OnlyPicks}
use Rattle.shard_core.specs.declared.looked.Looked.{Looked}
use Rattle.shared_store.specs.Asking.{IsDeskOf}
use Rattle.shared_store.specs.Desks.{DeskValue}
use Rattle.shared_store.specs.Held.{IsCovered, IsMet, IsPlaceAt, IsPlaceOf, KeepsFilesHeld}
use Rattle.shared_store.specs.Locks.{FilesValue, HoldsDesk, KeepsDesk, KeepsFiles, OnlyPuts, is_late}
use Rattle.shared_store.proofs.DeskPutLemmas.{desk_part, untold, with_untold}
use Rattle.shared_store.specs.Passes.{Enters}
use Rattle.shared_store.specs.Tails.{Tells}
use Rattle.shared_store.specs.Tallies.{capped, is_fault}
use Rattle.shared_store.proofs.AskStateLemmas.{part_of}

-- ---- the places of all classes

-- one that is there
pub place_at : (k : ℕ) (place : Option (MutexGuard FilesValue)) (desk : DeskValue) → desk.class ≡ k → IsPlaceAt k place → IsPlaceAt desk.class place
place_at k place desk is at = subst (λ (j : ℕ). IsPlaceAt j place) (sym is) at

-- it met the desk of a class in a history
pub met_place : (k : ℕ) (list : List Entry) (desk : DeskValue) (place : Option (MutexGuard FilesValue)) → IsDeskOf k list desk → IsMet desk place → IsPlaceOf k list place
met_place k list desk None is met = tt
met_place k list desk (Some files) is met = record {
  class = met.0 ∙ is.class;
  since = subst (λ (l : List Entry). OnlyPuts (mutex_guard_value files).list l) is.list met.1;
}

pub met_class : (k : ℕ) (desk : DeskValue) (place : Option (MutexGuard FilesValue)) → desk.class ≡ k → IsMet desk place → IsPlaceAt k place
met_class k desk None is met = tt
met_class k desk (Some files) is met = met.0 ∙ is

not_none : {A : Type 0} (o : Option A) → is_some o ≡ true → o ≡ None → ⊥
not_none None is none = absurd (false≢true is)
not_none (Some x) is none = absurd (cc none)

-- what is not missing is covered
pub held_covers : (s : State) (held : List (Option (MutexGuard FilesValue))) (looked : Looked) (k : ℕ) (one : Option (MutexGuard FilesValue)) → class_of looked.path ≡ k → k < length held
    → one ≡ slice_index_or held k one → is_some one ≡ true → IsCovered s held looked
held_covers s held looked k one here within is some = λ d less none.
    absurd (not_none (slice_index_or held (class_of looked.path) d)
    (ap is_some (ap (λ (j : ℕ). slice_index_or held j d) here ∙ (get_or_default held k d one within ∙ sym is)) ∙ some) none)

pub bare_covers : (s : State) (held : List (Option (MutexGuard FilesValue))) (looked : Looked) → s.kept looked.path ≡ None → IsCovered s held looked
bare_covers s held looked bare = λ d less none. bare

-- places that are kept cover what they did
pub still_covers : (s : State) (list : List Entry) (old new : List (Option (MutexGuard FilesValue))) (looked : Looked) → KeepsFilesHeld list old new → IsCovered s old looked
    → IsCovered s new looked
still_covers s list old new looked keeps covers = λ d less none.
    covers d (subst (λ (n : ℕ). class_of looked.path < n) keeps.many less) (keeps.none (class_of looked.path) d none)

-- ---- no drain is entered

-- puts drain nothing
drains_stay : (s : State) (xs : List Entry) (path : List ℕ) → filter is_late xs ≡ [] → (replay s xs).drains path ≡ s.drains path
drains_stay s [] path e = refl
drains_stay s (Put n p t v Stored ∷ xs) path e = drains_stay (after s (Put n p t v Stored)) xs path e
drains_stay s (Put n p t v Replaced ∷ xs) path e = drains_stay (after s (Put n p t v Replaced)) xs path e
drains_stay s (Put n p t v Full ∷ xs) path e = drains_stay s xs path e
drains_stay s (Drain n p now ∷ xs) path e = absurd cc
drains_stay s (Ask n a t now ∷ xs) path e = drains_stay s xs path e
drains_stay s (Fault n c ∷ xs) path e = absurd cc

drains_since : (start : State) (then now : List Entry) (path : List ℕ) → OnlyPuts then now → (replay start now).drains path ≡ (replay start then).drains path
drains_since start then now path only =
    ap (λ (l : List Entry). (replay start l).drains path) only.list
    ∙ (ap (λ (s : State). s.drains path) (replay-append start then only.more) ∙ drains_stay (replay start then) only.more path only.puts)

-- of two moments since which only puts came, a metric was drained as often at both
pub drains_held : (start : State) (then list seen : List Entry) (class : ℕ) (path : List ℕ) → class_of path ≡ class → OnlyPuts then list → OnlyPuts then (about_class class seen)
    → (replay start list).drains path ≡ (replay start seen).drains path
drains_held start then list seen class path here now was =
    drains_since start then list path now
    ∙ (sym (drains_since start then (about_class class seen) path was) ∙ sym ((part_of start seen class).drains path here))

-- ---- the disk failed no less often

module _ (half_of : ℕ → TableId) (told : ℕ → Option Image) (start : State) (earlier : ℕ → ℕ) where
  later_on : (files : FilesInside) (failed later : ℕ) (half : HalfValue) → failed ≤ later → KeepsFiles half_of told start earlier files failed half
      → KeepsFiles half_of told start earlier files later half
  later_on files failed later half more f = record {
    within = f.within;
    tied = f.tied;
    holds = f.holds;
    settled = f.settled;
    owed = f.owed;
    last = f.last;
    runs = f.runs;
    faults = no_fewer (capped (earlier files.class + count_by is_fault half.stand.list)) failed later f.faults more;
    before = f.before;
    layouts = f.layouts;
    halves = f.halves;
  }
    where
      no_fewer : (a b c : ℕ) → a ≤ b → b ≤ c → a ≤ c
      no_fewer a b c p q = omega (arith, p, q)

  pub files_read : (old new : FilesInside) (failed later : ℕ) (half other : HalfValue) → new ≡ old → other ≡ half → failed ≤ later
      → KeepsFiles half_of told start earlier old failed half → KeepsFiles half_of told start earlier new later other
  files_read old new failed later half other same is more f =
      subst (λ (x : FilesInside). KeepsFiles half_of told start earlier x later other) (sym same)
      (subst (λ (h : HalfValue). KeepsFiles half_of told start earlier old later h) (sym is) (later_on old failed later half more f))

-- ---- a desk of which no more was asked than which metric goes next

no_shelf : (shelf : Option DrainValue) → is_some shelf ≡ false → shelf ≡ None
no_shelf None e = refl
no_shelf (Some drain) e = absurd (false≢true (sym e))

pub is_empty : (shelf : Option DrainValue) (shelved : Bool) → shelved ≡ is_some shelf → shelved ≡ false → shelf ≡ None
is_empty shelf shelved is none = no_shelf shelf (sym is ∙ none)

module _ (table : TableId) (half_of : ℕ → TableId) (start : State) (old new : DeskInside) (half : HalfValue) (tail : TailValue) where
  pub desk_stands : new.class ≡ old.class → HoldsDesk new (replay start tail.list) → KeepsDesk table half_of start old half tail → KeepsDesk table half_of start new half tail
  desk_stands class holds k = record {
    same = k.same;
    class = k.class ∙ sym class;
    within = subst (λ (c : ℕ). c < 16) (sym class) k.within;
    tied = k.tied ∙ ap half_of (sym class);
    holds = holds;
    since = k.since;
    settled = k.settled;
    runs = k.runs;
  }

  pub desk_picks : OnlyPicks old new → KeepsDesk table half_of start old half tail → KeepsDesk table half_of start new half tail
  desk_picks only k =
      let s : State = replay start tail.list in
      desk_stands (ap (λ (d : DeskInside). d.class) only.others)
      (desk_part None new (untold old.class) s (only.stays (untold old.class) None s (with_untold old s k.holds))) k

-- files of which neither the class nor the drain nor what the disk tells changed
pub same_files : (old new : FilesInside) → new.class ≡ old.class → new.shelf ≡ old.shelf → new.steps ≡ old.steps → new.log ≡ old.log → new.known ≡ old.known → new ≡ old
same_files old new class shelf steps log known = λ i. record { class = class i; shelf = shelf i; steps = steps i; log = log i; known = known i }

-- ---- what a pass entered

pub told_enters : (start : State) (passes : ℕ) (tail : TailValue) (entry : Option Entry) (old new : PassValue) → Tells start passes tail entry old new → Enters start passes (listed entry) old new
told_enters start passes tail None old new tells = tells.enters
told_enters start passes tail (Some e) old new tells = tells.enters
