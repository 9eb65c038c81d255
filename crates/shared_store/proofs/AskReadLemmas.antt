-- How the reads of a question end.
use Rattle.std.proofs.Common.{◌≡◌, ◌⊎◌, inl, inr, ◌∙◌, ℕ, ℤ, true, ◌<◌, ◌≤◌, List, [], ◌∷◌, ◌++◌, length, get_or, Option, None, Some, IfSome, refl, sym, ap, subst, arith}
use Rattle.std.specs.Prelude.{All, Contains, IfOk, IsErrAnd, Result, Ok, Err, slice_index_or, slice_set}
use Rattle.std.proofs.lemmas.List.{get_or_default, length-set}
use Rattle.outside_io.specs.Image.{Image}
use Rattle.metric_path.specs.Class.{class_of}
use Rattle.carbon_history.specs.declared.entry.Entry.{Entry}
use Rattle.carbon_model.specs.State.{Kept, State, no_rings, rings_of}
use Rattle.carbon_model.specs.Replay.{replay}
use Rattle.render_need.specs.declared.need.Need.{Need}
use Rattle.render_need.specs.Rows.{AreRows, Rows}
use Rattle.found_rows.specs.Rows.{FindsFew, IsReadFor}
use Rattle.series_funcs.specs.Combined.{most_series}
use Rattle.ring_format.specs.Layout.{LayoutValue}
use Rattle.ring_format.specs.Patch.{PatchValue}
use Rattle.ring_archive.specs.Ring.{ReadsAs, Rings}
use Rattle.ring_archive.specs.View.{OnRing}
use Rattle.ring_archive.specs.declared.view.RingView.{RingView}
use Rattle.series_fetch.specs.Fetched.{Fetches}
use Rattle.series_fetch.specs.Shown.{shown}
use Rattle.series_fetch.specs.Window.{HasBuckets}
use Rattle.series_fetch.specs.declared.range.Window.{Window}
use Rattle.series_set.specs.Series.{SeriesValue}
use Rattle.shard_core.specs.Looks.{looked_paths}
use Rattle.shard_core.specs.declared.looked.Looked.{Looked}
use Rattle.shard_core.specs.declared.looked.LookFault.{LookFault}
use Rattle.shard_core.specs.declared.looked.LookFault.TheVariants as look
use Rattle.shard_core.proofs.ReadingLemmas.{fresh_is_empty, no_cells}
use Rattle.shared_history.specs.Parts.{PassValue}
use Rattle.shared_store.specs.declared.ask_fault.AskFault.{AskFault}
use Rattle.shared_store.specs.declared.ask_fault.AskFault.TheVariants.{DiskFault, TooManySeries, TooManyPoints, NoMemory}
use Rattle.shared_store.specs.declared.try_end.TryEnd.{TryEnd}
use Rattle.shared_store.specs.declared.try_end.TryEnd.TheVariants.{Moved, Ended}
use Rattle.std.specs.declared.sync.MutexGuard.{MutexGuard}
use Rattle.std.proofs.lemmas.List.Elements.{All-cons, All-contains, All-head, All-nil, All-tail}
use Rattle.shared_store.specs.Held.{AreFilesOf, IsCovered, IsHeld, IsPlaceOf, KeepsFilesHeld}
use Rattle.shared_store.specs.Locks.{FilesValue}
use Rattle.shared_store.specs.Asking.{AnswersTry, Counts, EndsAs, HasNotMoved, IsLookAt, IsNoMove, IsSeriesAt, IsSeriesOf, IsShortLook, IsWithin, OnlyLooks, Pairwise, PutsInOrder, ReadsAll, ReadsAt, ReadsOne, ReadsSet, ReadsWell, ShowsAt, ShowsBare, Stops, all_series}
use Rattle.shared_store.proofs.AskFoundLemmas.{FoundOf, all_by, are_rows, few_found, found_within, has_rows, pairwise_more, path_in}
use Rattle.shared_store.proofs.AskPassLemmas.{fault_behind, only_both, only_itself, put_one}
use Rattle.shared_store.proofs.HeldLemmas.{still_covers}

-- ---- early ends

module _ (start : State) (passes : ℕ) where
  pub stops_behind : (within : List ℕ → Type 0) (end : TryEnd) (old mid new : PassValue) → OnlyLooks old mid → Stops within start passes end mid new → Stops within start passes end old new
  stops_behind within Moved old mid new only stops = (only_both old mid new only stops.0, stops.1)
  stops_behind within (Ended (DiskFault class)) old mid new only stops =
      record { path = stops.path; one = stops.one; here = stops.here; fault = fault_behind start passes class old mid new only stops.fault }
  stops_behind within (Ended NoMemory) old mid new only stops = only_both old mid new only stops
  stops_behind within (Ended (TooManySeries count)) old mid new only stops = stops
  stops_behind within (Ended (TooManyPoints count)) old mid new only stops = stops

  pub stops_for : (within among : List ℕ → Type 0) → ((path : List ℕ) → within path → among path) → (end : TryEnd) (old new : PassValue) → Stops within start passes end old new
      → Stops among start passes end old new
  stops_for within among more Moved old new stops = (stops.0, record { path = stops.1.path; one = more stops.1.path stops.1.one; was = stops.1.was })
  stops_for within among more (Ended (DiskFault class)) old new stops =
      record { path = stops.path; one = more stops.path stops.one; here = stops.here; fault = stops.fault }
  stops_for within among more (Ended NoMemory) old new stops = stops
  stops_for within among more (Ended (TooManySeries count)) old new stops = stops
  stops_for within among more (Ended (TooManyPoints count)) old new stops = stops

-- ---- one read

module _ (class : ℕ) where
  pub no_move : (read : Result (List (Option ℤ)) LookFault) (result : Result (List (Option ℤ)) TryEnd) → EndsAs class read result → HasNotMoved read → IsNoMove result
  no_move (Ok values) result is not = subst (λ (r : Result (List (Option ℤ)) TryEnd). IsNoMove r) (sym is) tt
  no_move (Err (look.Moved drains)) result is not = absurd not
  no_move (Err look.DiskFault) result is not = subst (λ (r : Result (List (Option ℤ)) TryEnd). IsNoMove r) (sym is) tt
  no_move (Err look.NoMemory) result is not = subst (λ (r : Result (List (Option ℤ)) TryEnd). IsNoMove r) (sym is) tt

  pub if_well : (P : Type 0) (read : Result (List (Option ℤ)) LookFault) (result : Result (List (Option ℤ)) TryEnd) → EndsAs class read result → (ReadsWell read → P)
      → IfOk result (λ values. P)
  if_well P (Ok values) result is well = subst (λ (r : Result (List (Option ℤ)) TryEnd). IfOk r (λ v. P)) (sym is) (well tt)
  if_well P (Err (look.Moved drains)) result is well = subst (λ (r : Result (List (Option ℤ)) TryEnd). IfOk r (λ v. P)) (sym is) tt
  if_well P (Err look.DiskFault) result is well = subst (λ (r : Result (List (Option ℤ)) TryEnd). IfOk r (λ v. P)) (sym is) tt
  if_well P (Err look.NoMemory) result is well = subst (λ (r : Result (List (Option ℤ)) TryEnd). IfOk r (λ v. P)) (sym is) tt

pub ok_any : {A E : Type 0} (P : Type 0) (r : Result A E) → P → IfOk r (λ x. P)
ok_any P (Ok x) p = p
ok_any P (Err e) p = tt

pub reads_one : (start : State) (told : ℕ → Option Image) (passes : ℕ) (looked : Looked) (read : Result (List (Option ℤ)) LookFault) (result : Result (List (Option ℤ)) TryEnd) (old new : PassValue)
    → EndsAs (class_of looked.path) read result → ReadsAt start told passes looked read old new → ReadsOne start told passes looked result old new
reads_one start told passes looked (Ok values) result old new is reads = subst (λ (r : Result (List (Option ℤ)) TryEnd). ReadsOne start told passes looked r old new) (sym is) reads
reads_one start told passes looked (Err (look.Moved drains)) result old new is reads =
    subst (λ (r : Result (List (Option ℤ)) TryEnd). ReadsOne start told passes looked r old new) (sym is) (reads.0, record { path = looked.path; one = refl; was = reads.1 })
reads_one start told passes looked (Err look.DiskFault) result old new is reads =
    subst (λ (r : Result (List (Option ℤ)) TryEnd). ReadsOne start told passes looked r old new) (sym is) (record { path = looked.path; one = refl; here = refl; fault = reads })
reads_one start told passes looked (Err look.NoMemory) result old new is reads =
    subst (λ (r : Result (List (Option ℤ)) TryEnd). ReadsOne start told passes looked r old new) (sym is) reads

-- what is fetched of a file that is yet to be made
bare_told : (view : RingView) (patch : PatchValue) (path : List ℕ) (layout : LayoutValue) (known : Option Image) (pending : List (ℕ × ℤ)) (window : Window) (values : List (Option ℤ))
    → patch ≡ no_cells path layout true → OnRing view patch.fresh known (λ file. (rings : Rings) → ReadsAs patch file rings → values ≡ shown view.layout rings pending window)
    → values ≡ shown view.layout no_rings pending window
bare_told view patch path layout known pending window values is told =
    subst (λ (p : PatchValue). OnRing view p.fresh known (λ file. (rings : Rings) → ReadsAs p file rings → values ≡ shown view.layout rings pending window)) is told
    no_rings (fresh_is_empty path layout)

pub bare_fetched : (view : RingView) (patch : PatchValue) (path : List ℕ) (known : Option Image) (pending : List (ℕ × ℤ)) (looked : Looked) (values shows : List (Option ℤ))
    → patch ≡ no_cells path looked.layout true → view.layout ≡ looked.layout → pending ≡ looked.pending → shows ≡ values
    → Fetches view patch known pending looked.window values → ShowsBare looked shows
bare_fetched view patch path known pending looked values shows is layout points same fetches =
    subst (ShowsBare looked) (sym same) (record {
      count = subst (λ (l : LayoutValue). HasBuckets l looked.window (length values)) layout fetches.count;
      bare = bare_told view patch path looked.layout known pending looked.window values is fetches.told
          ∙ (λ i. shown (layout i) no_rings (points i) looked.window);
    })

-- nothing is kept of a metric: its pending points are all that it shows
pub shows_bare : (told : ℕ → Option Image) (s : State) (looked : Looked) (values : List (Option ℤ)) → s.kept looked.path ≡ None → ShowsBare looked values → ShowsAt told s looked values
shows_bare told s looked values none shows = record {
  pending = record { count = shows.count; some = (no_rings, shows.bare) };
  bare = λ none. shows.bare;
  kept = over (told (class_of looked.path));
}
  where
    over : (opening : Option Image) → IfSome opening (λ opening. values ≡ shown looked.layout (rings_of (s.kept looked.path)) looked.pending looked.window)
    over None = tt
    over (Some image) = shows.bare ∙ ap (λ (o : Option Kept). shown looked.layout (rings_of o) looked.pending looked.window) (sym none)

-- a read behind a look of the pass
pub one_behind : (start : State) (told : ℕ → Option Image) (passes : ℕ) (looked : Looked) (result : Result (List (Option ℤ)) TryEnd) (old mid new : PassValue) → OnlyLooks old mid
    → ReadsOne start told passes looked result mid new → ReadsOne start told passes looked result old new
one_behind start told passes looked (Ok values) old mid new only reads =
    (only_both old mid new only reads.0, subst (λ (l : List Entry). ShowsAt told (replay start l) looked values) only.seen reads.1)
one_behind start told passes looked (Err end) old mid new only reads = stops_behind start passes (λ path. looked.path ≡ path) end old mid new only reads

-- ---- a series

pub series_at_look : (told : ℕ → Option Image) (s : State) (looked : Looked) (values : List (Option ℤ)) (series : SeriesValue) → ShowsAt told s looked values → IsSeriesOf looked values series
    → IsSeriesAt told s looked series
series_at_look told s looked values series shows of = record {
  path = of.path;
  named = of.named;
  grid = of.grid;
  values = subst (λ (v : List (Option ℤ)). ShowsAt told s looked v) (sym of.values) shows;
  count = of.count;
  early = of.early;
}

-- ---- several reads

module _ (start : State) (told : ℕ → Option Image) (passes : ℕ) where
  -- the read of one metric of those that a need found
  pub set_stops : (found : List Looked) (looked : Looked) (end : TryEnd) (old mid new : PassValue) → Contains found looked → OnlyLooks old mid
      → Stops (λ path. looked.path ≡ path) start passes end mid new → Stops (Contains (looked_paths found)) start passes end old new
  set_stops found looked end old mid new there only stops =
      stops_behind start passes (Contains (looked_paths found)) end old mid new only
      (stops_for start passes (λ path. looked.path ≡ path) (Contains (looked_paths found))
      (λ path same. subst (λ (p : List ℕ). Contains (looked_paths found) p) same (path_in found looked there)) end mid new stops)

  pub set_more : (taken : List Looked) (set : List SeriesValue) (looked : Looked) (values : List (Option ℤ)) (series : SeriesValue) (old mid : PassValue) → OnlyLooks old mid
      → Pairwise (IsSeriesAt told (replay start old.seen)) taken set → ShowsAt told (replay start mid.seen) looked values → IsSeriesOf looked values series
      → Pairwise (IsSeriesAt told (replay start old.seen)) (taken ++ looked ∷ []) (set ++ series ∷ [])
  set_more taken set looked values series old mid only pairs shows of =
      pairwise_more (IsSeriesAt told (replay start old.seen)) taken set looked series pairs
      (series_at_look told (replay start old.seen) looked values series (subst (λ (l : List Entry). ShowsAt told (replay start l) looked values) only.seen shows) of)

  -- the reads of one need of all
  pub all_stops : (sets : List (List Looked)) (set : List Looked) (end : TryEnd) (old mid new : PassValue) → Contains sets set → OnlyLooks old mid
      → Stops (Contains (looked_paths set)) start passes end mid new → Stops (IsWithin sets) start passes end old new
  all_stops sets set end old mid new there only stops =
      stops_behind start passes (IsWithin sets) end old mid new only
      (stops_for start passes (Contains (looked_paths set)) (IsWithin sets) (λ path one. record { set = set; there = there; one = one }) end mid new stops)

  pub rows_more : (taken : List (List Looked)) (rows : Rows) (set : List Looked) (row : List SeriesValue) (old mid : PassValue) → OnlyLooks old mid
      → Pairwise (Pairwise (IsSeriesAt told (replay start old.seen))) taken rows → Pairwise (IsSeriesAt told (replay start mid.seen)) set row
      → Pairwise (Pairwise (IsSeriesAt told (replay start old.seen))) (taken ++ set ∷ []) (rows ++ row ∷ [])
  rows_more taken rows set row old mid only pairs reads =
      pairwise_more (Pairwise (IsSeriesAt told (replay start old.seen))) taken rows set row pairs
      (subst (λ (l : List Entry). Pairwise (IsSeriesAt told (replay start l)) set row) only.seen reads)

  pub set_fails : (found : List Looked) (looked : Looked) (result : Result (List SeriesValue) TryEnd) (end : TryEnd) (old mid new : PassValue) → IsErrAnd result (λ e. e ≡ end)
      → Contains found looked → OnlyLooks old mid → Stops (λ path. looked.path ≡ path) start passes end mid new → ReadsSet start told passes found result old new
  set_fails found looked (Ok set) end old mid new is there only stops = absurd is
  set_fails found looked (Err e) end old mid new is there only stops =
      subst (λ (x : TryEnd). Stops (Contains (looked_paths found)) start passes x old new) (sym is) (set_stops found looked end old mid new there only stops)

  pub all_fails : (sets : List (List Looked)) (set : List Looked) (result : Result Rows TryEnd) (end : TryEnd) (old mid new : PassValue) → IsErrAnd result (λ e. e ≡ end)
      → Contains sets set → OnlyLooks old mid → Stops (Contains (looked_paths set)) start passes end mid new → ReadsAll start told passes sets result old new
  all_fails sets set (Ok rows) end old mid new is there only stops = absurd is
  all_fails sets set (Err e) end old mid new is there only stops =
      subst (λ (x : TryEnd). Stops (IsWithin sets) start passes x old new) (sym is) (all_stops sets set end old mid new there only stops)

  -- no memory
  pub set_ends : (found : List Looked) (result : Result (List SeriesValue) TryEnd) (old new : PassValue) → IsErrAnd result (λ end. end ≡ Ended NoMemory) → OnlyLooks old new
      → ReadsSet start told passes found result old new
  set_ends found (Ok set) old new is only = absurd is
  set_ends found (Err end) old new is only = subst (λ (e : TryEnd). Stops (Contains (looked_paths found)) start passes e old new) (sym is) only

  pub all_ends : (sets : List (List Looked)) (result : Result Rows TryEnd) (old new : PassValue) → IsErrAnd result (λ end. end ≡ Ended NoMemory) → OnlyLooks old new
      → ReadsAll start told passes sets result old new
  all_ends sets (Ok rows) old new is only = absurd is
  all_ends sets (Err end) old new is only = subst (λ (e : TryEnd). Stops (IsWithin sets) start passes e old new) (sym is) only

-- the looks are as they were where the pass saw no more
pub looks_still : (start : State) (looked : Looked) (old mid : PassValue) → OnlyLooks old mid → IsLookAt (replay start old.seen) looked → IsLookAt (replay start mid.seen) looked
looks_still start looked old mid only look = subst (λ (l : List Entry). IsLookAt (replay start l) looked) (sym only.seen) look

pub short_still : (start : State) (found : List Looked) (old mid : PassValue) → OnlyLooks old mid → All (IsShortLook (replay start old.seen)) found
    → All (IsShortLook (replay start mid.seen)) found
short_still start found old mid only looks = subst (λ (l : List Entry). All (IsShortLook (replay start l)) found) (sym only.seen) looks

held_still : (n m : ℕ) → n ≡ m → (m ≡ 0) ⊎ (m ≡ 16) → (n ≡ 0) ⊎ (n ≡ 16)
held_still n m e (inl none) = inl (e ∙ none)
held_still n m e (inr all) = inr (e ∙ all)

pub is_still_held : (old mid : PassValue) (before now : List (Option (MutexGuard FilesValue))) → OnlyLooks old mid → IsHeld old.seen before → KeepsFilesHeld old.seen before now
    → IsHeld mid.seen now
is_still_held old mid before now only held keeps =
    subst (λ (l : List Entry). IsHeld l now) (sym only.seen) (keeps.files, held_still (length now) (length before) keeps.many held.1)

pub keeps_both : (old mid : PassValue) (first before now : List (Option (MutexGuard FilesValue))) → OnlyLooks old mid → KeepsFilesHeld old.seen first before
    → KeepsFilesHeld mid.seen before now → KeepsFilesHeld old.seen first now
keeps_both old mid first before now only p q = record {
  files = subst (λ (l : List Entry). AreFilesOf l now) only.seen q.files;
  many = q.many ∙ p.many;
  none = λ k d e. p.none k d (q.none k d e);
}

-- a place that is put back
pub keeps_place : (list : List Entry) (held : List (Option (MutexGuard FilesValue))) (i : ℕ) (old new : Option (MutexGuard FilesValue)) → i < length held → old ≡ slice_index_or held i old
    → AreFilesOf list held → IsPlaceOf i list new → (new ≡ None → old ≡ None) → KeepsFilesHeld list held (slice_set held i new)
keeps_place list held i old new within is files place none = record {
  files = λ k d less. put_one (IsPlaceOf k list) held i k new d within (λ apart. files k d (subst (λ (n : ℕ). k < n) (length-set held i new) less))
      (λ e. subst (λ (j : ℕ). IsPlaceOf j list new) (sym e) place);
  many = length-set held i new;
  none = λ k d. put_one (λ (x : Option (MutexGuard FilesValue)). x ≡ None → slice_index_or held k d ≡ None) held i k new d within (λ apart e. e)
      (λ e empty. ap (λ (j : ℕ). slice_index_or held j d) e ∙ (get_or_default held i d old within ∙ (sym is ∙ none empty)));
}

-- what was covered still is
pub still_covered : (start : State) (old mid : PassValue) (before now : List (Option (MutexGuard FilesValue))) (looked : Looked) → OnlyLooks old mid → KeepsFilesHeld old.seen before now
    → IsCovered (replay start old.seen) before looked → IsCovered (replay start mid.seen) now looked
still_covered start old mid before now looked only keeps covers =
    subst (λ (l : List Entry). IsCovered (replay start l) now looked) (sym only.seen) (still_covers (replay start old.seen) old.seen before now looked keeps covers)

pub one_covered : (start : State) (old mid : PassValue) (before now : List (Option (MutexGuard FilesValue))) (found : List Looked) (i : ℕ) (looked : Looked) → i < length found
    → looked ≡ get_or found i looked → OnlyLooks old mid → KeepsFilesHeld old.seen before now → All (IsCovered (replay start old.seen) before) found
    → IsCovered (replay start mid.seen) now looked
one_covered start old mid before now found i looked less is only keeps covers =
    still_covered start old mid before now looked only keeps (subst (IsCovered (replay start old.seen) before) (sym is) (covers i looked less))

pub set_covered : (start : State) (old mid : PassValue) (before now : List (Option (MutexGuard FilesValue))) (sets : List (List Looked)) (i : ℕ) (set : List Looked) → i < length sets
    → set ≡ get_or sets i set → OnlyLooks old mid → KeepsFilesHeld old.seen before now → All (All (IsCovered (replay start old.seen) before)) sets
    → All (IsCovered (replay start mid.seen) now) set
set_covered start old mid before now sets i set less is only keeps covers =
    let all : All (IsCovered (replay start old.seen) before) set = subst (All (IsCovered (replay start old.seen) before)) (sym is) (covers i set less) in
    λ k d within. still_covered start old mid before now (get_or set k d) only keeps (all k d within)

-- nothing is held, and nothing is asked of it
pub none_held : (list : List Entry) (held : List (Option (MutexGuard FilesValue))) → held ≡ [] → IsHeld list held
none_held list held none = subst (IsHeld list) (sym none) ((λ k d less. absurd (below_none k less)), inl refl)
  where
    below_none : (k : ℕ) → k < 0 → ⊥
    below_none k less = omega (arith, less)

pub none_covered : (s : State) (held : List (Option (MutexGuard FilesValue))) (sets : List (List Looked)) → held ≡ [] → All (All (IsCovered s held)) sets
none_covered s held sets none = λ i e some k d within. λ place less bare.
    absurd (below_none (class_of (get_or (get_or sets i e) k d).path) (subst (λ (h : List (Option (MutexGuard FilesValue))). class_of (get_or (get_or sets i e) k d).path < length h) none less))
  where
    below_none : (k : ℕ) → k < 0 → ⊥
    below_none k less = omega (arith, less)

-- in order of the paths they are those that were found
pub all_sorted : (P : Looked → Type 0) (sets sorted : List (List Looked)) → Pairwise PutsInOrder sets sorted → All (All P) sets → All (All P) sorted
all_sorted P [] [] p all = All-nil (All P)
all_sorted P [] (y ∷ ys) p all = absurd (cc p)
all_sorted P (x ∷ xs) [] p all = absurd p
all_sorted P (x ∷ xs) (y ∷ ys) p all =
    All-cons (All P) y ys (all_by P y (λ looked c. All-contains P x looked (All-head (All P) x xs all) (p.0.from looked c)))
    (all_sorted P xs ys p.1 (All-tail (All P) x xs all))

-- ---- the answer of a try

pub answers_counts : (start : State) (told : ℕ → Option Image) (passes now : ℕ) (needs : List Need) (old : PassValue) (fault : AskFault)
    → Counts (replay start old.seen) now needs (Err fault) → OnlyLooks old old → AnswersTry start told passes now needs (Err (Ended fault)) old old
answers_counts start told passes now needs old (DiskFault class) counts only = absurd counts
answers_counts start told passes now needs old (TooManySeries count) counts only = (only, counts)
answers_counts start told passes now needs old (TooManyPoints count) counts only = (only, counts)
answers_counts start told passes now needs old NoMemory counts only = only

-- no memory
pub answers_ends : (start : State) (told : ℕ → Option Image) (passes now : ℕ) (needs : List Need) (result : Result Rows TryEnd) (old : PassValue) → IsErrAnd result (λ end. end ≡ Ended NoMemory)
    → AnswersTry start told passes now needs result old old
answers_ends start told passes now needs (Ok rows) old is = absurd is
answers_ends start told passes now needs (Err end) old is = subst (λ (e : TryEnd). AnswersTry start told passes now needs (Err e) old old) (sym is) (only_itself old)

module _ (start : State) (told : ℕ → Option Image) (passes now : ℕ) (needs : List Need) (sets : List (List Looked)) (old new : PassValue)
    (found : Pairwise (FoundOf (replay start old.seen) now) needs sets) where
  read_for : FindsFew (replay start old.seen) now needs → (path : List ℕ) → IsWithin sets path → IsReadFor (replay start old.seen) now needs path
  read_for few path within = record { found = found_within (replay start old.seen) now needs sets path found within; within = few }

  pub answers_reads : (result : Result Rows TryEnd) → FindsFew (replay start old.seen) now needs → ReadsAll start told passes sets result old new
      → AnswersTry start told passes now needs result old new
  answers_reads (Ok rows) few reads =
      let counts = few_found (replay start old.seen) now needs sets few found in
      (reads.0, has_rows told (replay start old.seen) now needs sets rows found counts.0 counts.1 reads.1)
  answers_reads (Err Moved) few reads = stops_for start passes (IsWithin sets) (IsReadFor (replay start old.seen) now needs) (read_for few) Moved old new reads
  answers_reads (Err (Ended (DiskFault class))) few reads =
      stops_for start passes (IsWithin sets) (IsReadFor (replay start old.seen) now needs) (read_for few) (Ended (DiskFault class)) old new reads
  answers_reads (Err (Ended NoMemory)) few reads = reads
  answers_reads (Err (Ended (TooManySeries count))) few reads = absurd reads
  answers_reads (Err (Ended (TooManyPoints count))) few reads = absurd reads

pub rows_reads : (start : State) (told : ℕ → Option Image) (passes : ℕ) (sets : List (List Looked)) (old new : PassValue) (result : Result Rows TryEnd) → all_series sets ≤ most_series
    → ReadsAll start told passes sets result old new → IfOk result AreRows
rows_reads start told passes sets old new (Ok rows) few reads = are_rows told (replay start old.seen) sets rows few reads.1
rows_reads start told passes sets old new (Err end) few reads = tt
