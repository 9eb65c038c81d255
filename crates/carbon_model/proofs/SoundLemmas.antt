-- Openings are sound, and legal entries keep a state so.
use Rattle.std.proofs.Common.{◌≡◌, ◌≢◌, ◌∙◌, ◌+◌, ◌<◌, ◌==◌, ◌++◌, ◌↔◌, inl, inr, ℕ, ℤ, Bool, true, false, cond, if◌then◌else◌, List, [], ◌∷◌, Option, Some, None, filter, get_or, length, nat_lt, slice_get, refl, sym, ap, subst, arith, is_some, true≢false, unwrap_or}
use Rattle.std.specs.Prelude.{All, IfSome, IsSome}
use Rattle.std.specs.List.{AllByRecursion, IsDistinct, list_any}
use Rattle.std.specs.Map.{lookup, remove_entry}
use Rattle.std.specs.Str.{bytes_eq}
use Rattle.std.proofs.lemmas.Bool.Decides.{Decides-eqb}
use Rattle.std.proofs.lemmas.Cmp.{nat_list_eq_equiv}
use Rattle.std.proofs.lemmas.List.{length-append}
use Rattle.std.proofs.lemmas.List.Elements.{All-cons, All-contains, All-head, All-nil, All-tail}
use Rattle.std.proofs.lemmas.List.Quantifiers.{position-Some}
use Rattle.std.proofs.lemmas.Map.Keys.{IsDistinct-cons, IsDistinct-head, IsDistinct-push, IsDistinct-tail}
use Rattle.std.proofs.lemmas.Option.{get_or_from_slice_get, none-some, same_Some, slice_get_within}
use Rattle.std.proofs.lemmas.Slice.Eq.{bytes_eq-Decides}
use Rattle.indexmap.specs.IndexMap.{insert_entry}
use Rattle.indexmap.proofs.SetLemmas.{keys_insert_entry}
use Rattle.outside_io.specs.Image.{Image}
use Rattle.metric_path.specs.Path.{path_fault}
use Rattle.metric_path.specs.declared.path.PathFault.{PathFault}
use Rattle.metric_path.specs.Class.{class_of}
use Rattle.point_cache.specs.Points.{with_point}
use Rattle.point_cache.specs.Pending.{paths_of, place_of, points_of, with_put}
use Rattle.drain_order.specs.Pick.{AllPending, pick, queue_after, queue_now}
use Rattle.drain_order.specs.declared.strategy.Strategy.{Strategy}
use Rattle.drain_order.specs.declared.strategy.Strategy.TheVariants.{Max, Sorted, TimeSorted, Naive}
use Rattle.drain_order.proofs.PickLemmas.{empty_then_none, max_is_first, none_then_empty, timesorted_is_first}
use Rattle.drain_order.proofs.PickingLemmas.{made_pending}
use Rattle.drain_order.proofs.StayLemmas.{front_taken, made_once, none_once, none_pending, put_keeps_pending, rest_once}
use Rattle.carbon_history.specs.declared.entry.Entry.{Entry}
use Rattle.carbon_history.specs.declared.entry.Entry.TheVariants.{Put, Drain, Ask, Fault}
use Rattle.carbon_history.specs.declared.entry.PutEnd.TheVariants.{Stored, Replaced, Full}
use Rattle.carbon_model.specs.State.{Metrics, State, picked, points_in, with_pending}
use Rattle.carbon_model.specs.RingFiles.{IsOfClass, Opens, Settings}
use Rattle.carbon_model.specs.Replay.{DrainsClass, DrainsSome, IsLegal, IsLegalHistory, after, drained, kept_after, replay}
use Rattle.carbon_model.specs.Found.{IsKnown}
use Rattle.carbon_model.specs.Sound.{IsPendingIn, IsSound, IsSoundPart}
use Rattle.carbon_model.proofs.DrainLemmas.{one_list}

-- ---- the metrics of a class

same_path : (p path : List ℕ) → bytes_eq p path ≡ true → p ≡ path
same_path p path e = (bytes_eq-Decides p path).0 e

some_point : (points : List (ℕ × ℤ)) (time : ℕ) (value : ℤ) → 0 < length (with_point points time value)
some_point points time value =
    omega (arith, length-append (filter (λ p. nat_lt p.0 time) points) ((time, value) ∷ filter (λ p. nat_lt time p.0) points))

metric_put : (class : ℕ) (metrics : Metrics) (path : List ℕ) (points : List (ℕ × ℤ)) → All (IsPendingIn class) metrics → IsOfClass class path → 0 < length points
    → All (IsPendingIn class) (insert_entry bytes_eq metrics path points)
metric_put class [] path points all here some = All-cons (IsPendingIn class) (path, points) [] (record { path = here; points = some }) (All-nil (IsPendingIn class))
metric_put class (m ∷ ms) path points all here some =
    by (bytes_eq path m.0) (metric_put class ms path points (All-tail (IsPendingIn class) m ms all) here some)
  where
    by : (b : Bool) → All (IsPendingIn class) (insert_entry bytes_eq ms path points)
        → All (IsPendingIn class) (if b then (m.0, points) ∷ ms else m ∷ insert_entry bytes_eq ms path points)
    by true more = All-cons (IsPendingIn class) (m.0, points) ms (record { path = (All-head (IsPendingIn class) m ms all).path; points = some }) (All-tail (IsPendingIn class) m ms all)
    by false more = All-cons (IsPendingIn class) m _ (All-head (IsPendingIn class) m ms all) more

metric_taken : (class : ℕ) (metrics : Metrics) (path : List ℕ) → All (IsPendingIn class) metrics → All (IsPendingIn class) (remove_entry (bytes_eq path) metrics)
metric_taken class [] path all = all
metric_taken class (m ∷ ms) path all = by (bytes_eq path m.0) (metric_taken class ms path (All-tail (IsPendingIn class) m ms all))
  where
    by : (b : Bool) → All (IsPendingIn class) (remove_entry (bytes_eq path) ms) → All (IsPendingIn class) (cond b ms (m ∷ remove_entry (bytes_eq path) ms))
    by true more = All-tail (IsPendingIn class) m ms all
    by false more = All-cons (IsPendingIn class) m _ (All-head (IsPendingIn class) m ms all) more

paths_put : (metrics : Metrics) (path : List ℕ) (points : List (ℕ × ℤ)) → IsDistinct bytes_eq (paths_of metrics) → IsDistinct bytes_eq (paths_of (insert_entry bytes_eq metrics path points))
paths_put metrics path points apart =
    subst (IsDistinct bytes_eq) (sym (keys_insert_entry bytes_eq metrics path points)) (by (list_any (bytes_eq path) (paths_of metrics)) refl)
  where
    by : (b : Bool) → list_any (bytes_eq path) (paths_of metrics) ≡ b → IsDistinct bytes_eq (if b then paths_of metrics else paths_of metrics ++ path ∷ [])
    by true e = apart
    by false e = IsDistinct-push nat_list_eq_equiv (paths_of metrics) path apart e

others_left : (P : List ℕ → Type 0) (metrics : Metrics) (path : List ℕ) → AllByRecursion P (paths_of metrics) → AllByRecursion P (paths_of (remove_entry (bytes_eq path) metrics))
others_left P [] path all = all
others_left P (m ∷ ms) path all = by (bytes_eq path m.0) (others_left P ms path all.1)
  where
    by : (b : Bool) → AllByRecursion P (paths_of (remove_entry (bytes_eq path) ms)) → AllByRecursion P (paths_of (cond b ms (m ∷ remove_entry (bytes_eq path) ms)))
    by true more = all.1
    by false more = (all.0, more)

paths_taken : (metrics : Metrics) (path : List ℕ) → IsDistinct bytes_eq (paths_of metrics) → IsDistinct bytes_eq (paths_of (remove_entry (bytes_eq path) metrics))
paths_taken [] path apart = apart
paths_taken (m ∷ ms) path apart = by (bytes_eq path m.0) (paths_taken ms path (IsDistinct-tail bytes_eq m.0 (paths_of ms) apart))
  where
    by : (b : Bool) → IsDistinct bytes_eq (paths_of (remove_entry (bytes_eq path) ms)) → IsDistinct bytes_eq (paths_of (cond b ms (m ∷ remove_entry (bytes_eq path) ms)))
    by true more = IsDistinct-tail bytes_eq m.0 (paths_of ms) apart
    by false more =
        IsDistinct-cons bytes_eq m.0 (paths_of (remove_entry (bytes_eq path) ms))
        (others_left (λ y. bytes_eq m.0 y ≡ false) ms path (IsDistinct-head bytes_eq m.0 (paths_of ms) apart)) more

-- ---- the queue of a class

abbrev is_sorted : Strategy → Bool
is_sorted Max = false
is_sorted Sorted = true
is_sorted TimeSorted = false
is_sorted Naive = false

some_paths : (p : List ℕ) (ps : List (List ℕ)) → p ∷ ps ≢ []
some_paths p ps e = let long : length (p ∷ ps) ≡ 0 = ap length e in omega (arith, long)

not_sorted : (strategy : Strategy) (p : List ℕ) (ps : List (List ℕ)) → is_sorted strategy ≡ false → (p ∷ ps ≢ [] → strategy ≡ Sorted) → ⊥
not_sorted strategy p ps other only = true≢false (sym (ap is_sorted (only (some_paths p ps))) ∙ other)

-- what of a part is about its queue
record Waits (strategy : Strategy) (queue : List (List ℕ)) (metrics : Metrics) : Type 0 where
  sorted : queue ≢ [] → strategy ≡ Sorted
  queued : AllPending queue metrics
  once : IsDistinct bytes_eq queue

none_waits : (strategy : Strategy) (metrics : Metrics) → Waits strategy [] metrics
none_waits strategy metrics = record { sorted = λ some. absurd (some refl); queued = none_pending metrics [] refl; once = none_once }

unsorted_waits : (strategy : Strategy) (queue : List (List ℕ)) (metrics rest : Metrics) → is_sorted strategy ≡ false → Waits strategy queue metrics → Waits strategy queue rest
unsorted_waits strategy [] metrics rest other waits = none_waits strategy rest
unsorted_waits strategy (p ∷ ps) metrics rest other waits = absurd (not_sorted strategy p ps other waits.sorted)

-- once the metric that is picked is taken
queue_taken : (strategy : Strategy) (queue : List (List ℕ)) (metrics : Metrics) (path : List ℕ) → Waits strategy queue metrics → IsDistinct bytes_eq (paths_of metrics)
    → pick strategy queue metrics ≡ Some path → Waits strategy (queue_after strategy queue metrics) (remove_entry (bytes_eq path) metrics)
queue_taken Max queue metrics path waits apart picks = unsorted_waits Max queue metrics (remove_entry (bytes_eq path) metrics) refl waits
queue_taken Sorted [] metrics path waits apart picks = record {
  sorted = λ some. refl;
  queued = front_taken metrics (queue_now [] metrics) path (made_pending metrics) (made_once metrics apart) picks;
  once = rest_once (queue_now [] metrics) (made_once metrics apart);
}
queue_taken Sorted (p ∷ ps) metrics path waits apart picks = record {
  sorted = λ some. refl;
  queued = front_taken metrics (p ∷ ps) path waits.queued waits.once picks;
  once = rest_once (p ∷ ps) waits.once;
}
queue_taken TimeSorted queue metrics path waits apart picks = unsorted_waits TimeSorted queue metrics (remove_entry (bytes_eq path) metrics) refl waits
queue_taken Naive queue metrics path waits apart picks = unsorted_waits Naive queue metrics (remove_entry (bytes_eq path) metrics) refl waits

-- ---- parts

part_none : (class : ℕ) (strategy : Strategy) → IsSoundPart class strategy [] []
part_none class strategy =
    let waits = none_waits strategy [] in
    record { pending = All-nil (IsPendingIn class); apart = none_once; sorted = waits.sorted; queued = waits.queued; once = waits.once }

part_put : (class : ℕ) (strategy : Strategy) (queue : List (List ℕ)) (metrics : Metrics) (path : List ℕ) (time : ℕ) (value : ℤ) → IsSoundPart class strategy queue metrics
    → IsOfClass class path → IsSoundPart class strategy queue (with_put metrics path time value)
part_put class strategy queue metrics path time value part here = record {
  pending = metric_put class metrics path _ part.pending here (some_point (points_of metrics path) time value);
  apart = paths_put metrics path _ part.apart;
  sorted = part.sorted;
  queued = put_keeps_pending queue metrics path time value part.queued;
  once = part.once;
}

part_taken : (class : ℕ) (strategy : Strategy) (queue : List (List ℕ)) (metrics : Metrics) (path : List ℕ) → IsSoundPart class strategy queue metrics
    → pick strategy queue metrics ≡ Some path → IsSoundPart class strategy (queue_after strategy queue metrics) (remove_entry (bytes_eq path) metrics)
part_taken class strategy queue metrics path part picks =
    let waits = queue_taken strategy queue metrics path (record { sorted = part.sorted; queued = part.queued; once = part.once }) part.apart picks in
    record {
      pending = metric_taken class metrics path part.pending;
      apart = paths_taken metrics path part.apart;
      sorted = waits.sorted;
      queued = waits.queued;
      once = waits.once;
    }

-- ---- what is picked is pending

placed_is : (class : ℕ) (metrics : Metrics) (path : List ℕ) (o : Option ℕ) → place_of metrics path ≡ o → All (IsPendingIn class) metrics → IsSome o → IsOfClass class path
placed_is class metrics path None e all some = absurd (true≢false (sym some))
placed_is class metrics path (Some place) e all some =
    let found = position-Some (bytes_eq path) (paths_of metrics) place path e in
    subst (IsOfClass class) (sym (same_path path (get_or (paths_of metrics) place path) found.1)) (paths_are metrics all place path found.0)
  where
    paths_are : (ms : Metrics) → All (IsPendingIn class) ms → All (IsOfClass class) (paths_of ms)
    paths_are [] all = All-nil (IsOfClass class)
    paths_are (m ∷ ms) all = All-cons (IsOfClass class) m.0 (paths_of ms) (All-head (IsPendingIn class) m ms all).path (paths_are ms (All-tail (IsPendingIn class) m ms all))

front_is : (class : ℕ) (queue : List (List ℕ)) (metrics : Metrics) (path : List ℕ) → All (IsPendingIn class) metrics → AllPending queue metrics → slice_get queue 0 ≡ Some path
    → IsOfClass class path
front_is class queue metrics path all queued front =
    placed_is class metrics path (place_of metrics path) refl all
    (subst (λ (p : List ℕ). IsSome (place_of metrics p)) (get_or_from_slice_get queue 0 path path front) (queued 0 path (slice_get_within queue 0 path front)))

picked_is : (class : ℕ) (strategy : Strategy) (queue : List (List ℕ)) (metrics : Metrics) (path : List ℕ) → IsSoundPart class strategy queue metrics
    → pick strategy queue metrics ≡ Some path → IsOfClass class path
picked_is class Max queue metrics path part picks =
    let first = max_is_first queue metrics path picks in
    subst (IsOfClass class) first.named (All-contains (IsPendingIn class) metrics first.metric part.pending first.among).path
picked_is class Sorted [] metrics path part picks = front_is class (queue_now [] metrics) metrics path part.pending (made_pending metrics) picks
picked_is class Sorted (p ∷ ps) metrics path part picks = front_is class (p ∷ ps) metrics path part.pending part.queued picks
picked_is class TimeSorted queue metrics path part picks =
    let first = timesorted_is_first queue metrics path picks in
    subst (IsOfClass class) first.named (All-contains (IsPendingIn class) metrics first.metric part.pending first.among).path
picked_is class Naive queue [] path part picks = absurd (none-some path picks)
picked_is class Naive queue (m ∷ ms) path part picks = subst (IsOfClass class) (same_Some m.0 path picks) (All-head (IsPendingIn class) m ms part.pending).path

-- ---- states

equal_numbers : (a b : ℕ) → (a == b) ≡ true → a ≡ b
equal_numbers a b e = (Decides-eqb a b).0 e

put_sound : (s : State) (path : List ℕ) (time : ℕ) (value : ℤ) → IsSound s → path_fault path ≡ None
    → IsSound (with_pending s (class_of path) (with_put (s.pending (class_of path)) path time value))
put_sound s path time value sound legal = record {
  parts = λ class. by class (class == class_of path) refl;
  kept = sound.kept;
}
  where
    by : (class : ℕ) (b : Bool) → (class == class_of path) ≡ b
        → IsSoundPart class s.strategy (s.queue class) (if b then with_put (s.pending (class_of path)) path time value else s.pending class)
    by class true e =
        subst (λ (k : ℕ). IsSoundPart k s.strategy (s.queue k) (with_put (s.pending (class_of path)) path time value)) (sym (equal_numbers class (class_of path) e))
        (part_put (class_of path) s.strategy (s.queue (class_of path)) (s.pending (class_of path)) path time value (sound.parts (class_of path)) (record { legal = legal; here = refl }))
    by class false e = sound.parts class

drained_sound : (s : State) (path : List ℕ) (now : ℕ) → IsSound s → picked s (class_of path) ≡ Some path → IsSound (drained s path now)
drained_sound s path now sound picks = record {
  parts = λ class. by class (class == class_of path) refl;
  kept = λ p some. kept_by p (bytes_eq p path) refl some;
}
  where
    by : (class : ℕ) (b : Bool) → (class == class_of path) ≡ b
        → IsSoundPart class s.strategy (if b then queue_after s.strategy (s.queue class) (s.pending class) else s.queue class)
        (if b then remove_entry (bytes_eq path) (s.pending class) else s.pending class)
    by class true e =
        part_taken class s.strategy (s.queue class) (s.pending class) path (sound.parts class)
        (subst (λ (k : ℕ). picked s k ≡ Some path) (sym (equal_numbers class (class_of path) e)) picks)
    by class false e = sound.parts class

    kept_by : (p : List ℕ) (b : Bool) → bytes_eq p path ≡ b → IsSome (if b then Some (kept_after (s.rules path) (s.kept path) now (points_in s path)) else s.kept p)
        → path_fault p ≡ None
    kept_by p true e some =
        subst (λ (q : List ℕ). path_fault q ≡ None) (sym (same_path p path e))
        (picked_is (class_of path) s.strategy (s.queue (class_of path)) (s.pending (class_of path)) path (sound.parts (class_of path)) picks).legal
    kept_by p false e some = sound.kept p some

-- a legal entry keeps a state sound
pub legal_keeps_sound : (s : State) (e : Entry) → IsSound s → IsLegal s e → IsSound (after s e)
legal_keeps_sound s (Put pass path time value Stored) sound legal = put_sound s path time value sound legal.0.legal
legal_keeps_sound s (Put pass path time value Replaced) sound legal = put_sound s path time value sound legal.0.legal
legal_keeps_sound s (Put pass path time value Full) sound legal = sound
legal_keeps_sound s (Drain pass path now) sound legal = drained_sound s path now sound legal
legal_keeps_sound s (Ask pass number try now) sound legal = sound
legal_keeps_sound s (Fault pass class) sound legal = sound

pub history_keeps_sound : (s : State) (h : List Entry) → IsSound s → IsLegalHistory s h → IsSound (replay s h)
history_keeps_sound s [] sound legal = sound
history_keeps_sound s (e ∷ others) sound legal = history_keeps_sound (after s e) others (legal_keeps_sound s e sound legal.0) legal.1

-- an opening is sound
pub opening_is_sound : (settings : Settings) (told : ℕ → Option Image) (s : State) → Opens settings told s → IsSound s
opening_is_sound settings told s opens = record {
  parts = λ class. subst (λ (ms : Metrics). IsSoundPart class s.strategy (s.queue class) ms) (sym (opens.pending class))
      (subst (λ (q : List (List ℕ)). IsSoundPart class s.strategy q []) (sym (opens.queue class)) (part_none class s.strategy));
  kept = λ path some. by path (path_fault path) (opens.legal path) some;
}
  where
    by : (path : List ℕ) (o : Option PathFault) → IfSome o (λ fault. s.kept path ≡ None) → IsSome (s.kept path) → o ≡ None
    by path None none some = refl
    by path (Some fault) none some = absurd (true≢false (sym some ∙ ap is_some none))

pub run_is_sound : (settings : Settings) (told : ℕ → Option Image) (s : State) (h : List Entry) → Opens settings told s → IsLegalHistory s h → IsSound (replay s h)
run_is_sound settings told s h opens legal = history_keeps_sound s h (opening_is_sound settings told s opens) legal

-- ---- what follows

pending_is_legal : (class : ℕ) (metrics : Metrics) (path : List ℕ) → All (IsPendingIn class) metrics → points_of metrics path ≢ [] → path_fault path ≡ None
pending_is_legal class [] path all some = absurd (some refl)
pending_is_legal class (m ∷ ms) path all some = by (bytes_eq path m.0) refl some (pending_is_legal class ms path (All-tail (IsPendingIn class) m ms all))
  where
    by : (b : Bool) → bytes_eq path m.0 ≡ b → unwrap_or (cond b (Some m.1) (lookup (bytes_eq path) ms)) [] ≢ [] → (points_of ms path ≢ [] → path_fault path ≡ None)
        → path_fault path ≡ None
    by true e some more = subst (λ (p : List ℕ). path_fault p ≡ None) (sym (same_path path m.0 e)) (All-head (IsPendingIn class) m ms all).path.legal
    by false e some more = more some

pub known_is_legal : (s : State) (path : List ℕ) → IsSound s → IsKnown s path → path_fault path ≡ None
known_is_legal s path sound (inl some) = pending_is_legal (class_of path) (s.pending (class_of path)) path (sound.parts (class_of path)).pending some
known_is_legal s path sound (inr some) = sound.kept path some

pub run_knows_legal : (settings : Settings) (told : ℕ → Option Image) (s : State) (h : List Entry) (path : List ℕ) → Opens settings told s → IsLegalHistory s h
    → IsKnown (replay s h) path → path_fault path ≡ None
run_knows_legal settings told s h path opens legal known = known_is_legal (replay s h) path (run_is_sound settings told s h opens legal) known

pub none_picked : (s : State) (class : ℕ) → IsSound s → (picked s class ≡ None) ↔ (s.pending class ≡ [])
none_picked s class sound = (
  none_then_empty s.strategy (s.queue class) (s.pending class),
  λ none. subst (λ (ms : Metrics). pick s.strategy (s.queue class) ms ≡ None) (sym none)
      (empty_then_none s.strategy (s.queue class) (subst (AllPending (s.queue class)) none (sound.parts class).queued)),
)

drains_keep_sound : (s : State) (pass class now : ℕ) (es : List Entry) → IsSound s → DrainsSome s pass class now es → IsSound (replay s es)
drains_keep_sound s pass class now [] sound drains = sound
drains_keep_sound s pass class now (e ∷ others) sound drains = drains_keep_sound (after s e) pass class now others (legal_keeps_sound s e sound drains.1.0) drains.1.1

pub one_drain : (s : State) (pass class now : ℕ) (xs ys : List Entry) → IsSound s → DrainsClass s pass class now xs → DrainsClass s pass class now ys → xs ≡ ys
one_drain s pass class now xs ys sound one other =
    one_list s pass class now xs ys one.drains other.drains
    ((none_picked (replay s xs) class (drains_keep_sound s pass class now xs sound one.drains)).1 one.none_pending)
    ((none_picked (replay s ys) class (drains_keep_sound s pass class now ys sound other.drains)).1 other.none_pending)
