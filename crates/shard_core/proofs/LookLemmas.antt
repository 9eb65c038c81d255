-- What a look finds is what the state has.
use Rattle.std.proofs.Common.{◌≡◌, ◌≢◌, ◌⊎◌, inl, inr, ◌∙◌, ℕ, zero, suc, ℤ, ◌+◌, ◌<◌, ◌++◌, All, Bool, true, false, List, [], ◌∷◌, get_or, length, Option, Some, None, IfSome, IsSome, IsSomeAnd, refl, sym, ap, subst, arith, map, option_map, if◌then◌else◌}
use Rattle.std.specs.Prelude.{Contains, drop}
use Rattle.std.specs.Option.{option_map_or}
use Rattle.std.specs.Cmp.Lexicographic.{slice_cmp}
use Rattle.std.specs.List.{AllByRecursion}
use Rattle.std.specs.List.Sorted.{IsStrictlySortedBy}
use Rattle.std.specs.Ordering.{nat_cmp}
use Rattle.std.specs.declared.cmp.Ordering.TheVariants.{Less}
use Rattle.std.proofs.lemmas.List.Elements.{All-append, All-cons, All-head, All-nil, All-tail}
use Rattle.std.proofs.lemmas.Map.Keys.{sorted_head, sorted_tail}
use Rattle.std.proofs.lemmas.List.{append_assoc, drop_more}
use Rattle.std.proofs.lemmas.Option.{none-some}
use Rattle.outside_io.specs.Image.{Image}
use Rattle.metric_path.specs.Path.{path_fault}
use Rattle.metric_path.specs.Class.{class_of}
use Rattle.fixed_num.specs.Moment.{is_moment}
use Rattle.ring_format.specs.Layout.{LayoutValue}
use Rattle.metric_index.specs.Found.{Finds as FindsEntries, IsFitted}
use Rattle.metric_index.specs.Index.{entry_of, paths_of}
use Rattle.metric_index.specs.Searched.{AreKnown, IsPieceFrom}
use Rattle.metric_index.proofs.SearchedLemmas.{known_all}
use Rattle.metric_table.specs.Table.{seen}
use Rattle.metric_table.specs.declared.found_metric.FoundMetric.{FoundMetric}
use Rattle.metric_table.specs.declared.known.Known.{Known}
use Rattle.point_cache.specs.Pending.{Metrics, points_of}
use Rattle.series_fetch.specs.Window.{window}
use Rattle.series_fetch.specs.declared.range.Window.{Window}
use Rattle.series_fetch.specs.declared.range.Window.TheVariants.{Empty, Range}
use Rattle.carbon_model.specs.Found.{Finds, IsKnown}
use Rattle.carbon_model.specs.State.{Kept, State, form_of, layout_of, layout_or, points_in}
use Rattle.carbon_model.specs.RingFiles.{IsOfClass}
use Rattle.shard_core.specs.Looks.{FindsFor, IsFoundAs, IsFoundIn, IsKnownTo, IsReadableLook, IsSoundLook, Looks, LooksAtFound, MayRead, NamesFrom, NamesOf, TellsOf, looked_as, looked_if, looked_in, looked_paths}
use Rattle.shard_core.specs.Shard.{AreOfClass, Holds, Inside, KnowsAs}
use Rattle.shard_core.specs.Table.{IsEntry, Lists, Table, form_kept}
use Rattle.shard_core.specs.declared.looked.Looked.{Looked}
use Rattle.shard_core.proofs.FileLemmas.{same_text}
use Rattle.shard_core.proofs.KeptLemmas.{kept_as, version_none, version_some}
use Rattle.shard_core.proofs.PendingLemmas.{points_have_moments}

-- ---- the metrics of the state are those of the table

pub points_here : (told : Option Image) (shard : Inside) (s : State) (path : List ℕ) → class_of path ≡ shard.class → Holds told shard s → points_in s path ≡ points_of shard.cache.metrics path
points_here told shard s path one holds = ap (λ (ms : Metrics). points_of ms path) (ap s.pending one ∙ sym holds.pending)

kept_some : (o : Option Known) (kept : Option Kept) → form_kept o ≡ option_map form_of kept → IsSome kept → IsSome o
kept_some None None index some = some
kept_some None (Some k) index some = absurd (none-some (form_of k) index)
kept_some (Some known) kept index some = refl

pub state_listed : (told : Option Image) (shard : Inside) (s : State) (path : List ℕ) → IsOfClass shard.class path → Lists shard.class shard.rules shard.cache.metrics shard.table → Holds told shard s → IsKnown s path
    → IsSome (entry_of shard.table path)
state_listed told shard s path one lists holds (inl some) = lists.pending path (subst (λ (ps : List (ℕ × ℤ)). ps ≢ []) (points_here told shard s path one.here holds) some)
state_listed told shard s path one lists holds (inr kept) = kept_some (entry_of shard.table path) (s.kept path) (holds.kept.layouts path one) kept

some_kept : (known : Known) (kept : Option Kept) → known.is_kept ≡ true → form_kept (Some known) ≡ option_map form_of kept → IsSome kept
some_kept known None is index = absurd (none-some (if known.is_old then 1 else 2, known.layout) (sym index ∙ kept_as known (Some (if known.is_old then 1 else 2)) (version_some known is)))
some_kept known (Some k) is index = refl

known_by : (b : Bool) (told : Option Image) (shard : Inside) (s : State) (path : List ℕ) (known : Known) → known.is_kept ≡ b → entry_of shard.table path ≡ Some known → IsOfClass shard.class path
    → IsEntry shard.class shard.rules shard.cache.metrics path known → Holds told shard s → IsKnown s path
known_by true told shard s path known is there one entry holds = inr (some_kept known (s.kept path) is (sym (ap form_kept there) ∙ holds.kept.layouts path one))
known_by false told shard s path known is there one entry holds = inl (subst (λ (ps : List (ℕ × ℤ)). ps ≢ []) (sym (points_here told shard s path one.here holds)) (entry.pending is))

pub entry_at : (shard : Inside) (path : List ℕ) (known : Known) → entry_of shard.table path ≡ Some known → Lists shard.class shard.rules shard.cache.metrics shard.table → IsEntry shard.class shard.rules shard.cache.metrics path known
entry_at shard path known there lists = subst (λ (o : Option Known). IfSome o (IsEntry shard.class shard.rules shard.cache.metrics path)) there (lists.entries path)

layout_by_kept : (b : Bool) (known : Known) (given : LayoutValue) (kept : Option Kept) → known.is_kept ≡ b → form_kept (Some known) ≡ option_map form_of kept → (known.is_kept ≡ false → known.layout ≡ given) → known.layout ≡ layout_or given kept
layout_by_kept true known given None is index rules = absurd (none-some (if known.is_old then 1 else 2, known.layout) (sym index ∙ kept_as known (Some (if known.is_old then 1 else 2)) (version_some known is)))
layout_by_kept true known given (Some k) is index rules =
    ap (λ (o : Option (ℕ × LayoutValue)). option_map_or (λ form. form.1) o known.layout) (sym (kept_as known (Some (if known.is_old then 1 else 2)) (version_some known is)) ∙ index)
layout_by_kept false known given None is index rules = rules is
layout_by_kept false known given (Some k) is index rules = absurd (none-some (form_of k) (sym (kept_as known None (version_none known is)) ∙ index))

-- the layout of a known metric is that of the state
pub layout_here : (told : Option Image) (shard : Inside) (s : State) (path : List ℕ) (known : Known) → entry_of shard.table path ≡ Some known → IsOfClass shard.class path → Lists shard.class shard.rules shard.cache.metrics shard.table
    → Holds told shard s → known.layout ≡ layout_of s path
layout_here told shard s path known there one lists holds =
    layout_by_kept known.is_kept known (s.rules path) (s.kept path) refl (sym (ap form_kept there) ∙ holds.kept.layouts path one)
    (λ none. (entry_at shard path known there lists).given none ∙ sym (holds.rules path one.here))

pub drains_here : (told : Option Image) (shard : Inside) (s : State) (path : List ℕ) (known : Known) → entry_of shard.table path ≡ Some known → IsOfClass shard.class path → Holds told shard s → known.drains ≡ s.drains path
drains_here told shard s path known there one holds = sym (ap (λ (o : Option Known). option_map_or (λ k. k.drains) o 0) there) ∙ holds.drains path one

-- ---- paths of the table

pub legal_at : (table : Table) (path : List ℕ) → All (λ p. path_fault p ≡ None) (paths_of table) → IsSome (entry_of table path) → path_fault path ≡ None
legal_at [] path all some = absurd cc
legal_at (e ∷ es) path all some = elim (same_text path e.0) [
  | inl same ↦ subst (λ (p : List ℕ). path_fault p ≡ None) (sym same.1) (All-head (λ p. path_fault p ≡ None) e.0 (paths_of es) all)
  | inr differs ↦ legal_at es path (All-tail (λ p. path_fault p ≡ None) e.0 (paths_of es) all)
      (subst (λ (b : Bool). IsSome (if b then Some e.1 else entry_of es path)) differs.0 some)
]

some_is : (o : Option Known) → IsSome o → (known : Known) × (o ≡ Some known)
some_is None some = absurd cc
some_is (Some known) some = (known, refl)

behind_first : (x : List ℕ) (xs : List (List ℕ)) (p : List ℕ) → Contains xs p → Contains (x ∷ xs) p
behind_first x xs p c = (suc c.0, omega (arith, c.1), c.2)

first_or_behind : (x : List ℕ) (xs : List (List ℕ)) (p : List ℕ) → Contains (x ∷ xs) p → (x ≡ p) ⊎ Contains xs p
first_or_behind x xs p (zero, l, e) = inl e
first_or_behind x xs p (suc k, l, e) = inr (k, omega arith, e)

-- the paths of the table are those that are known
path_known : (table : Table) (path : List ℕ) → Contains (paths_of table) path → IsSome (entry_of table path)
path_known [] path c = absurd (omega (arith, c.1))
path_known (e ∷ es) path c = elim (same_text path e.0) [
  | inl same ↦ rw same.0 refl
  | inr differs ↦ elim (first_or_behind e.0 (paths_of es) path c) [
    | inl own ↦ absurd (differs.1 (sym own))
    | inr behind ↦ rw differs.0 (path_known es path behind)
  ]
]

known_path_in : (table : Table) (path : List ℕ) → IsSome (entry_of table path) → Contains (paths_of table) path
known_path_in [] path some = absurd cc
known_path_in (e ∷ es) path some = elim (same_text path e.0) [
  | inl same ↦ (zero, omega arith, sym same.1)
  | inr differs ↦ behind_first e.0 (paths_of es) path (known_path_in es path (subst (λ (b : Bool). IsSome (if b then Some e.1 else entry_of es path)) differs.0 some))
]

pub class_at : (shard : Inside) (path : List ℕ) → All (λ p. path_fault p ≡ None) (paths_of shard.table) → Lists shard.class shard.rules shard.cache.metrics shard.table → IsSome (entry_of shard.table path) → IsOfClass shard.class path
class_at shard path legal lists some =
    let found = some_is (entry_of shard.table path) some in
    record { legal = legal_at shard.table path legal some; here = (entry_at shard path found.0 found.1 lists).here }

-- ---- what is looked at

below_by : (w : Window) (P : List ℕ → Type 0) (metrics : Metrics) (m : List ℕ × Known) (looked : List Looked) → P m.0 → AllByRecursion P (looked_paths looked) → AllByRecursion P (looked_paths (looked_if metrics w m looked))
below_by Empty P metrics m looked first others = others
below_by (Range i begin end) P metrics m looked first others = (first, others)

looked_below : (P : List ℕ → Type 0) (metrics : Metrics) (now from until : ℕ) (found : List (List ℕ × Known)) → AllByRecursion P (paths_of found) → AllByRecursion P (looked_paths (looked_in metrics now from until found))
looked_below P metrics now from until [] all = tt
looked_below P metrics now from until (m ∷ found) all =
    below_by (window m.1.layout now from until) P metrics m (looked_in metrics now from until found) all.0 (looked_below P metrics now from until found all.1)

rising_by : (w : Window) (metrics : Metrics) (m : List ℕ × Known) (looked : List Looked) → AllByRecursion (λ path. slice_cmp nat_cmp m.0 path ≡ Less) (looked_paths looked) → IsStrictlySortedBy (slice_cmp nat_cmp) (looked_paths looked)
    → IsStrictlySortedBy (slice_cmp nat_cmp) (looked_paths (looked_if metrics w m looked))
unfolding IsStrictlySortedBy
rising_by Empty metrics m looked first others = others
rising_by (Range i begin end) metrics m looked first others = (first, others)

looked_rising : (metrics : Metrics) (now from until : ℕ) (found : List (List ℕ × Known)) → IsStrictlySortedBy (slice_cmp nat_cmp) (paths_of found) → IsStrictlySortedBy (slice_cmp nat_cmp) (looked_paths (looked_in metrics now from until found))
looked_rising metrics now from until [] rising = rising
looked_rising metrics now from until (m ∷ found) rising =
    rising_by (window m.1.layout now from until) metrics m (looked_in metrics now from until found)
    (looked_below (λ path. slice_cmp nat_cmp m.0 path ≡ Less) metrics now from until found (sorted_head (slice_cmp nat_cmp) m.0 (paths_of found) rising))
    (looked_rising metrics now from until found (sorted_tail (slice_cmp nat_cmp) m.0 (paths_of found) rising))

-- a metric of which the question has buckets, by what is known of it
abbrev HasBuckets : (List ℕ × Known → Type 0) → ℕ → ℕ → ℕ → List ℕ → Type 0
HasBuckets P now from until path = (known : Known) × (P (path, known) × (window known.layout now from until ≢ Empty))

has_by : (w : Window) (metrics : Metrics) (m : List ℕ × Known) (looked : List Looked) (path : List ℕ) → Contains (looked_paths (looked_if metrics w m looked)) path → ((m.0 ≡ path) × (w ≢ Empty)) ⊎ Contains (looked_paths looked) path
has_by Empty metrics m looked path c = inr c
has_by (Range i begin end) metrics m looked path c = elim (first_or_behind m.0 (looked_paths looked) path c) [
  | inl same ↦ inl (same, λ e. absurd cc)
  | inr behind ↦ inr behind
]

looked_has : (P : List ℕ × Known → Type 0) (metrics : Metrics) (now from until : ℕ) (found : List (List ℕ × Known)) (path : List ℕ) → All P found
    → Contains (looked_paths (looked_in metrics now from until found)) path → HasBuckets P now from until path × Contains (paths_of found) path
looked_has P metrics now from until [] path all c = absurd (omega (arith, c.1))
looked_has P metrics now from until (m ∷ found) path all c =
    elim (has_by (window m.1.layout now from until) metrics m (looked_in metrics now from until found) path c) [
      | inl own ↦ ((m.1, (subst (λ (p : List ℕ). P (p, m.1)) own.0 (All-head P m found all), own.1)), (zero, omega arith, own.0))
      | inr behind ↦
          let more = looked_has P metrics now from until found path (All-tail P m found all) behind in
          (more.0, behind_first m.0 (paths_of found) path more.1)
    ]

in_by : (w : Window) (metrics : Metrics) (m : List ℕ × Known) (looked : List Looked) (path : List ℕ) → ((m.0 ≡ path) × (w ≢ Empty)) ⊎ Contains (looked_paths looked) path → Contains (looked_paths (looked_if metrics w m looked)) path
in_by Empty metrics m looked path (inl own) = absurd (own.1 refl)
in_by Empty metrics m looked path (inr behind) = behind
in_by (Range i begin end) metrics m looked path (inl own) = (zero, omega arith, own.0)
in_by (Range i begin end) metrics m looked path (inr behind) = behind_first m.0 (looked_paths looked) path behind

has_looked : (P : List ℕ × Known → Type 0) (metrics : Metrics) (now from until : ℕ) (found : List (List ℕ × Known)) (path : List ℕ) → All P found
    → ((known : Known) → P (path, known) → window known.layout now from until ≢ Empty) → Contains (paths_of found) path → Contains (looked_paths (looked_in metrics now from until found)) path
has_looked P metrics now from until [] path all some c = absurd (omega (arith, c.1))
has_looked P metrics now from until (m ∷ found) path all some c =
    in_by (window m.1.layout now from until) metrics m (looked_in metrics now from until found) path
    (elim (first_or_behind m.0 (paths_of found) path c) [
      | inl own ↦ inl (own, some m.1 (subst (λ (p : List ℕ). P (p, m.1)) own (All-head P m found all)))
      | inr behind ↦ inr (has_looked P metrics now from until found path (All-tail P m found all) some behind)
    ])

each_by : (w : Window) (P : Looked → Type 0) (metrics : Metrics) (m : List ℕ × Known) (looked : List Looked) → P (looked_as metrics w m) → All P looked → All P (looked_if metrics w m looked)
each_by Empty P metrics m looked first others = others
each_by (Range i begin end) P metrics m looked first others = All-cons P (looked_as metrics (Range i begin end) m) looked first others

looked_each : (Q : Looked → Type 0) (P : List ℕ × Known → Type 0) (metrics : Metrics) (now from until : ℕ) (found : List (List ℕ × Known)) → All P found
    → ((m : List ℕ × Known) → P m → Q (looked_as metrics (window m.1.layout now from until) m)) → All Q (looked_in metrics now from until found)
looked_each Q P metrics now from until [] all each = All-nil Q
looked_each Q P metrics now from until (m ∷ found) all each =
    each_by (window m.1.layout now from until) Q metrics m (looked_in metrics now from until found) (each m (All-head P m found all))
    (looked_each Q P metrics now from until found (All-tail P m found all) each)

-- ---- name by name

step_by : (w : Window) (metrics : Metrics) (m : List ℕ × Known) (old : List Looked) (rest all : List Looked) → (w ≢ Empty) → old ++ looked_if metrics w m rest ≡ all
    → (old ++ looked_as metrics w m ∷ []) ++ rest ≡ all
step_by Empty metrics m old rest all some is = absurd (some refl)
step_by (Range i begin end) metrics m old rest all some is = append_assoc old (looked_as metrics (Range i begin end) m ∷ []) rest ∙ is

pass_by : (w : Window) (metrics : Metrics) (m : List ℕ × Known) (old : List Looked) (rest all : List Looked) → w ≡ Empty → old ++ looked_if metrics w m rest ≡ all → old ++ rest ≡ all
pass_by Empty metrics m old rest all none is = is
pass_by (Range i begin end) metrics m old rest all none is = absurd cc

next_found : (found : List FoundMetric) (i : ℕ) (m : FoundMetric) → i < length found → m ≡ get_or found i m → map seen (drop i found) ≡ seen m ∷ map seen (drop (i + 1) found)
next_found found i m within is = ap (map seen) (drop_more found i m within) ∙ ap (λ (x : FoundMetric). seen x ∷ map seen (drop (i + 1) found)) (sym is)

-- a found metric of which the question has buckets is looked at, and any other is passed by
pub looked_on : (metrics : Metrics) (now from until : ℕ) (found : List FoundMetric) (i : ℕ) (m : FoundMetric) (old : List Looked) (all : List Looked) (w : Window) → i < length found → m ≡ get_or found i m
    → w ≡ window m.layout.now now from until → old ++ looked_in metrics now from until (map seen (drop i found)) ≡ all
    → (w ≢ Empty → (old ++ looked_as metrics w (seen m) ∷ []) ++ looked_in metrics now from until (map seen (drop (i + 1) found)) ≡ all)
    × (w ≡ Empty → old ++ looked_in metrics now from until (map seen (drop (i + 1) found)) ≡ all)
looked_on metrics now from until found i m old all w within is window_is so_far =
    let rest = looked_in metrics now from until (map seen (drop (i + 1) found)) in
    let onward : old ++ looked_if metrics w (seen m) rest ≡ all =
    ap (λ (v : Window). old ++ looked_if metrics v (seen m) rest) window_is
    ∙ sym (ap (λ (ms : List (List ℕ × Known)). old ++ looked_in metrics now from until ms) (next_found found i m within is)) ∙ so_far in (
      λ some. step_by w metrics (seen m) old rest all some onward,
      λ none. pass_by w metrics (seen m) old rest all none onward,
    )

pub sound_more : (old : List Looked) (looked : Looked) → All IsSoundLook old → IsSoundLook looked → All IsSoundLook (old ++ looked ∷ [])
sound_more old looked all sound = All-append IsSoundLook old (looked ∷ []) all (All-cons IsSoundLook looked [] sound (All-nil IsSoundLook))

-- ---- what is found

-- what holds of each found metric holds of what it says, and the other way round
of_found : (P : FoundMetric → Type 0) (Q : List ℕ × Known → Type 0) (found : List FoundMetric) → ((m : FoundMetric) → P m → Q (seen m)) → All P found → All Q (map seen found)
of_found P Q [] so all = All-nil Q
of_found P Q (m ∷ found) so all = All-cons Q (seen m) (map seen found) (so m (All-head P m found all)) (of_found P Q found so (All-tail P m found all))

to_found : (P : FoundMetric → Type 0) (Q : List ℕ × Known → Type 0) (found : List FoundMetric) → ((m : FoundMetric) → Q (seen m) → P m) → All Q (map seen found) → All P found
to_found P Q [] so all = All-nil P
to_found P Q (m ∷ found) so all = All-cons P m found (so m (All-head Q (seen m) (map seen found) all)) (to_found P Q found so (All-tail Q (seen m) (map seen found) all))

abbrev HasEntry : Table → List ℕ × Known → Type 0
HasEntry table m = entry_of table m.0 ≡ Some m.1

is_there : (o : Option Known) (known : Known) → o ≡ Some known → IsSome o
is_there o known there = rw there refl

finds_for : (told : Option Image) (shard : Inside) (s : State) (fits : List ℕ → Type 0) (found : List FoundMetric) → All (λ p. path_fault p ≡ None) (paths_of shard.table)
    → Lists shard.class shard.rules shard.cache.metrics shard.table → FindsEntries shard.table fits (map seen found) → Holds told shard s → FindsFor shard.class s fits found
finds_for told shard s fits found legal lists finds holds = record {
  all = record {
    in_order = finds.in_order;
    found = λ path. (
      λ c.
          let fit = (finds.found path).0 c in
          let one = class_at shard path legal lists fit.1 in
          let known = some_is (entry_of shard.table path) fit.1 in
          ((one, fit.0), known_by known.0.is_kept told shard s path known.0 refl known.1 one (entry_at shard path known.0 known.1 lists) holds),
      λ both. (finds.found path).1 (both.0.1, state_listed told shard s path both.0.0 lists holds both.1),
    );
  };
  each = to_found (IsFoundAs shard.class s) (HasEntry shard.table) found
      (λ m there.
      let one = class_at shard m.path.now legal lists (is_there (entry_of shard.table m.path.now) (seen m).1 there) in record {
        here = one.here;
        layout = layout_here told shard s m.path.now (seen m).1 there one lists holds;
        drains = drains_here told shard s m.path.now (seen m).1 there one holds;
      }) finds.entries;
}

-- what the table finds is what the shard has of it
pub found_in : (shard : Inside) (fits : List ℕ → Type 0) (found : List FoundMetric) → All (λ p. path_fault p ≡ None) (paths_of shard.table)
    → Lists shard.class shard.rules shard.cache.metrics shard.table → FindsEntries shard.table fits (map seen found) → IsFoundIn shard fits found
found_in shard fits found legal lists finds = record {
  states = λ told s holds. finds_for told shard s fits found legal lists finds holds;
  known = to_found (IsKnownTo shard) (HasEntry shard.table) found
      (λ m there. (
        (entry_at shard m.path.now (seen m).1 there lists).here,
        subst (λ (o : Option Known). IsSomeAnd o (λ known. known.layout ≡ m.layout.now)) (sym there) refl,
      )) finds.entries;
}

-- ---- the whole look

-- what a state has of a found metric, by what is known of it
abbrev IsSeenAs : ℕ → State → List ℕ × Known → Type 0
IsSeenAs class s m = (class_of m.0 ≡ class) × ((m.1.layout ≡ layout_of s m.0) × (m.1.drains ≡ s.drains m.0))

-- what is looked at of the metrics that were found for a state, whose pending points are these
pub looks_of : (class : ℕ) (s : State) (fits : List ℕ → Type 0) (now from until : ℕ) (metrics : Metrics) (found : List FoundMetric) → ((path : List ℕ) → class_of path ≡ class → points_in s path ≡ points_of metrics path)
    → FindsFor class s fits found → Looks class s fits now from until (looked_in metrics now from until (map seen found))
looks_of class s fits now from until metrics found pending finds =
    let has : All (IsSeenAs class s) (map seen found) = of_found (IsFoundAs class s) (IsSeenAs class s) found (λ m is. (is.here, (is.layout, is.drains))) finds.each in record {
      found = record {
        in_order = looked_rising metrics now from until (map seen found) finds.all.in_order;
        found = λ path. (
          λ c.
              let one = looked_has (IsSeenAs class s) metrics now from until (map seen found) path has c in
              let fit = (finds.all.found path).0 one.1 in (
                (fit.0.0, (fit.0.1, λ e. one.0.1.1 (ap (λ (l : LayoutValue). window l now from until) one.0.1.0.1.0 ∙ e))),
                fit.1,
              ),
          λ both.
              has_looked (IsSeenAs class s) metrics now from until (map seen found) path has
              (λ known is e. both.0.1.1 (ap (λ (l : LayoutValue). window l now from until) (sym is.1.0) ∙ e))
              ((finds.all.found path).1 ((both.0.0, both.0.1.0), both.1)),
        );
      };
      each = looked_each (TellsOf s now from until) (IsSeenAs class s) metrics now from until (map seen found) has
          (λ m is. record {
            layout = is.1.0;
            window = ap (λ (l : LayoutValue). window l now from until) is.1.0;
            pending = sym (pending m.0 is.0);
            drains = is.1.1;
          });
    }

-- the same of a shard, which has the pending points of each state that it stands for
pub looks_at : (shard : Inside) (now from until : ℕ) (found : List FoundMetric) (looked : List Looked) → looked ≡ looked_in shard.cache.metrics now from until (map seen found)
    → LooksAtFound shard found now from until looked
looks_at shard now from until found looked is told s glob holds finds =
    subst (λ (ls : List Looked). Looks shard.class s (IsFitted glob) now from until ls) (sym is)
    (looks_of shard.class s (IsFitted glob) now from until shard.cache.metrics found (λ path one. points_here told shard s path one holds) finds)

abbrev HasMoments : Looked → Type 0
HasMoments looked = All (λ p. is_moment p.0 ≡ true) looked.pending

-- whatever was found, a look has what a read needs of it
pub readable_looks : (class : ℕ) (metrics : Metrics) (now from until : ℕ) (found : List FoundMetric) (looked : List Looked) → AreOfClass class metrics → looked ≡ looked_in metrics now from until (map seen found)
    → All IsSoundLook looked → All IsReadableLook looked
readable_looks class metrics now from until found looked own is sound =
    let moments : All HasMoments looked = subst (λ (ls : List Looked). All HasMoments ls) (sym is)
    (looked_each HasMoments (λ m. Unit {0}) metrics now from until (map seen found) (λ k d within. tt) (λ m any. points_have_moments class metrics m.0 own)) in
    λ k d within.
    let fit = sound k d within in record { window = fit.0; rising = fit.1; moments = moments k d within }

-- what a look tells of a metric that was found
abbrev IsHere : Inside → Looked → Type 0
IsHere shard looked = (class_of looked.path ≡ shard.class) × KnowsAs shard looked.path looked.layout

-- what was found and looked at may be read
pub may_read : (shard : Inside) (fits : List ℕ → Type 0) (now from until : ℕ) (found : List FoundMetric) (looked : List Looked) → IsFoundIn shard fits found
    → looked ≡ looked_in shard.cache.metrics now from until (map seen found) → All IsReadableLook looked → All (MayRead shard) looked
may_read shard fits now from until found looked finds is readable =
    let here : All (IsHere shard) looked = subst (λ (ls : List Looked). All (IsHere shard) ls) (sym is)
    (looked_each (IsHere shard) (λ m. (class_of m.0 ≡ shard.class) × KnowsAs shard m.0 m.1.layout) shard.cache.metrics now from until (map seen found)
    (of_found (IsKnownTo shard) (λ m. (class_of m.0 ≡ shard.class) × KnowsAs shard m.0 m.1.layout) found (λ m its. its) finds.known) (λ m its. its)) in
    λ k d within.
    let its = here k d within in
    let fit = readable k d within in record { here = its.0; known = its.1; window = fit.window; rising = fit.rising; moments = fit.moments }

pub names_are : (shard : Inside) (names : List (List ℕ)) → All (λ p. path_fault p ≡ None) (paths_of shard.table) → IsStrictlySortedBy (slice_cmp nat_cmp) (paths_of shard.table)
    → Lists shard.class shard.rules shard.cache.metrics shard.table → names ≡ paths_of shard.table → NamesOf shard names
names_are shard names legal rising lists is told s holds =
    subst (λ (ns : List (List ℕ)). Finds s (IsOfClass shard.class) ns) (sym is) (record {
      in_order = rising;
      found = λ path. (
        λ c.
            let some = path_known shard.table path c in
            let one = class_at shard path legal lists some in
            let known = some_is (entry_of shard.table path) some in
            (one, known_by known.0.is_kept told shard s path known.0 refl known.1 one (entry_at shard path known.0 known.1 lists) holds),
        λ both. known_path_in shard.table path (state_listed told shard s path both.0 lists holds both.1),
      );
    })

-- names that are known are all of them where there are as many
pub names_all : (shard : Inside) (names : List (List ℕ)) → All (λ p. path_fault p ≡ None) (paths_of shard.table) → IsStrictlySortedBy (slice_cmp nat_cmp) (paths_of shard.table)
    → Lists shard.class shard.rules shard.cache.metrics shard.table → AreKnown shard.table names → IsStrictlySortedBy (slice_cmp nat_cmp) names → length shard.table ≡ length names → NamesOf shard names
names_all shard names legal rising lists known in_order many = names_are shard names legal rising lists (known_all shard.table names in_order rising known many)

pub names_from : (shard : Inside) (least : List ℕ) (names : List (List ℕ)) → All (λ p. path_fault p ≡ None) (paths_of shard.table) → IsStrictlySortedBy (slice_cmp nat_cmp) (paths_of shard.table)
    → Lists shard.class shard.rules shard.cache.metrics shard.table → IsPieceFrom shard.table least names → NamesFrom shard least names
names_from shard least names legal rising lists is = record {
  known = λ told s holds k d less.
      let all : Finds s (IsOfClass shard.class) (paths_of shard.table) = names_are shard (paths_of shard.table) legal rising lists refl told s holds in
      (all.found (get_or names k d)).0 (known_path_in shard.table (get_or names k d) (is.known k d less));
  rising = is.rising;
  behind = is.behind;
}
