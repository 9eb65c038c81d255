-- What the entries behind a question leave of a metric, and what is read of it then.
use Rattle.std.proofs.Common.{◌≡◌, ◌≢◌, ◌⊎◌, inl, inr, ◌∙◌, ℕ, ℤ, suc, ◌<◌, ◌==◌, Bool, true, false, List, [], ◌∷◌, ◌++◌, Option, Some, None, IfSome, IsSome, refl, sym, ap, subst, arith, unwrap_or, option_map, if◌then◌else◌}
use Rattle.std.specs.Prelude.{Contains, IsSomeAnd}
use Rattle.std.specs.Map.{lookup, remove_entry}
use Rattle.std.specs.Str.{bytes_eq}
use Rattle.std.proofs.lemmas.Bool.{false≢true, true≢false}
use Rattle.std.proofs.lemmas.Bool.Decides.{eqb_tells}
use Rattle.std.proofs.lemmas.List.Elements.{Contains-append_right}
use Rattle.std.proofs.lemmas.Slice.Eq.{bytes_eq-Decides}
use mathlib.Core.List.{IsPrefix}
use Rattle.indexmap.specs.IndexMap.{insert_entry}
use Rattle.outside_io.specs.Image.{Image}
use Rattle.metric_path.specs.Class.{class_of}
use Rattle.metric_index.specs.Index.{entry_of}
use Rattle.metric_table.specs.Table.{kept_version}
use Rattle.metric_table.specs.declared.known.Known.{Known}
use Rattle.point_cache.specs.Points.{with_point}
use Rattle.point_cache.specs.Pending.{Metrics, points_of, with_put}
use Rattle.ring_format.specs.Layout.{LayoutValue}
use Rattle.schema_rules.specs.LayoutBy.{layout_by}
use Rattle.series_fetch.specs.Shown.{shown}
use Rattle.carbon_history.specs.declared.entry.Entry.{Entry}
use Rattle.carbon_history.specs.declared.entry.Entry.TheVariants.{Put, Drain, Ask, Fault}
use Rattle.carbon_history.specs.declared.entry.PutEnd.TheVariants.{Stored, Replaced, Full}
use Rattle.carbon_history.specs.Entries.{about_class}
use Rattle.carbon_model.specs.State.{Kept, SamePart, State, form_of, layout_of, layout_or, points_in, rings_of}
use Rattle.carbon_model.specs.Found.{IsKnown}
use Rattle.carbon_model.specs.RingFiles.{IsOfClass}
use Rattle.carbon_model.specs.Replay.{after, replay}
use Rattle.carbon_model.proofs.HistoryLemmas.{replay-append}
use Rattle.carbon_model.proofs.PartLemmas.{replay_alike, same_part}
use Rattle.shard_core.specs.Halves.{DeskInside, FilesInside, both}
use Rattle.shard_core.specs.Shard.{Holds}
use Rattle.shard_core.specs.Looks.{MayRead}
use Rattle.shard_core.specs.Reads.{IsKept, Shows}
use Rattle.shard_core.specs.Table.{IsEntry, Lists, Table, drains_in, form_kept}
use Rattle.shard_core.specs.declared.looked.Looked.{Looked}
use Rattle.shard_core.proofs.FileLemmas.{same_text}
use Rattle.shared_history.specs.Parts.{PassValue, TailValue}
use Rattle.shared_history.specs.Views.{look_at}
use Rattle.shared_store.specs.Asking.{IsLookAt, MarksClass, ShowsAt, WasDrained}
use Rattle.shared_store.specs.Locks.{HoldsDesk}

-- ---- two states that agree in a class

pub points_alike : (class : ℕ) (s t : State) (path : List ℕ) → SamePart class s t → class_of path ≡ class → points_in s path ≡ points_in t path
points_alike class s t path same here = ap (λ (ms : Metrics). points_of ms path) (ap s.pending here ∙ same.pending ∙ ap t.pending (sym here))

pub layout_alike : (class : ℕ) (s t : State) (path : List ℕ) → SamePart class s t → class_of path ≡ class → layout_of s path ≡ layout_of t path
layout_alike class s t path same here = λ i. layout_or (same.rules path here i) (same.kept path here i)

pub known_alike : (class : ℕ) (s t : State) (path : List ℕ) → SamePart class s t → class_of path ≡ class → IsKnown s path → IsKnown t path
known_alike class s t path same here (inl some) = inl (λ none. some (points_alike class s t path same here ∙ none))
known_alike class s t path same here (inr kept) = inr (subst (λ (o : Option Kept). IsSome o) (same.kept path here) kept)

pub part_of : (start : State) (list : List Entry) (class : ℕ) → SamePart class (replay start list) (replay start (about_class class list))
part_of start list class = replay_alike class start start list (same_part class start)

pub look_alike : (class : ℕ) (s t : State) (looked : Looked) → SamePart class s t → class_of looked.path ≡ class → IsLookAt s looked → IsLookAt t looked
look_alike class s t looked same here look = record {
  legal = look.legal;
  known = known_alike class s t looked.path same here look.known;
  layout = look.layout ∙ layout_alike class s t looked.path same here;
  pending = look.pending ∙ points_alike class s t looked.path same here;
  drains = look.drains ∙ same.drains looked.path here;
  readable = look.readable;
}

-- ---- points stay until they are drained

either : {X : Type 0} (b : Bool) (a x y : X) → x ≡ y → (if b then a else x) ≡ (if b then a else y)
either true a x y e = refl
either false a x y e = e

found_put : (ms : Metrics) (path p : List ℕ) (points : List (ℕ × ℤ)) → bytes_eq p path ≡ false → lookup (bytes_eq p) (insert_entry bytes_eq ms path points) ≡ lookup (bytes_eq p) ms
found_put [] path p points other = rw other refl
found_put (m ∷ ms) path p points other = elim (same_text path m.0) [
  | inl same ↦ let apart : bytes_eq p m.0 ≡ false = subst (λ (q : List ℕ). bytes_eq p q ≡ false) same.1 other in rw (same.0, apart) refl
  | inr differs ↦ rw differs.0 (either (bytes_eq p m.0) (Some m.1) (lookup (bytes_eq p) (insert_entry bytes_eq ms path points)) (lookup (bytes_eq p) ms) (found_put ms path p points other))
]

found_own : (ms : Metrics) (path : List ℕ) (points : List (ℕ × ℤ)) → lookup (bytes_eq path) (insert_entry bytes_eq ms path points) ≡ Some points
found_own [] path points = let own : bytes_eq path path ≡ true = (bytes_eq-Decides path path).1 refl in rw own refl
found_own (m ∷ ms) path points = elim (same_text path m.0) [
  | inl same ↦ rw (same.0, same.0) refl
  | inr differs ↦ rw (differs.0, differs.0) (found_own ms path points)
]

found_taken : (ms : Metrics) (path p : List ℕ) → bytes_eq p path ≡ false → lookup (bytes_eq p) (remove_entry (bytes_eq path) ms) ≡ lookup (bytes_eq p) ms
found_taken [] path p other = refl
found_taken (m ∷ ms) path p other = elim (same_text path m.0) [
  | inl same ↦ let apart : bytes_eq p m.0 ≡ false = subst (λ (q : List ℕ). bytes_eq p q ≡ false) same.1 other in rw (same.0, apart) refl
  | inr differs ↦ rw differs.0 (either (bytes_eq p m.0) (Some m.1) (lookup (bytes_eq p) (remove_entry (bytes_eq path) ms)) (lookup (bytes_eq p) ms) (found_taken ms path p other))
]

some_behind : {X : Type 0} (xs ys : List X) (x : X) → xs ++ x ∷ ys ≢ []
some_behind [] ys x e = absurd cc
some_behind (z ∷ xs) ys x e = absurd cc

put_stays : (ms : Metrics) (path p : List ℕ) (time : ℕ) (value : ℤ) → points_of ms p ≢ [] → points_of (with_put ms path time value) p ≢ []
put_stays ms path p time value some = elim (same_text p path) [
  | inl same ↦ λ none. some_behind _ _ _ (sym (ap (λ (o : Option (List (ℕ × ℤ))). unwrap_or o []) (found_own ms path (with_point (points_of ms path) time value)))
      ∙ subst (λ (q : List ℕ). points_of (with_put ms path time value) q ≡ []) same.1 none)
  | inr other ↦ λ none. some (sym (ap (λ (o : Option (List (ℕ × ℤ))). unwrap_or o []) (found_put ms path p (with_point (points_of ms path) time value) other.0)) ∙ none)
]

same_number : (a b : ℕ) (t : Bool) → (a == b) ≡ t → t ≡ true → a ≡ b
same_number a b t is so = elim (eqb_tells a b) [
  | inl same ↦ same.1
  | inr other ↦ absurd (true≢false (sym so ∙ (sym is ∙ other.0)))
]

put_leaves : (s : State) (path p : List ℕ) (time : ℕ) (value : ℤ) (b : Bool) → (class_of p == class_of path) ≡ b → points_in s p ≢ []
    → points_of (if b then with_put (s.pending (class_of path)) path time value else s.pending (class_of p)) p ≢ []
put_leaves s path p time value true is some =
    put_stays (s.pending (class_of path)) path p time value (subst (λ (k : ℕ). points_of (s.pending k) p ≢ []) (same_number (class_of p) (class_of path) true is refl) some)
put_leaves s path p time value false is some = some

taken_leaves : (s : State) (path p : List ℕ) (b : Bool) → bytes_eq p path ≡ false → points_in s p ≢ []
    → points_of (if b then remove_entry (bytes_eq path) (s.pending (class_of p)) else s.pending (class_of p)) p ≢ []
taken_leaves s path p true other some = λ none.
    some (sym (ap (λ (o : Option (List (ℕ × ℤ))). unwrap_or o []) (found_taken (s.pending (class_of p)) path p other)) ∙ none)
taken_leaves s path p false other some = some

-- ---- a metric that is known stays so, and keeps its layout

known_put : (s : State) (path p : List ℕ) (time : ℕ) (value : ℤ) → IsKnown s p → IsKnown (after s (Put 0 path time value Stored)) p
known_put s path p time value (inl some) = inl (put_leaves s path p time value (class_of p == class_of path) refl some)
known_put s path p time value (inr kept) = inr kept

known_drained : (s : State) (pass : ℕ) (path : List ℕ) (now : ℕ) (p : List ℕ) → IsKnown s p → IsKnown (after s (Drain pass path now)) p
known_drained s pass path now p known = elim (same_text p path) [
  | inl same ↦ inr (rw same.0 refl)
  | inr other ↦ left other.0 known
]
  where
    left : bytes_eq p path ≡ false → IsKnown s p → IsKnown (after s (Drain pass path now)) p
    left other (inl some) = inl (taken_leaves s path p (class_of p == class_of path) other some)
    left other (inr kept) = inr (rw other kept)

known_after : (s : State) (e : Entry) (p : List ℕ) → IsKnown s p → IsKnown (after s e) p
known_after s (Put pass path time value Stored) p known = known_put s path p time value known
known_after s (Put pass path time value Replaced) p known = known_put s path p time value known
known_after s (Put pass path time value Full) p known = known
known_after s (Drain pass path now) p known = known_drained s pass path now p known
known_after s (Ask pass number try now) p known = known
known_after s (Fault pass class) p known = known

layout_after : (s : State) (e : Entry) (p : List ℕ) → layout_of (after s e) p ≡ layout_of s p
layout_after s (Put pass path time value Stored) p = refl
layout_after s (Put pass path time value Replaced) p = refl
layout_after s (Put pass path time value Full) p = refl
layout_after s (Drain pass path now) p = elim (same_text p path) [
  | inl same ↦ rw same.0 (ap (λ (q : List ℕ). layout_or (s.rules q) (s.kept q)) (sym same.1))
  | inr other ↦ rw other.0 refl
]
layout_after s (Ask pass number try now) p = refl
layout_after s (Fault pass class) p = refl

pub known_later : (s : State) (rest : List Entry) (p : List ℕ) → IsKnown s p → IsKnown (replay s rest) p
known_later s [] p known = known
known_later s (e ∷ rest) p known = known_later (after s e) rest p (known_after s e p known)

pub layout_later : (s : State) (rest : List Entry) (p : List ℕ) → layout_of (replay s rest) p ≡ layout_of s p
layout_later s [] p = refl
layout_later s (e ∷ rest) p = layout_later (after s e) rest p ∙ layout_after s e p

-- ---- what is kept of a metric stays until it is drained

record SameAt (path : List ℕ) (s t : State) : Type 0 where
  kept : t.kept path ≡ s.kept path
  drains : t.drains path ≡ s.drains path

record DrainsOnce (path : List ℕ) (s t : State) (e : Entry) : Type 0 where
  by : ℕ
  at : ℕ
  is : e ≡ Drain by path at
  more : t.drains path ≡ suc (s.drains path)

record DrainsIn (path : List ℕ) (s : State) (rest : List Entry) : Type 0 where
  by : ℕ
  at : ℕ
  drained : Contains rest (Drain by path at)
  more : s.drains path < (replay s rest).drains path

one_entry : (s : State) (e : Entry) (path : List ℕ) → SameAt path s (after s e) ⊎ DrainsOnce path s (after s e) e
one_entry s (Put pass p time value Stored) path = inl (record { kept = refl; drains = refl })
one_entry s (Put pass p time value Replaced) path = inl (record { kept = refl; drains = refl })
one_entry s (Put pass p time value Full) path = inl (record { kept = refl; drains = refl })
one_entry s (Drain pass p now) path = elim (same_text path p) [
  | inl same ↦ inr (record { by = pass; at = now; is = ap (λ (q : List ℕ). Drain pass q now) (sym same.1); more = rw same.0 refl })
  | inr other ↦ inl (record { kept = rw other.0 refl; drains = rw other.0 refl })
]
one_entry s (Ask pass number try now) path = inl (record { kept = refl; drains = refl })
one_entry s (Fault pass class) path = inl (record { kept = refl; drains = refl })

from_same : (a b c : ℕ) → b ≡ a → b < c → a < c
from_same a b c same more = omega (arith, same, more)

from_suc : (a b c : ℕ) → b ≡ suc a → c ≡ b → a < c
from_suc a b c same more = omega (arith, same, more)

from_more : (a b c : ℕ) → b ≡ suc a → b < c → a < c
from_more a b c same more = omega (arith, same, more)

first_one : (e x : Entry) (rest : List Entry) → e ≡ x → Contains (e ∷ rest) x
first_one e x rest is = (0, omega arith, is)

one_more : (s : State) (e : Entry) (rest : List Entry) (path : List ℕ) → SameAt path s (after s e) ⊎ DrainsOnce path s (after s e) e
    → SameAt path (after s e) (replay (after s e) rest) ⊎ DrainsIn path (after s e) rest
    → SameAt path s (replay s (e ∷ rest)) ⊎ DrainsIn path s (e ∷ rest)
one_more s e rest path (inl here) (inl later) = inl (record { kept = later.kept ∙ here.kept; drains = later.drains ∙ here.drains })
one_more s e rest path (inl here) (inr later) = inr (record {
  by = later.by;
  at = later.at;
  drained = Contains-append_right (e ∷ []) rest (Drain later.by path later.at) later.drained;
  more = from_same (s.drains path) ((after s e).drains path) ((replay (after s e) rest).drains path) here.drains later.more;
})
one_more s e rest path (inr here) (inl later) = inr (record {
  by = here.by;
  at = here.at;
  drained = first_one e (Drain here.by path here.at) rest here.is;
  more = from_suc (s.drains path) ((after s e).drains path) ((replay (after s e) rest).drains path) here.more later.drains;
})
one_more s e rest path (inr here) (inr later) = inr (record {
  by = here.by;
  at = here.at;
  drained = first_one e (Drain here.by path here.at) rest here.is;
  more = from_more (s.drains path) ((after s e).drains path) ((replay (after s e) rest).drains path) here.more later.more;
})

since : (s : State) (rest : List Entry) (path : List ℕ) → SameAt path s (replay s rest) ⊎ DrainsIn path s rest
since s [] path = inl (record { kept = refl; drains = refl })
since s (e ∷ rest) path = one_more s e rest path (one_entry s e path) (since (after s e) rest path)

less_apart : (a b : ℕ) → a < b → b ≡ a → ⊥
less_apart a b less same = omega (arith, less, same)

-- as often drained as before: what is kept is the same
pub kept_still : (s : State) (rest : List Entry) (path : List ℕ) → (replay s rest).drains path ≡ s.drains path → (replay s rest).kept path ≡ s.kept path
kept_still s rest path same = elim (since s rest path) [
  | inl still ↦ still.kept
  | inr more ↦ absurd (less_apart (s.drains path) ((replay s rest).drains path) more.more same)
]

-- not so: it was drained
pub drained_in : (s : State) (rest : List Entry) (path : List ℕ) → ((replay s rest).drains path ≡ s.drains path → ⊥)
    → (by : ℕ) × (at : ℕ) × Contains rest (Drain by path at)
drained_in s rest path apart = elim (since s rest path) [
  | inl still ↦ absurd (apart still.drains)
  | inr more ↦ (more.by, more.at, more.drained)
]

-- ---- the shard knows the metric

knows_kept : (o : Option Known) (form : ℕ × LayoutValue) → form_kept o ≡ Some form → IsSomeAnd o (λ known. known.layout ≡ form.1)
knows_kept None form is = absurd (cc is)
knows_kept (Some known) form is = by (kept_version known) is
  where
    same_some : (a b : ℕ × LayoutValue) → Some a ≡ Some b → a ≡ b
    same_some a b e = cc e

    by : (version : Option ℕ) → option_map (λ (v : ℕ). (v, known.layout)) version ≡ Some form → known.layout ≡ form.1
    by None e = absurd (cc e)
    by (Some version) e = ap (λ (f : ℕ × LayoutValue). f.1) (same_some (version, known.layout) form e)

not_kept : (known : Known) (b : Bool) → known.is_kept ≡ b → form_kept (Some known) ≡ None → known.is_kept ≡ false
not_kept known true is none = absurd (none_some (rw is at none))
  where
    none_some : {A : Type 0} {x : A} → Some x ≡ None → ⊥
    none_some e = cc e
not_kept known false is none = is

knows_pending : (desk : DeskInside) (path : List ℕ) (o : Option Known) → IsSome o → form_kept o ≡ None
    → IfSome o (IsEntry desk.class desk.rules desk.cache.metrics path) → IsSomeAnd o (λ known. known.layout ≡ layout_by desk.rules path)
knows_pending desk path None some none entry = absurd (false≢true some)
knows_pending desk path (Some known) some none entry = entry.given (not_kept known known.is_kept refl none)

no_kept : (o : Option Kept) → o ≡ None → IsSome o → ⊥
no_kept o none some = false≢true (subst (λ (k : Option Kept). IsSome k) none some)

has_points : (s : State) (path : List ℕ) → s.kept path ≡ None → IsKnown s path → points_in s path ≢ []
has_points s path none (inl some) = some
has_points s path none (inr kept) = absurd (no_kept (s.kept path) none kept)

-- a table knows a metric, and has it in this layout
abbrev HasAs : Table → List ℕ → LayoutValue → Type 0
HasAs table path layout = IsSomeAnd (entry_of table path) (λ known. known.layout ≡ layout)

pub knows_as : (desk : DeskInside) (s : State) (path : List ℕ) → Lists desk.class desk.rules desk.cache.metrics desk.table → HoldsDesk desk s
    → IsOfClass desk.class path → IsKnown s path → HasAs desk.table path (layout_of s path)
knows_as desk s path lists holds one known = by (s.kept path) refl
  where
    metrics : s.pending (class_of path) ≡ desk.cache.metrics
    metrics = ap s.pending one.here ∙ sym holds.pending

    by : (o : Option Kept) → s.kept path ≡ o → HasAs desk.table path (layout_of s path)
    by (Some kept) is =
        subst (λ (layout : LayoutValue). HasAs desk.table path layout) (sym (ap (λ (o : Option Kept). layout_or (s.rules path) o) is))
        (knows_kept (entry_of desk.table path) (form_of kept) (holds.layouts path one ∙ ap (λ (o : Option Kept). option_map form_of o) is))
    by None is =
        let some = lists.pending path (subst (λ (ms : Metrics). points_of ms path ≢ []) metrics (has_points s path is known)) in
        let none = holds.layouts path one ∙ ap (λ (o : Option Kept). option_map form_of o) is in
        subst (λ (layout : LayoutValue). HasAs desk.table path layout) (sym (ap (λ (o : Option Kept). layout_or (s.rules path) o) is ∙ holds.rules path one.here))
        (knows_pending desk path (entry_of desk.table path) some none (lists.entries path))

-- ---- nothing is kept of a metric

bare_entry : (o : Option Known) → IsSomeAnd o (λ known. kept_version known ≡ None) → form_kept o ≡ None
bare_entry None is = absurd is
bare_entry (Some known) is = ap (λ (version : Option ℕ). option_map (λ (v : ℕ). (v, known.layout)) version) is

no_layout : (o : Option Kept) → option_map form_of o ≡ None → o ≡ None
no_layout None none = refl
no_layout (Some kept) none = absurd (cc none)

-- ---- what a desk says of a metric that was looked at

module _ (desk : DeskInside) (s : State) (looked : Looked) (holds : HoldsDesk desk s) (lists : Lists desk.class desk.rules desk.cache.metrics desk.table) (look : IsLookAt s looked)
    (here : class_of looked.path ≡ desk.class) where
  of_class : IsOfClass desk.class looked.path
  of_class = record { legal = look.legal; here = here }

  pub known_here : HasAs desk.table looked.path looked.layout
  known_here = subst (λ (layout : LayoutValue). HasAs desk.table looked.path layout) (sym look.layout) (knows_as desk s looked.path lists holds of_class look.known)

  pub bare_here : IsKept desk.table looked.path None → s.kept looked.path ≡ None
  bare_here bare = no_layout (s.kept looked.path) (sym (holds.layouts looked.path of_class) ∙ bare_entry (entry_of desk.table looked.path) bare)

-- a look at a metric of a class, in the state after the entries about it alone
pub look_here : (start : State) (list : List Entry) (class : ℕ) (looked : Looked) → class_of looked.path ≡ class → IsLookAt (replay start list) looked
    → IsLookAt (replay start (about_class class list)) looked
look_here start list class looked here look = look_alike class (replay start list) (replay start (about_class class list)) looked (part_of start list class) here look

pub kept_here : (start : State) (list : List Entry) (class : ℕ) (path : List ℕ) → class_of path ≡ class → (replay start (about_class class list)).kept path ≡ None
    → (replay start list).kept path ≡ None
kept_here start list class path here bare = (part_of start list class).kept path here ∙ bare

-- ---- a read behind the entry of a try

module _ (start : State) (desk : DeskInside) (tail : TailValue) (class : tail.class ≡ desk.class) (holds : HoldsDesk desk (replay start tail.list))
    (lists : Lists desk.class desk.rules desk.cache.metrics desk.table) (old : PassValue) (looked : Looked) (begins : IsPrefix (about_class tail.class old.seen) tail.list)
    (found : IsLookAt (replay start old.seen) looked) (here : class_of looked.path ≡ tail.class) where
  abbrev path : List ℕ
  path = looked.path

  abbrev first : State
  first = replay start (about_class tail.class old.seen)

  alike : SamePart tail.class (replay start old.seen) first
  alike = part_of start old.seen tail.class

  look : IsLookAt first looked
  look = look_alike tail.class (replay start old.seen) first looked alike here found

  abbrev later : State
  later = replay start tail.list

  is_later : later ≡ replay first begins.0
  is_later = ap (replay start) (sym begins.1) ∙ replay-append start (about_class tail.class old.seen) begins.0

  one : IsOfClass desk.class path
  one = record { legal = look.legal; here = here ∙ class }

  pub known_at : HasAs desk.table path looked.layout
  known_at =
      subst (λ (layout : LayoutValue). HasAs desk.table path layout)
      (ap (λ (s : State). layout_of s path) is_later ∙ (layout_later first begins.0 path ∙ sym look.layout))
      (knows_as desk later path lists holds one (subst (λ (s : State). IsKnown s path) (sym is_later) (known_later first begins.0 path look.known)))

  pub may_read : (files : FilesInside) → MayRead (both desk files) looked
  may_read files = record {
    here = one.here;
    known = known_at;
    window = look.readable.window;
    rising = look.readable.rising;
    moments = look.readable.moments;
  }

  drains_are : drains_in desk.table path ≡ later.drains path
  drains_are = holds.drains path one

  -- not drained since the look: what is kept is what was kept then
  kept_at : drains_in desk.table path ≡ looked.drains → later.kept path ≡ (replay start old.seen).kept path
  kept_at same =
      let as_before : (replay first begins.0).drains path ≡ first.drains path =
      ap (λ (s : State). s.drains path) (sym is_later) ∙ (sym drains_are ∙ (same ∙ look.drains)) in
      ap (λ (s : State). s.kept path) is_later ∙ (kept_still first begins.0 path as_before ∙ sym (alike.kept path here))

  pub bare_at : drains_in desk.table path ≡ looked.drains → IsKept desk.table path None → (replay start old.seen).kept path ≡ None
  bare_at same bare = sym (kept_at same) ∙ no_layout (later.kept path) (sym (holds.layouts path one) ∙ bare_entry (entry_of desk.table path) bare)

  pub shows_at : (told : ℕ → Option Image) (files : FilesInside) → Holds (told desk.class) (both desk files) later → (values : List (Option ℤ)) → drains_in desk.table path ≡ looked.drains
      → Shows (both desk files) looked values → ShowsAt told (replay start old.seen) looked values
  shows_at told files stands values same shows =
      let kept : later.kept path ≡ (replay start old.seen).kept path = kept_at same in record {
        pending = shows.pending;
        bare = λ none. shows.bare (holds.layouts path one ∙ ap (λ (o : Option Kept). option_map form_of o) (kept ∙ none));
        kept = subst (λ (k : ℕ). IfSome (told k) (λ opening. values ≡ shown looked.layout (rings_of ((replay start old.seen).kept path)) looked.pending looked.window)) (sym one.here)
            (subst (λ (o : Option Kept). IfSome (told desk.class) (λ opening. values ≡ shown looked.layout (rings_of o) looked.pending looked.window)) kept
            (shows.kept (told desk.class) later stands));
      }

  drained : (drains_in desk.table path ≡ looked.drains → ⊥) → (by : ℕ) × (at : ℕ) × Contains begins.0 (Drain by path at)
  drained apart = drained_in first begins.0 path (λ same. apart (drains_are ∙ (ap (λ (s : State). s.drains path) is_later ∙ (same ∙ sym look.drains))))

  pub was_drained : (new : PassValue) → MarksClass tail.class tail.list old new → (drains_in desk.table path ≡ looked.drains → ⊥) → WasDrained path new
  was_drained new marks apart =
      let it = drained apart in
      record {
        rest = begins.0;
        list = subst (λ (k : ℕ). (look_at k new.looks).list ≡ about_class k new.seen ++ begins.0) (sym here)
            (marks.has ∙ (sym begins.1 ∙ ap (λ (l : List Entry). about_class tail.class l ++ begins.0) (sym marks.only.seen)));
        by = it.0;
        at = it.1;
        drained = it.2;
      }
