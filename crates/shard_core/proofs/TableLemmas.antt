-- The table lists the metrics after a put, and after a drain begins.
use Rattle.std.proofs.Common.{◌≡◌, ◌≢◌, inl, inr, ◌∙◌, ℕ, ℤ, Bool, true, false, List, [], ◌∷◌, ◌++◌, Option, Some, None, IfSome, IsSome, refl, sym, ap, subst, unwrap_or, if◌then◌else◌}
use Rattle.std.specs.Option.{option_map_or}
use Rattle.std.specs.Map.{lookup, remove_entry}
use Rattle.std.specs.Str.{bytes_eq}
use Rattle.std.proofs.lemmas.Bool.{true≢false}
use Rattle.std.proofs.lemmas.Slice.Eq.{bytes_eq-Decides}
use Rattle.indexmap.specs.IndexMap.{insert_entry}
use Rattle.metric_path.specs.Class.{class_of}
use Rattle.ring_format.specs.Layout.{LayoutValue}
use Rattle.metric_index.specs.Index.{Sets, entry_of}
use Rattle.metric_table.specs.declared.known.Known.{Known}
use Rattle.metric_table.specs.Table.{drained, undrained}
use Rattle.point_cache.specs.Points.{with_point}
use Rattle.point_cache.specs.Pending.{Metrics, points_of, with_put}
use Rattle.schema_rules.specs.LayoutBy.{layout_by}
use Rattle.schema_rules.specs.RulesOf.{RulesValue}
use Rattle.shard_core.specs.Opened.{IsOpened}
use Rattle.shard_core.specs.Table.{IsEntry, Lists, SaysTheSame, Table, form_kept}
use Rattle.shard_core.proofs.FileLemmas.{same_text}

either : {X : Type 0} (b : Bool) (a x y : X) → x ≡ y → (if b then a else x) ≡ (if b then a else y)
either true a x y e = refl
either false a x y e = e

-- ---- the points of other metrics, and of the one

found_taken : (ms : Metrics) (path p : List ℕ) → bytes_eq p path ≡ false → lookup (bytes_eq p) (remove_entry (bytes_eq path) ms) ≡ lookup (bytes_eq p) ms
found_taken [] path p other = refl
found_taken (m ∷ ms) path p other = elim (same_text path m.0) [
  | inl same ↦ let apart : bytes_eq p m.0 ≡ false = subst (λ (q : List ℕ). bytes_eq p q ≡ false) same.1 other in rw (same.0, apart) refl
  | inr differs ↦ rw differs.0 (either (bytes_eq p m.0) (Some m.1) (lookup (bytes_eq p) (remove_entry (bytes_eq path) ms)) (lookup (bytes_eq p) ms) (found_taken ms path p other))
]

pub points_taken : (ms : Metrics) (path p : List ℕ) → bytes_eq p path ≡ false → points_of (remove_entry (bytes_eq path) ms) p ≡ points_of ms p
points_taken ms path p other = ap (λ (o : Option (List (ℕ × ℤ))). unwrap_or o []) (found_taken ms path p other)

found_put : (ms : Metrics) (path p : List ℕ) (points : List (ℕ × ℤ)) → bytes_eq p path ≡ false → lookup (bytes_eq p) (insert_entry bytes_eq ms path points) ≡ lookup (bytes_eq p) ms
found_put [] path p points other = rw other refl
found_put (m ∷ ms) path p points other = elim (same_text path m.0) [
  | inl same ↦ let apart : bytes_eq p m.0 ≡ false = subst (λ (q : List ℕ). bytes_eq p q ≡ false) same.1 other in rw (same.0, apart) refl
  | inr differs ↦ rw differs.0 (either (bytes_eq p m.0) (Some m.1) (lookup (bytes_eq p) (insert_entry bytes_eq ms path points)) (lookup (bytes_eq p) ms) (found_put ms path p points other))
]

found_own : (ms : Metrics) (path : List ℕ) (points : List (ℕ × ℤ)) → lookup (bytes_eq path) (insert_entry bytes_eq ms path points) ≡ Some points
found_own [] path points = let own : bytes_eq path path ≡ true = (bytes_eq-Decides path path).1 refl in rw own refl
found_own (m ∷ ms) path points = elim (same_text path m.0) [
  | inl same ↦ rw (same.0, same.0) refl
  | inr differs ↦ rw (differs.0, differs.0) (found_own ms path points)
]

points_put : (ms : Metrics) (path p : List ℕ) (time : ℕ) (value : ℤ) → bytes_eq p path ≡ false → points_of (with_put ms path time value) p ≡ points_of ms p
points_put ms path p time value other = ap (λ (o : Option (List (ℕ × ℤ))). unwrap_or o []) (found_put ms path p (with_point (points_of ms path) time value) other)

points_own : (ms : Metrics) (path : List ℕ) (time : ℕ) (value : ℤ) → points_of (with_put ms path time value) path ≡ with_point (points_of ms path) time value
points_own ms path time value = ap (λ (o : Option (List (ℕ × ℤ))). unwrap_or o []) (found_own ms path (with_point (points_of ms path) time value))

some_behind : {X : Type 0} (xs ys : List X) (x : X) → xs ++ x ∷ ys ≢ []
some_behind [] ys x e = absurd cc
some_behind (z ∷ xs) ys x e = absurd cc

-- ---- a put

-- the metric of a path is listed, with this entry
pub record ListsPath (class : ℕ) (rules : RulesValue) (table : Table) (path : List ℕ) : Type 0 where
  pub known : Known
  pub there : entry_of table path ≡ Some known
  pub here : class_of path ≡ class
  pub given : known.is_kept ≡ false → known.layout ≡ layout_by rules path

pub lists_put : (class : ℕ) (rules : RulesValue) (metrics : Metrics) (table table' : Table) (path : List ℕ) (time : ℕ) (value : ℤ) → Lists class rules metrics table → ListsPath class rules table' path
    → ((other : List ℕ) → other ≢ path → entry_of table' other ≡ entry_of table other) → Lists class rules (with_put metrics path time value) table'
lists_put class rules metrics table table' path time value lists own others = record {
  pending = λ p some. elim (same_text p path) [
    | inl same ↦ rw (same.1, own.there) refl
    | inr other ↦ subst (λ (o : Option Known). IsSome o) (sym (others p other.1))
        (lists.pending p (subst (λ (ps : List (ℕ × ℤ)). ps ≢ []) (points_put metrics path p time value other.0) some))
  ];
  entries = λ p. elim (same_text p path) [
    | inl same ↦ subst (λ (q : List ℕ). IfSome (entry_of table' q) (IsEntry class rules (with_put metrics path time value) q)) (sym same.1)
        (rw own.there (record {
          here = own.here;
          pending = λ _. subst (λ (ps : List (ℕ × ℤ)). ps ≢ []) (sym (points_own metrics path time value)) (some_behind _ _ (time, value));
          given = own.given;
        }))
    | inr other ↦ subst (λ (o : Option Known). IfSome o (IsEntry class rules (with_put metrics path time value) p)) (sym (others p other.1))
        (moved (entry_of table p) p other.0 (lists.entries p))
  ];
}
  where
    moved : (o : Option Known) (p : List ℕ) → bytes_eq p path ≡ false → IfSome o (IsEntry class rules metrics p) → IfSome o (IsEntry class rules (with_put metrics path time value) p)
    moved None p other entry = tt
    moved (Some known) p other entry = record {
      here = entry.here;
      pending = λ none. subst (λ (ps : List (ℕ × ℤ)). ps ≢ []) (sym (points_put metrics path p time value other)) (entry.pending none);
      given = entry.given;
    }

-- a metric that is known already
pub known_path : (class : ℕ) (rules : RulesValue) (metrics : Metrics) (table : Table) (path : List ℕ) (known : Known) → entry_of table path ≡ Some known → Lists class rules metrics table → ListsPath class rules table path
known_path class rules metrics table path known there lists =
    let entry : IsEntry class rules metrics path known = subst (λ (o : Option Known). IfSome o (IsEntry class rules metrics path)) there (lists.entries path) in
    record { known = known; there = there; here = entry.here; given = entry.given }

-- the same of entries that are the same everywhere
pub lists_alike : (class : ℕ) (rules : RulesValue) (metrics : Metrics) (table table' : Table) → ((p : List ℕ) → entry_of table' p ≡ entry_of table p) → Lists class rules metrics table → Lists class rules metrics table'
lists_alike class rules metrics table table' same lists = record {
  pending = λ p some. subst (λ (o : Option Known). IsSome o) (sym (same p)) (lists.pending p some);
  entries = λ p. subst (λ (o : Option Known). IfSome o (IsEntry class rules metrics p)) (sym (same p)) (lists.entries p);
}

pub says_alike : (table table' : Table) → ((p : List ℕ) → entry_of table' p ≡ entry_of table p) → SaysTheSame table table'
says_alike table table' same = record {
  kept = λ p. ap form_kept (same p);
  drains = λ p. ap (λ (o : Option Known). option_map_or (λ known. known.drains) o 0) (same p);
}

-- a metric that was not known, and of which nothing is kept, says nothing
pub says_new : (table table' : Table) (path : List ℕ) (layout : LayoutValue) → entry_of table path ≡ None → Sets table table' path (Some (undrained layout false false)) → SaysTheSame table table'
says_new table table' path layout none sets = record {
  kept = λ p. elim (same_text p path) [
    | inl same ↦ rw same.1 (ap form_kept sets.here ∙ sym (ap form_kept none))
    | inr other ↦ ap form_kept (sets.others p other.1)
  ];
  drains = λ p. elim (same_text p path) [
    | inl same ↦ rw same.1 (ap (λ (o : Option Known). option_map_or (λ known. known.drains) o 0) sets.here ∙ sym (ap (λ (o : Option Known). option_map_or (λ known. known.drains) o 0) none))
    | inr other ↦ ap (λ (o : Option Known). option_map_or (λ known. known.drains) o 0) (sets.others p other.1)
  ];
}

-- put in and taken out again
pub taken_out : (table table' table'' : Table) (path : List ℕ) (entry : Option Known) → entry_of table path ≡ None → Sets table table' path entry → Sets table' table'' path None → (p : List ℕ) → entry_of table'' p ≡ entry_of table p
taken_out table table' table'' path entry none sets out p = elim (same_text p path) [
  | inl same ↦ rw same.1 (out.here ∙ sym none)
  | inr other ↦ out.others p other.1 ∙ sets.others p other.1
]

-- ---- a drain

pub lists_drained : (class : ℕ) (rules : RulesValue) (metrics : Metrics) (table table' : Table) (path : List ℕ) (known : Known) → entry_of table path ≡ Some known → Sets table table' path (Some (drained known)) → Lists class rules metrics table
    → Lists class rules (remove_entry (bytes_eq path) metrics) table'
lists_drained class rules metrics table table' path known there sets lists = record {
  pending = λ p some. elim (same_text p path) [
    | inl same ↦ rw (same.1, sets.here) refl
    | inr other ↦ subst (λ (o : Option Known). IsSome o) (sym (sets.others p other.1))
        (lists.pending p (subst (λ (ps : List (ℕ × ℤ)). ps ≢ []) (points_taken metrics path p other.0) some))
  ];
  entries = λ p. elim (same_text p path) [
    | inl same ↦ subst (λ (q : List ℕ). IfSome (entry_of table' q) (IsEntry class rules (remove_entry (bytes_eq path) metrics) q)) (sym same.1)
        (rw sets.here (record {
          here = (known_path class rules metrics table path known there lists).here;
          pending = λ none. absurd (true≢false none);
          given = λ none. absurd (true≢false none);
        }))
    | inr other ↦ subst (λ (o : Option Known). IfSome o (IsEntry class rules (remove_entry (bytes_eq path) metrics) p)) (sym (sets.others p other.1))
        (moved (entry_of table p) p other.0 (lists.entries p))
  ];
}
  where
    moved : (o : Option Known) (p : List ℕ) → bytes_eq p path ≡ false → IfSome o (IsEntry class rules metrics p) → IfSome o (IsEntry class rules (remove_entry (bytes_eq path) metrics) p)
    moved None p other entry = tt
    moved (Some k) p other entry = record {
      here = entry.here;
      pending = λ none. subst (λ (ps : List (ℕ × ℤ)). ps ≢ []) (sym (points_taken metrics path p other)) (entry.pending none);
      given = entry.given;
    }

-- ---- the start

-- what is known at the start is listed, with nothing pending
pub opened_lists : (class : ℕ) (rules : RulesValue) (table : Table) → IsOpened class table → Lists class rules [] table
opened_lists class rules table opened = record {
  pending = λ p some. absurd (some refl);
  entries = λ p. by (entry_of table p) p (opened p);
}
  where
    by : (o : Option Known) (p : List ℕ) → IfSome o (λ known. (class_of p ≡ class) × ((known.is_kept ≡ true) × (known.drains ≡ 0))) → IfSome o (IsEntry class rules [] p)
    by None p is = tt
    by (Some known) p is = record {
      here = is.0;
      pending = λ none. absurd (true≢false (sym is.1.0 ∙ none));
      given = λ none. absurd (true≢false (sym is.1.0 ∙ none));
    }
