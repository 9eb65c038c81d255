-- A put, and the state that the shard stands for then.
use Rattle.std.proofs.Common.{◌≡◌, ◌≢◌, ◌∙◌, ℕ, ℤ, ◌<◌, ◌==◌, true, false, List, [], Option, Some, None, IsSome, is_some, ◌∷◌, refl, sym, ap, subst, arith}
use Rattle.std.proofs.lemmas.Bool.{true≢false}
use Rattle.std.proofs.lemmas.Bool.Decides.{Decides-eqb}
use Rattle.std.specs.Prelude.{IfSome, IsSomeAnd}
use Rattle.std.proofs.Common.{inl, inr}
use Rattle.outside_io.specs.Image.{Image}
use Rattle.ring_format.specs.Layout.{LayoutValue}
use Rattle.ring_format.specs.Patch.{PatchValue}
use Rattle.write_shelf.specs.Shelf.{DrainValue}
use Rattle.metric_path.specs.Class.{class_of}
use Rattle.point_cache.specs.Points.{has_time}
use Rattle.metric_index.specs.Index.{entry_of}
use Rattle.metric_table.specs.declared.known.Known.{Known}
use Rattle.point_cache.specs.Pending.{Cache, HasRoom, Puts, after_put, points_count, points_of, with_put}
use Rattle.point_cache.specs.declared.put.Put.{Put}
use Rattle.point_cache.specs.declared.put.Put.TheVariants.{Stored, Replaced, Full, NoMemory}
use Rattle.carbon_model.specs.State.{Kept, Metrics, State, points_in, with_pending}
use Rattle.carbon_model.specs.Replay.{IsPoint}
use Rattle.shard_core.specs.Puts.{TakesPoint}
use Rattle.shard_core.specs.Shard.{HasFiles, Holds, HoldsKept, HoldsShelf, Inside, IsLawfulRing, KeepsLayouts, patch_on}
use Rattle.metric_path.specs.FileName.{file_name_of}
use Rattle.metric_index.specs.Index.{Sets}
use Rattle.metric_table.specs.Table.{undrained}
use Rattle.schema_rules.specs.LayoutBy.{layout_by}
use Rattle.shard_core.proofs.FileLemmas.{same_text}
use Rattle.shard_core.specs.Table.{Lists, SaysTheSame, Table}
use Rattle.schema_rules.specs.RulesOf.{RulesValue}
use Rattle.shard_core.proofs.TableLemmas.{known_path, lists_alike, lists_put, taken_out}

same_number : (k : ℕ) → (k == k) ≡ true
same_number k = (Decides-eqb k k).1 refl

-- a table that says the same stands for the same
pub kept_same : (told : Option Image) (class : ℕ) (table table' : Table) (patch : Option PatchValue) (known : Option Image) (kept : List ℕ → Option Kept) → SaysTheSame table table'
    → HoldsKept told class table patch known kept → HoldsKept told class table' patch known kept
kept_same told class table table' patch known kept says holds = record {
  layouts = λ path one. says.kept path ∙ holds.layouts path one;
  files = holds.files;
}

-- the cache is as it was
pub says_stays : (told : Option Image) (old : Inside) (table : Table) (s : State) → SaysTheSame old.table table → Holds told old s → Holds told (record old { table = table }) s
says_stays told old table s says holds = record {
  pending = holds.pending;
  queue = holds.queue;
  kept = kept_same told old.class old.table table (patch_on old.shelf) old.known s.kept says holds.kept;
  drains = λ path one. says.drains path ∙ holds.drains path one;
  rules = holds.rules;
  limit = holds.limit;
  strategy = holds.strategy;
}

-- the point is there
goes_in : (told : Option Image) (old : Inside) (table : Table) (s : State) (path : List ℕ) (time : ℕ) (value : ℤ) → class_of path ≡ old.class → SaysTheSame old.table table → Holds told old s
    → Holds told (record old { cache = after_put old.cache path time value; table = table }) (with_pending s (class_of path) (with_put (s.pending (class_of path)) path time value))
goes_in told old table s path time value one says holds = record {
  pending = rw (one, same_number old.class) (ap (λ (ms : Metrics). with_put ms path time value) holds.pending);
  queue = holds.queue;
  kept = kept_same told old.class old.table table (patch_on old.shelf) old.known s.kept says holds.kept;
  drains = λ p of_class. says.drains p ∙ holds.drains p of_class;
  rules = holds.rules;
  limit = holds.limit;
  strategy = holds.strategy;
}

-- what the definition of a put speaks of, in the shard's own words
record Sees (old : Inside) (s : State) (path : List ℕ) (time : ℕ) : Type 0 where
  known : has_time (points_in s path) time ≡ has_time (points_of old.cache.metrics path) time
  count : points_count (s.pending (class_of path)) ≡ points_count old.cache.metrics
  limit : old.cache.limit ≡ s.limit

sees : (told : Option Image) (old : Inside) (s : State) (path : List ℕ) (time : ℕ) → class_of path ≡ old.class → Holds told old s → Sees old s path time
sees told old s path time one holds =
    let same : s.pending (class_of path) ≡ old.cache.metrics = ap s.pending one ∙ sym holds.pending in record {
      known = ap (λ (ms : Metrics). has_time (points_of ms path) time) same;
      count = ap points_count same;
      limit = holds.limit;
    }

pub takes_point : (put : Put) (old : Inside) (cache : Cache) (table : Table) (path : List ℕ) (time : ℕ) (value : ℤ) → class_of path ≡ old.class → IsPoint path time value → SaysTheSame old.table table → Puts old.cache cache path time value put
    → TakesPoint old (record old { cache = cache; table = table }) path time value put
takes_point Stored old cache table path time value one point says puts told s holds = λ pass.
    let seen = sees told old s path time one holds in (
      (point, (seen.known ∙ puts.0, omega (arith, seen.count, seen.limit, puts.1.0))),
      subst (λ (c : Cache). Holds told (record old { cache = c; table = table }) (with_pending s (class_of path) (with_put (s.pending (class_of path)) path time value))) (sym puts.1.1)
          (goes_in told old table s path time value one says holds),
    )
takes_point Replaced old cache table path time value one point says puts told s holds = λ pass.
    let seen = sees told old s path time one holds in (
      (point, seen.known ∙ puts.0),
      subst (λ (c : Cache). Holds told (record old { cache = c; table = table }) (with_pending s (class_of path) (with_put (s.pending (class_of path)) path time value))) (sym puts.1)
          (goes_in told old table s path time value one says holds),
    )
takes_point Full old cache table path time value one point says puts told s holds = λ pass.
    let seen = sees told old s path time one holds in (
      (point, (seen.known ∙ puts.0, omega (arith, seen.count, seen.limit, puts.1.0))),
      subst (λ (c : Cache). Holds told (record old { cache = c; table = table }) s) (sym puts.1.1) (says_stays told old table s says holds),
    )
takes_point NoMemory old cache table path time value one point says puts told s holds = λ pass.
    let seen = sees told old s path time one holds in (
      (point, (seen.known ∙ puts.0, omega (arith, seen.count, seen.limit, puts.1.0))),
      subst (λ (c : Cache). Holds told (record old { cache = c; table = table }) s) (sym puts.1.1) (says_stays told old table s says holds),
    )

-- where there was no memory to know the metric, and it has no points
pub takes_nothing : (old : Inside) (path : List ℕ) (time : ℕ) (value : ℤ) → class_of path ≡ old.class → IsPoint path time value → points_of old.cache.metrics path ≡ [] → points_count old.cache.metrics < old.cache.limit → TakesPoint old old path time value NoMemory
takes_nothing old path time value one point none room told s holds = λ pass.
    let seen = sees told old s path time one holds in
    ((point, (seen.known ∙ ap (λ (ps : List (ℕ × ℤ)). has_time ps time) none, omega (arith, seen.count, seen.limit, room))), holds)

-- ---- what the table knows

-- a table that says the same of itself
pub says_itself : (table : Table) → SaysTheSame table table
says_itself table = record { kept = λ p. refl; drains = λ p. refl }

has_points : (points : List (ℕ × ℤ)) (time : ℕ) → has_time points time ≡ true → points ≢ []
has_points points time there none = absurd (true≢false (sym there ∙ ap (λ (ps : List (ℕ × ℤ)). has_time ps time) none))

lists_with : (class : ℕ) (rules : RulesValue) (old : Cache) (table : Table) (path : List ℕ) (time : ℕ) (value : ℤ) (o : Option Known) → entry_of table path ≡ o → IsSome o
    → Lists class rules old.metrics table → Lists class rules (with_put old.metrics path time value) table
lists_with class rules old table path time value None is some lists = absurd (true≢false (sym some))
lists_with class rules old table path time value (Some known) is some lists =
    lists_put class rules old.metrics table table path time value lists (known_path class rules old.metrics table path known is lists) (λ other _. refl)

-- a metric that is listed, or whose point found no room
pub lists_after_put : (class : ℕ) (rules : RulesValue) (old new : Cache) (table : Table) (path : List ℕ) (time : ℕ) (value : ℤ) (put : Put) → Puts old new path time value put
    → (HasRoom old → IsSome (entry_of table path)) → Lists class rules old.metrics table → Lists class rules new.metrics table
lists_after_put class rules old new table path time value Stored puts listed lists =
    subst (λ (c : Cache). Lists class rules c.metrics table) (sym puts.1.1) (lists_with class rules old table path time value (entry_of table path) refl (listed puts.1.0) lists)
lists_after_put class rules old new table path time value Replaced puts listed lists =
    subst (λ (c : Cache). Lists class rules c.metrics table) (sym puts.1)
    (lists_with class rules old table path time value (entry_of table path) refl (lists.pending path (has_points (points_of old.metrics path) time puts.0)) lists)
lists_after_put class rules old new table path time value Full puts listed lists = subst (λ (c : Cache). Lists class rules c.metrics table) (sym puts.1.1) lists
lists_after_put class rules old new table path time value NoMemory puts listed lists = subst (λ (c : Cache). Lists class rules c.metrics table) (sym puts.1.1) lists

-- ---- the first point of a metric

cons_is_some : (p : ℕ × ℤ) (ps : List (ℕ × ℤ)) → p ∷ ps ≢ []
cons_is_some p ps e = absurd cc

-- a metric that the table does not know has no points
pub unknown_is_empty : (class : ℕ) (rules : RulesValue) (metrics : Metrics) (table : Table) (path : List ℕ) → Lists class rules metrics table → entry_of table path ≡ None → points_of metrics path ≡ []
unknown_is_empty class rules metrics table path lists none = by (points_of metrics path) refl
  where
    by : (points : List (ℕ × ℤ)) → points_of metrics path ≡ points → points ≡ []
    by [] is = refl
    by (p ∷ ps) is =
        let some : IsSome (entry_of table path) = lists.pending path (λ e. cons_is_some p ps (sym is ∙ e)) in
        absurd (true≢false (sym some ∙ ap (λ (o : Option Known). is_some o) none))

pub lists_first : (class : ℕ) (rules : RulesValue) (old new : Cache) (table table' : Table) (path : List ℕ) (time : ℕ) (value : ℤ) → class_of path ≡ class → Puts old new path time value Stored
    → Sets table table' path (Some (undrained (layout_by rules path) false false)) → Lists class rules old.metrics table → Lists class rules new.metrics table'
lists_first class rules old new table table' path time value here puts sets lists =
    subst (λ (c : Cache). Lists class rules c.metrics table') (sym puts.1.1)
    (lists_put class rules old.metrics table table' path time value lists
    (record { known = undrained (layout_by rules path) false false; there = sets.here; here = here; given = λ _. refl }) sets.others)

-- and where it was not stored
pub lists_out : (class : ℕ) (rules : RulesValue) (old new : Cache) (table table' table'' : Table) (path : List ℕ) (time : ℕ) (value : ℤ) (entry : Option Known) (put : Put) → (put ≡ Stored → ⊥)
    → Puts old new path time value put → entry_of table path ≡ None → Sets table table' path entry → Sets table' table'' path None
    → Lists class rules old.metrics table → Lists class rules new.metrics table''
lists_out class rules old new table table' table'' path time value entry Stored other puts none sets out lists = absurd (other refl)
lists_out class rules old new table table' table'' path time value entry Replaced other puts none sets out lists =
    absurd (has_points (points_of old.metrics path) time puts.0 (unknown_is_empty class rules old.metrics table path lists none))
lists_out class rules old new table table' table'' path time value entry Full other puts none sets out lists =
    subst (λ (c : Cache). Lists class rules c.metrics table'') (sym puts.1.1) (lists_alike class rules old.metrics table table'' (taken_out table table' table'' path entry none sets out) lists)
lists_out class rules old new table table' table'' path time value entry NoMemory other puts none sets out lists =
    subst (λ (c : Cache). Lists class rules c.metrics table'') (sym puts.1.1) (lists_alike class rules old.metrics table table'' (taken_out table table' table'' path entry none sets out) lists)

-- ---- files and shelf under a table that says the same

pub files_same : (class : ℕ) (table table' : Table) (patch : Option PatchValue) (image : Option Image) → SaysTheSame table table' → HasFiles class table patch image → HasFiles class table' patch image
files_same class table table' patch None says files = tt
files_same class table table' patch (Some image) says files = λ path legal here apart.
    subst (λ (o : Option (ℕ × LayoutValue)). IfSome o (λ form. IsSomeAnd (image (file_name_of path)) (IsLawfulRing form.0 form.1))) (sym (says.kept path)) (files path legal here apart)

pub shelf_same : (class : ℕ) (table table' : Table) (shelf : Option DrainValue) (image : Option Image) → SaysTheSame table table' → HoldsShelf class table shelf image → HoldsShelf class table' shelf image
shelf_same class table table' None image says holds = tt
shelf_same class table table' (Some drain) image says holds = (
  record { legal = holds.0.legal; here = holds.0.here; kept = says.kept drain.patch.path ∙ holds.0.kept; lawful = holds.0.lawful },
  holds.1,
)

-- ---- layouts

knows_by : (o o' : Option Known) (layout : LayoutValue) → o' ≡ o → IsSomeAnd o (λ known. known.layout ≡ layout) → IsSomeAnd o' (λ known. known.layout ≡ layout)
knows_by o o' layout e knows = subst (λ (x : Option Known). IsSomeAnd x (λ known. known.layout ≡ layout)) (sym e) knows

-- a metric that was not known comes to the others
pub layouts_with : (old : Inside) (cache : Cache) (table : Table) (path : List ℕ) (entry : Option Known) → entry_of old.table path ≡ None → Sets old.table table path entry
    → KeepsLayouts old (record old { cache = cache; table = table })
layouts_with old cache table path entry none sets p layout knows = elim (same_text p path) [
  | inl same ↦ absurd (subst (λ (o : Option Known). IsSomeAnd o (λ known. known.layout ≡ layout)) (ap (entry_of old.table) same.1 ∙ none) knows)
  | inr other ↦ knows_by (entry_of old.table p) (entry_of table p) layout (sets.others p other.1) knows
]

pub layouts_out : (old : Inside) (cache : Cache) (table : Table) → ((p : List ℕ) → entry_of table p ≡ entry_of old.table p) → KeepsLayouts old (record old { cache = cache; table = table })
layouts_out old cache table same p layout knows = knows_by (entry_of old.table p) (entry_of table p) layout (same p) knows
