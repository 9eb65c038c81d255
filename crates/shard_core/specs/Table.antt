-- What a shard knows of its metrics: one entry a metric that is pending or kept.
use Rattle.std.specs.Prelude.{◌≡◌, ◌≢◌, ℕ, false, List, [], Option, None, Some, IfSome, IsSome, option_map}
use Rattle.std.specs.Option.{option_map_or}
use Rattle.metric_path.specs.Class.{class_of}
use Rattle.ring_format.specs.Layout.{LayoutValue}
use Rattle.metric_index.specs.Index.{entry_of}
use Rattle.metric_table.specs.Table.{kept_version}
use Rattle.metric_table.specs.declared.known.Known.{Known}
use Rattle.point_cache.specs.Pending.{Metrics, points_of}
use Rattle.schema_rules.specs.LayoutBy.{layout_by}
use Rattle.schema_rules.specs.RulesOf.{RulesValue}

-- each path with what is known of it
abbrev pub Table : Type 0
Table = List (List ℕ × Known)

-- the version and the layout of what is kept of a metric, where something is
abbrev pub form_kept : Option Known → Option (ℕ × LayoutValue)
form_kept None = None
form_kept (Some known) = option_map (λ version. (version, known.layout)) (kept_version known)

abbrev pub kept_form : Table → List ℕ → Option (ℕ × LayoutValue)
kept_form table path = form_kept (entry_of table path)

-- how often a metric was drained
abbrev pub drains_in : Table → List ℕ → ℕ
drains_in table path = option_map_or (λ known. known.drains) (entry_of table path) 0

-- every path has the version and the layout that were kept, and the drains that it had
pub record SaysTheSame (old new : Table) : Type 0 where
  pub kept : (path : List ℕ) → kept_form new path ≡ kept_form old path
  pub drains : (path : List ℕ) → drains_in new path ≡ drains_in old path

-- A known metric is of the class. Where nothing is kept of it, it is pending, and has the layout
-- that the rules give.
pub record IsEntry (class : ℕ) (rules : RulesValue) (metrics : Metrics) (path : List ℕ) (known : Known) : Type 0 where
  pub here : class_of path ≡ class
  pub pending : known.is_kept ≡ false → points_of metrics path ≢ []
  pub given : known.is_kept ≡ false → known.layout ≡ layout_by rules path

-- The table knows each pending metric, and of the others only such of which something is kept.
pub record Lists (class : ℕ) (rules : RulesValue) (metrics : Metrics) (table : Table) : Type 0 where
  pub pending : (path : List ℕ) → points_of metrics path ≢ [] → IsSome (entry_of table path)
  pub entries : (path : List ℕ) → IfSome (entry_of table path) (IsEntry class rules metrics path)
