-- The state in which a run begins over shards that started.
use Rattle.std.specs.Prelude.{ℕ, List, [], ◌∷◌, Option, Some, None, option_and_then, option_map, slice_get}
use Rattle.outside_io.specs.Image.{Image}
use Rattle.outside_io.specs.declared.disk.Disk.{Ghosts}
use Rattle.metric_path.specs.Class.{class_of}
use Rattle.metric_path.specs.Path.{path_fault}
use Rattle.schema_rules.specs.LayoutBy.{layout_by}
use Rattle.drain_order.specs.declared.strategy.Strategy.TheVariants.{Naive}
use Rattle.carbon_model.specs.RingFiles.{Settings, kept_on, of_legal}
use Rattle.carbon_model.specs.State.{Kept, State, no_rings}
use Rattle.shard_core.specs.Table.{Table, kept_form}
use Rattle.shard_core.specs.declared.shard.Shard.{Shard}

-- What is kept of a path: what the disk shows of it. Where the disk does not tell its image, it is
-- the version and the layout that the shard read of the file, and no values.
abbrev pub kept_from : Option Image → Table → List ℕ → Option Kept
kept_from (Some image) table path = kept_on image path
kept_from None table path =
    option_map (λ form. record { version = form.0; layout = form.1; rings = no_rings }) (kept_form table path)

abbrev pub kept_by : {D : Type 0} {d : Ghosts D} → Shard D d → List ℕ → Option Kept
kept_by {D} {d} shard path = kept_from (d.image shard.files.disk) shard.desk.table path

-- What is fixed for the run: all shards have the same, and so the first has it.
abbrev pub settings_in : {D : Type 0} {d : Ghosts D} → List (Shard D d) → Settings
settings_in [] = record {
  rules = layout_by (record { schemas = []; aggregations = [] });
  limit = 0;
  strategy = Naive;
}
settings_in (shard ∷ shards) = record {
  rules = layout_by shard.desk.rules;
  limit = shard.desk.cache.limit;
  strategy = shard.desk.picker.strategy;
}

-- The state in which a run begins over these shards: nothing is pending and nothing was drained. Of
-- each path is kept what the shard of its class keeps, and of a text that is no path nothing.
unfoldable pub opening_of : {D : Type 0} {d : Ghosts D} → List (Shard D d) → State
opening_of shards = record {
  pending = λ class. [];
  queue = λ class. [];
  kept = λ path. of_legal (path_fault path)
      (option_and_then (λ shard. kept_by shard path) (slice_get shards (class_of path)));
  drains = λ path. 0;
  rules = (settings_in shards).rules;
  limit = (settings_in shards).limit;
  strategy = (settings_in shards).strategy;
}
