-- What is known of the metrics, in the words of an index by path.
use Rattle.std.specs.Prelude.{◌≡◌, ℕ, ◌+◌, Bool, true, false, List, Option, Some, None, if◌then◌else◌}
use Rattle.ring_format.specs.Layout.{LayoutValue, layout_fault}
use Rattle.metric_table.specs.declared.known.Known.{Known}
use Rattle.metric_table.specs.declared.found_metric.FoundMetric.{FoundMetric}

-- a metric that was just put into the table
abbrev pub undrained : LayoutValue → Bool → Bool → Known
undrained layout is_kept is_old =
    record { layout = layout; is_kept = is_kept; is_old = is_old; drains = 0 }

-- A metric after one more drain: something is kept of it from then on, in version 2.
abbrev pub drained : Known → Known
drained known =
    record { layout = known.layout; is_kept = true; is_old = false; drains = known.drains + 1 }

-- whether the layout is a lawful one
abbrev pub IsLawful : Known → Type 0
IsLawful known = layout_fault known.layout.archives known.layout.factor ≡ None

-- what a found metric says
abbrev pub seen : FoundMetric → List ℕ × Known
seen found = (
  found.path.now,
  record {
    layout = found.layout.now;
    is_kept = found.is_kept;
    is_old = found.is_old;
    drains = found.drains;
  },
)

-- the version of what is kept of a metric: none where nothing is
abbrev pub kept_version : Known → Option ℕ
kept_version known = if known.is_kept then Some (if known.is_old then 1 else 2) else None
