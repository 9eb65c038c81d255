-- How a table keeps what it knows: the layouts in a list, and for each path the number of one.
use Rattle.std.specs.Prelude.{◌≡◌, ℕ, ◌<◌, ◌++◌, List, [], length, get_or, map, IfSome}
use Rattle.ring_format.specs.Layout.{LayoutValue}
use Rattle.ring_format.specs.declared.archive.Method.TheVariants.{Average}
use Rattle.metric_index.specs.Index.{entry_of}
use Rattle.metric_table.specs.declared.entry.Entry.{Entry}
use Rattle.metric_table.specs.declared.known.Known.{Known}

-- what stands for the layout of a number that has none
abbrev pub no_layout : LayoutValue
no_layout = record { archives = []; method = Average; factor = 0 }

-- what is known by an entry
abbrev pub known_by : List LayoutValue → Entry → Known
known_by layouts entry = record {
  layout = get_or layouts entry.layout no_layout;
  is_kept = entry.is_kept;
  is_old = entry.is_old;
  drains = entry.drains;
}

-- what is known by all entries
abbrev pub known_by_all : List LayoutValue → List (List ℕ × Entry) → List (List ℕ × Known)
known_by_all layouts index = map (λ e. (e.0, known_by layouts e.1)) index

-- the number of each known path has a layout
abbrev pub HaveLayouts : List LayoutValue → List (List ℕ × Entry) → Type 0
HaveLayouts layouts index = (path : List ℕ) → IfSome (entry_of index path) (λ entry. entry.layout < length layouts)

-- Every number keeps its layout; further layouts may have come behind them.
abbrev pub KeepsNumbers : List LayoutValue → List LayoutValue → Type 0
KeepsNumbers old new = (more : List LayoutValue) × (new ≡ old ++ more)
