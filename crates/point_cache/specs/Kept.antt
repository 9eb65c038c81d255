-- How metrics are kept: each at a place, with the number of its arrival.
use Rattle.std.specs.Prelude.{◌≡◌, ℕ, ◌==◌, ◌<◌, List, [], ◌∷◌, if◌then◌else◌, length, map, nat_lt, slice_index_or, take}
use Rattle.std.specs.List.{All, IsDistinct}
use Rattle.std.specs.Map.{keys_of}
use Rattle.std.specs.Str.{bytes_eq}
use Rattle.point_cache.specs.Pending.{Metrics, Placed}
use Rattle.point_cache.specs.declared.arrivals.Arrival.{Arrival}
use Rattle.point_cache.specs.declared.numbered.Numbered.{Numbered}

-- a metric: its path, and its points with its number
abbrev pub Entry : Type 0
Entry = List ℕ × Numbered

-- the entries with one more, before the first that did not arrive earlier
abbrev pub insert_arrived : Entry → List Entry → List Entry
insert_arrived e [] = e ∷ []
insert_arrived e (x ∷ xs) = if nat_lt x.1.number e.1.number then x ∷ insert_arrived e xs else e ∷ x ∷ xs

-- the entries in order of arrival
abbrev pub in_arrival : List Entry → List Entry
in_arrival [] = []
in_arrival (e ∷ es) = insert_arrived e (in_arrival es)

-- the metrics in order of arrival
unfoldable pub metrics_of : List Entry → Metrics
metrics_of entries = map (λ e. (e.0, e.1.points)) (in_arrival entries)

-- the numbers, by place
abbrev pub numbers_of : List Entry → List ℕ
numbers_of entries = map (λ e. e.1.number) entries

-- the metrics that they stand for, and the path at each place
abbrev pub placed_of : List Entry → Placed
placed_of entries = record { metrics = metrics_of entries; places = keys_of entries }

-- no two have one path, each number is below the next one, and no two are equal
pub record IsKept (next : ℕ) (entries : List Entry) : Type 0 where
  pub once : IsDistinct bytes_eq (keys_of entries)
  pub below : All (λ number. number < next) (numbers_of entries)
  pub apart : IsDistinct ◌==◌ (numbers_of entries)

-- the entry at a place
abbrev pub entry_at : List Entry → ℕ → Entry
entry_at entries place = slice_index_or entries place ([], record { number = 0; points = [] })

-- these are the places of the first entries, so many of them, with their numbers
pub record AreArrivals (entries : List Entry) (count : ℕ) (items : List Arrival) : Type 0 where
  pub there : map (λ a. entry_at entries a.place) items ≡ take count entries
  pub numbered : All (λ a. (a.place < length entries) × ((entry_at entries a.place).1.number ≡ a.number)) items
