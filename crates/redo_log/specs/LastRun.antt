-- Which run of a patch is its last one.
use Rattle.std.specs.Prelude.{ℕ, ◌+◌, ◌-◌, ◌==◌, Bool, true, false, ◌&&◌, not, length, slice_get}
use Rattle.std.specs.Option.{option_map_or}
use Rattle.ring_format.specs.Patch.{Cells as Laid, PatchValue}
use Rattle.write_shelf.specs.declared.run.Run.{Run}
use Rattle.write_shelf.specs.declared.run.Run.TheVariants.{Create, Cells, Head}

-- the last cell stands in the last of these slots
abbrev pub ends_in : Laid → ℕ → ℕ → ℕ → Bool
ends_in cells archive slot count = option_map_or (λ cell. cell.0.0 == archive && cell.0.1 + 1 == slot + count) (slice_get cells (length cells - 1)) false

-- a fresh patch ends with its head, and another with the run of its last cell
abbrev pub ends_with : PatchValue → Run → Bool
ends_with patch (Create size) = false
ends_with patch (Cells archive slot count) = not patch.fresh && ends_in patch.cells archive slot count
ends_with patch Head = true
