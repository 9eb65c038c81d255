-- Lawful layouts: which lists of archives, from the finest to the coarsest, a ring file may have.
use Rattle.std.specs.Prelude.{ℕ, ◌-◌, ◌*◌, ◌/◌, ◌%◌, ◌^◌, ◌==◌, min, Bool, ◌&&◌, not, nat_lt, nat_le, List, [], ◌∷◌, ◌++◌, length, drop, map, position, Option, Some, None, Result, Ok, Err, if◌then◌else◌}
use Rattle.std.specs.List.{zip, sum_by}
use Rattle.std.specs.Option.{option_map_or}
use Rattle.ring_format.specs.declared.archive.Archive.{Archive}
use Rattle.ring_format.specs.declared.archive.Method.{Method}
use Rattle.ring_format.specs.declared.fault.LayoutFault.{LayoutFault}
use Rattle.ring_format.specs.declared.fault.LayoutFault.TheVariants.{NoArchive, BadStep, StepOrder, StepDivides, TooFewPoints, TooLong, Retention, TooManyPoints, BadFactor}

-- What contracts see of a layout. The factor is the least part of the places, in millionths, that must
-- be known for a coarser value.
pub record LayoutValue : Type 0 where
  pub archives : List Archive
  pub method : Method
  pub factor : ℕ

-- how many seconds an archive reaches back
abbrev pub retention_of : Archive → ℕ
retention_of archive = archive.step * archive.points

-- how many points the archives have in all
abbrev pub point_count : List Archive → ℕ
point_count archives = sum_by (λ archive. archive.points) archives

-- each archive beside the next one; the last has none
abbrev pub neighbours : List Archive → List (Archive × Archive)
neighbours archives = zip archives (drop 1 archives)

-- each archive beside the fewest points that it may have: one, and the next step divided by its own
abbrev pub with_fewest_points : List Archive → List (Archive × ℕ)
with_fewest_points archives = zip archives (map (λ pair. pair.1.step / pair.0.step) (neighbours archives) ++ 1 ∷ [])

-- ---- the archive that breaks a rule

abbrev pub has_bad_step : Archive → Bool
has_bad_step archive = not (nat_le 1 archive.step && nat_le archive.step 31536000)

abbrev pub is_out_of_order : Archive × Archive → Bool
is_out_of_order pair = not (nat_lt pair.0.step pair.1.step)

abbrev pub does_not_divide : Archive × Archive → Bool
does_not_divide pair = not (pair.1.step % pair.0.step == 0)

abbrev pub has_too_few_points : Archive × ℕ → Bool
has_too_few_points pair = not (nat_le 1 pair.0.points && nat_le pair.1 pair.0.points)

abbrev pub is_too_long : Archive → Bool
is_too_long archive = not (nat_le (retention_of archive) 4000000000)

abbrev pub is_no_longer_kept : Archive × Archive → Bool
is_no_longer_kept pair = not (nat_lt (retention_of pair.0) (retention_of pair.1))

-- ---- the first fault

-- the fault that names the archive at the place, where there is one, and else what follows
abbrev pub fault_at : (ℕ → LayoutFault) → Option ℕ → Option LayoutFault → Option LayoutFault
fault_at fault (Some place) others = Some (fault (min place (2 ^ 32 - 1)))
fault_at fault None others = others

-- The first fault of a layout: a lawful layout has none. Each rule is tested over all archives, from the
-- first, before the next rule. A fault names the archive, of a pair the earlier one, by its place from 0 on.
unfoldable pub layout_fault : List Archive → ℕ → Option LayoutFault
layout_fault archives factor =
    if length archives == 0 then Some NoArchive else
    (fault_at (λ i. BadStep i) (position has_bad_step archives)
    (fault_at (λ i. StepOrder i) (position is_out_of_order (neighbours archives))
    (fault_at (λ i. StepDivides i) (position does_not_divide (neighbours archives))
    (fault_at (λ i. TooFewPoints i) (position has_too_few_points (with_fewest_points archives))
    (fault_at (λ i. TooLong i) (position is_too_long archives)
    (fault_at (λ i. Retention i) (position is_no_longer_kept (neighbours archives))
    (if nat_lt 4000000 (point_count archives) then Some TooManyPoints else
    (if nat_lt 1000000 factor then Some BadFactor else None))))))))

-- the layout with these parts where they are lawful, and else their first fault
abbrev pub layout_result : List Archive → Method → ℕ → Result LayoutValue LayoutFault
layout_result archives method factor =
    option_map_or (λ fault. Err fault) (layout_fault archives factor) (Ok (record { archives = archives; method = method; factor = factor }))
