-- What holds of the archives of a lawful layout.
use Rattle.std.proofs.Common.{◌≡◌, ℕ, ◌+◌, ◌<◌, ◌≤◌, ◌/◌, Bool, true, false, cond, eqb, ltb, List, [], ◌∷◌, ◌++◌, length, get_or, take, drop, map, Option, Some, None, refl, sym, ap, ◌∙◌, arith, position}
use Rattle.std.proofs.lemmas.Bool.Decides.{nat_tests}
use Rattle.std.proofs.lemmas.List.Sums.{sum_by-take-drop, sum_by-drop_more}
use Rattle.std.proofs.lemmas.List.{length-append, length-drop, length-map}
use Rattle.std.proofs.lemmas.Slice.Zip.{get_or-zip, length-zip}
use Rattle.ring_format.specs.declared.archive.Archive.{Archive}
use Rattle.ring_format.specs.declared.fault.LayoutFault.{LayoutFault}
use Rattle.ring_format.specs.declared.fault.LayoutFault.TheVariants.{NoArchive, BadStep, StepOrder, StepDivides, TooFewPoints, TooLong, Retention, TooManyPoints, BadFactor}
use Rattle.ring_format.specs.Layout.{retention_of, point_count, neighbours, with_fewest_points, has_bad_step, is_out_of_order, does_not_divide, has_too_few_points, is_too_long, is_no_longer_kept, fault_at, layout_fault}
use Rattle.ring_format.proofs.FewArchives.{few_archives, good_step, none_passes}

-- no rule is broken
pub record Lawful (archives : List Archive) (factor : ℕ) : Type 0 where
  pub some : eqb (length archives) 0 ≡ false
  pub steps : position has_bad_step archives ≡ None
  pub ordered : position is_out_of_order (neighbours archives) ≡ None
  pub divides : position does_not_divide (neighbours archives) ≡ None
  pub covers : position has_too_few_points (with_fewest_points archives) ≡ None
  pub short : position is_too_long archives ≡ None
  pub kept : position is_no_longer_kept (neighbours archives) ≡ None
  pub points : ltb 4000000 (point_count archives) ≡ false
  pub part : ltb 1000000 factor ≡ false

passed : (b : Bool) (fault : LayoutFault) (others : Option LayoutFault) → cond b (Some fault) others ≡ None → (b ≡ false) × (others ≡ None)
passed true fault others e = absurd cc
passed false fault others e = (refl, e)

none_at : (fault : ℕ → LayoutFault) (place : Option ℕ) (others : Option LayoutFault) → fault_at fault place others ≡ None → (place ≡ None) × (others ≡ None)
none_at fault (Some place) others e = absurd cc
none_at fault None others e = (refl, e)

pub lawful_rules : (archives : List Archive) (factor : ℕ) → layout_fault archives factor ≡ None → Lawful archives factor
unfolding layout_fault
lawful_rules archives factor e =
    let factors : Option LayoutFault = cond (ltb 1000000 factor) (Some BadFactor) None in
    let points : Option LayoutFault = cond (ltb 4000000 (point_count archives)) (Some TooManyPoints) factors in
    let kept : Option LayoutFault = fault_at (λ i. Retention i) (position is_no_longer_kept (neighbours archives)) points in
    let short : Option LayoutFault = fault_at (λ i. TooLong i) (position is_too_long archives) kept in
    let covers : Option LayoutFault = fault_at (λ i. TooFewPoints i) (position has_too_few_points (with_fewest_points archives)) short in
    let divides : Option LayoutFault = fault_at (λ i. StepDivides i) (position does_not_divide (neighbours archives)) covers in
    let ordered : Option LayoutFault = fault_at (λ i. StepOrder i) (position is_out_of_order (neighbours archives)) divides in
    let steps : Option LayoutFault = fault_at (λ i. BadStep i) (position has_bad_step archives) ordered in
    let a = passed (eqb (length archives) 0) NoArchive steps e in
    let b = none_at (λ i. BadStep i) (position has_bad_step archives) ordered a.1 in
    let c = none_at (λ i. StepOrder i) (position is_out_of_order (neighbours archives)) divides b.1 in
    let d = none_at (λ i. StepDivides i) (position does_not_divide (neighbours archives)) covers c.1 in
    let f = none_at (λ i. TooFewPoints i) (position has_too_few_points (with_fewest_points archives)) short d.1 in
    let g = none_at (λ i. TooLong i) (position is_too_long archives) kept f.1 in
    let h = none_at (λ i. Retention i) (position is_no_longer_kept (neighbours archives)) points g.1 in
    let i = passed (ltb 4000000 (point_count archives)) TooManyPoints factors h.1 in
    let j = passed (ltb 1000000 factor) BadFactor None i.1 in
    record { some = a.0; steps = b.0; ordered = c.0; divides = d.0; covers = f.0; short = g.0; kept = h.0; points = i.0; part = j.0 }

pub lawful_count : (archives : List Archive) (factor : ℕ) → layout_fault archives factor ≡ None → (1 ≤ length archives) × (length archives ≤ 25) × (point_count archives ≤ 4000000) × (factor ≤ 1000000)
lawful_count archives factor e =
    let rules = lawful_rules archives factor e in
    (grind (arith, nat_tests), few_archives archives rules.steps rules.ordered rules.divides, grind (arith, nat_tests), grind (arith, nat_tests))

-- ---- one archive

-- the points up to an archive are among all points
pub points_within : (archives : List Archive) (i : ℕ) (d : Archive) → i < length archives → point_count (take i archives) + (get_or archives i d).points ≤ point_count archives
points_within archives i d within =
    omega (arith, sum_by-take-drop (λ (archive : Archive). archive.points) archives i, sum_by-drop_more (λ (archive : Archive). archive.points) archives i d within)

some_points : (pair : Archive × ℕ) → has_too_few_points pair ≡ false → 1 ≤ pair.0.points
some_points pair e = grind (arith, nat_tests)

not_too_long : (archive : Archive) → is_too_long archive ≡ false → retention_of archive ≤ 4000000000
not_too_long archive e = grind (arith, nat_tests)

abbrev fewest_points : List Archive → List ℕ
fewest_points archives = map (λ (pair : Archive × Archive). pair.1.step / pair.0.step) (neighbours archives) ++ 1 ∷ []

length-fewest_points : (archives : List Archive) → 1 ≤ length archives → length (fewest_points archives) ≡ length archives
length-fewest_points archives some =
    let front : List ℕ = map (λ (pair : Archive × Archive). pair.1.step / pair.0.step) (neighbours archives) in
    let as_pairs : length front ≡ length (neighbours archives) = length-map (neighbours archives) (λ (pair : Archive × Archive). pair.1.step / pair.0.step) in
    omega (arith, length-append front (1 ∷ []), as_pairs, length-zip archives (drop 1 archives), length-drop 1 archives)

archive_has_points : (archives : List Archive) (i : ℕ) (d : Archive) → position has_too_few_points (with_fewest_points archives) ≡ None → i < length archives → 1 ≤ (get_or archives i d).points
archive_has_points archives i d covers within =
    let same = length-fewest_points archives (omega arith) in
    let both = length-zip archives (fewest_points archives) in
    let pair : get_or (with_fewest_points archives) i (d, 0) ≡ (get_or archives i d, get_or (fewest_points archives) i 0) = get_or-zip archives (fewest_points archives) i (d, 0) within (omega arith) in
    some_points (get_or archives i d, get_or (fewest_points archives) i 0)
    (ap has_too_few_points (sym pair) ∙ none_passes has_too_few_points (with_fewest_points archives) (d, 0) covers i (omega arith))

-- the ranges of an archive's numbers
pub archive_bounds : (archives : List Archive) (factor i : ℕ) (d : Archive) → layout_fault archives factor ≡ None → i < length archives
    → (1 ≤ (get_or archives i d).step) × ((get_or archives i d).step ≤ 31536000) × (1 ≤ (get_or archives i d).points) × ((get_or archives i d).points ≤ 4000000) × (retention_of (get_or archives i d) ≤ 4000000000)
archive_bounds archives factor i d e within =
    let rules = lawful_rules archives factor e in
    let counts = lawful_count archives factor e in
    let steps = good_step (get_or archives i d) (none_passes has_bad_step archives d rules.steps i within) in
    (steps.0, steps.1, archive_has_points archives i d rules.covers within, omega (arith, points_within archives i d within, counts.2), not_too_long (get_or archives i d) (none_passes is_too_long archives d rules.short i within))
