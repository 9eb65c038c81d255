-- The point of a line by its fields.
use Rattle.std.proofs.Common.{◌≡◌, ◌≢◌, ℕ, List, [], ◌∷◌, length, Err, refl, sym, ap, ◌∙◌}
use Rattle.metric_line.specs.declared.fault.LineFault.TheVariants.{Fields}
use Rattle.metric_line.specs.LineFields.{capped_count, fields_of}
use Rattle.metric_line.specs.LineDatum.{datum_of, point_of_fields, point_result}

three_fields_point : (path value time : List ℕ) (now : ℕ) → point_of_fields (path ∷ value ∷ time ∷ []) now ≡ point_result path value time now
unfolding point_of_fields
three_fields_point path value time now = refl

-- the point of a line with three fields
pub datum_of_three : (line path value time : List ℕ) (now : ℕ) → fields_of line ≡ path ∷ value ∷ time ∷ [] → datum_of line now ≡ point_result path value time now
datum_of_three line path value time now e = ap (λ (fields : List (List ℕ)). point_of_fields fields now) e ∙ three_fields_point path value time now

other_fields : (fields : List (List ℕ)) (now : ℕ) → length fields ≢ 3 → point_of_fields fields now ≡ Err (Fields (capped_count fields))
unfolding point_of_fields
other_fields [] now other = refl
other_fields (a ∷ []) now other = refl
other_fields (a ∷ b ∷ []) now other = refl
other_fields (a ∷ b ∷ c ∷ []) now other = absurd (other refl)
other_fields (a ∷ b ∷ c ∷ d ∷ more) now other = refl

-- the fault of a line with another count of fields
pub datum_of_others : (line : List ℕ) (count now : ℕ) → length (fields_of line) ≢ 3 → count ≡ capped_count (fields_of line) → datum_of line now ≡ Err (Fields count)
datum_of_others line count now other e = other_fields (fields_of line) now other ∙ ap (λ (n : ℕ). Err (Fields n)) (sym e)
