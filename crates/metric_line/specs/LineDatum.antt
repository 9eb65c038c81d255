-- The point of a metric line, or the reason why it has none.
use Rattle.std.specs.Prelude.{ℕ, List, [], ◌∷◌, Result, Ok, Err}
use Rattle.fixed_num.specs.Read.{milli_result}
use Rattle.metric_path.specs.Path.{legal_path}
use Rattle.metric_line.specs.declared.fault.LineFault.{LineFault}
use Rattle.metric_line.specs.declared.fault.LineFault.TheVariants.{Fields, Path, Value, Time}
use Rattle.metric_line.specs.LineFields.{capped_count, fields_of}
use Rattle.metric_line.specs.Point.{Point}
use Rattle.metric_line.specs.Stamp.{stamp_of}

-- what follows where a part is read, and the line's fault where it is not
abbrev pub where_read : {T E U : Type 0} → Result T E → (E → LineFault) → (T → Result U LineFault) → Result U LineFault
where_read (Ok part) fault next = next part
where_read (Err e) fault next = Err (fault e)

-- the point of three fields, or the first fault in the order path, value, time
unfoldable pub point_result : List ℕ → List ℕ → List ℕ → ℕ → Result Point LineFault
point_result path value time now =
    where_read (legal_path path) (λ fault. Path fault) (λ p.
    where_read (milli_result value) (λ fault. Value fault) (λ v.
    where_read (stamp_of time now) (λ fault. Time fault) (λ t.
    Ok (record { path = p; time = t; value = v }))))

-- the point of a line's fields, of which there are to be three
unfoldable pub point_of_fields : List (List ℕ) → ℕ → Result Point LineFault
point_of_fields (path ∷ value ∷ time ∷ []) now = point_result path value time now
point_of_fields fields now = Err (Fields (capped_count fields))

-- The point of a metric line of Graphite's plaintext protocol, read at the moment `now`, or the first reason why it has none in
-- the order fields, path, value, time.
abbrev pub datum_of : List ℕ → ℕ → Result Point LineFault
datum_of line now = point_of_fields (fields_of line) now
