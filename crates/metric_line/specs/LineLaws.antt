-- What holds of every metric line.
use Rattle.std.specs.Prelude.{◌≡◌, ◌≢◌, ℕ, List, Some, Ok, Err, slice_get, codes}
use Rattle.metric_path.specs.declared.path.PathFault.TheVariants.{NoMemory as PathNoMemory}
use Rattle.metric_line.specs.declared.fault.LineFault.{LineFault}
use Rattle.metric_line.specs.declared.fault.LineFault.TheVariants.{NoMemory, Path}
use Rattle.metric_line.specs.LineDatum.{datum_of}
use Rattle.metric_line.specs.LineFields.{fields_of}
use Rattle.metric_line.specs.Point.{Point}

-- whether the time of a line is that of its reading
abbrev pub IsStampedOnReading : List ℕ → Type 0
IsStampedOnReading line = slice_get (fields_of line) 2 ≡ Some (codes "-1")

-- a line that is refused at one moment is refused at each, and for the same reason
abbrev pub IsRefusedAlways : Type 0
IsRefusedAlways = (line : List ℕ) (now later : ℕ) (fault : LineFault) → datum_of line now ≡ Err fault → datum_of line later ≡ Err fault

-- a line whose time is not `-1` is the same at each moment
abbrev pub IsReadAlike : Type 0
IsReadAlike = (line : List ℕ) (now later : ℕ) → (IsStampedOnReading line → ⊥) → datum_of line now ≡ datum_of line later

-- the time `-1` is now
abbrev pub IsStampedNow : Type 0
IsStampedNow = (line : List ℕ) (now : ℕ) (point : Point) → IsStampedOnReading line → datum_of line now ≡ Ok point → point.time ≡ now

-- want of memory is no fault of a line
abbrev pub IsNoWantOfMemory : Type 0
IsNoWantOfMemory = (line : List ℕ) (now : ℕ) → (datum_of line now ≢ Err NoMemory) × (datum_of line now ≢ Err (Path PathNoMemory))
