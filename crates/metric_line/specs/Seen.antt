-- The point that a datum is seen as.
use Rattle.metric_line.specs.declared.datum.Datum.{Datum}
use Rattle.metric_line.specs.Point.{Point}

abbrev pub seen : Datum → Point
seen datum = record { path = datum.path; time = datum.time; value = datum.value }
