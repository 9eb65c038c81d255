-- Lists of series that may be evaluated.
use Rattle.std.proofs.Common.{◌*◌, ◌≤◌, List, [], ◌∷◌, All, length, arith}
use Rattle.std.proofs.lemmas.List.{length-append}
use Rattle.std.proofs.lemmas.List.Elements.{All-append, All-head, All-nil, All-tail}
use Rattle.series_set.specs.Series.{SeriesValue}
use Rattle.render_need.specs.Rows.{AreRows, IsEarly, Rows, concat, latest_row_end}

abbrev IsShort : List SeriesValue → Type 0
IsShort set = (length set ≤ 100) × All (IsEarly latest_row_end) set

few_in : (rows : Rows) → All IsShort rows → length (concat rows) ≤ 100 * length rows
few_in [] short = omega arith
few_in (row ∷ rows) short =
    let long = length-append row (concat rows) in
    let first = All-head IsShort row rows short in
    let others = few_in rows (All-tail IsShort row rows short) in
    omega (arith, long, first.0, others)

early_in : (rows : Rows) → All IsShort rows → All (IsEarly latest_row_end) (concat rows)
early_in [] short = All-nil (IsEarly latest_row_end)
early_in (row ∷ rows) short =
    let first = All-head IsShort row rows short in
    All-append (IsEarly latest_row_end) row (concat rows) first.1 (early_in rows (All-tail IsShort row rows short))

-- a hundred lists of a hundred series at most
pub short_rows : (rows : Rows) → length rows ≤ 100 → All (λ set. (length set ≤ 100) × All (IsEarly latest_row_end) set) rows → AreRows rows
short_rows rows count short =
    let few = few_in rows short in
    record { few = omega (arith, few, count); early = early_in rows short }
