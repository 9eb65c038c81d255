use Rattle.found_rows.proofs.CountLemmas.{counts_apart, rows_have_few_points, rows_have_few_series}
use Rattle.found_rows.proofs.laws.queries_end_in_one_way.Goals as goal

pub returns-clause-counts : goal.returns-clause-counts
returns-clause-counts c = counts_apart

pub returns-clause-series : goal.returns-clause-series
returns-clause-series c = rows_have_few_series

pub returns-clause-points : goal.returns-clause-points
returns-clause-points c = rows_have_few_points
