use Rattle.found_rows.proofs.CountLemmas.{one_found, one_point_count, one_series_count}
use Rattle.found_rows.proofs.laws.what_needs_find_is_one_list.Goals as goal

pub returns-clause-found : goal.returns-clause-found
returns-clause-found c = one_found

pub returns-clause-series : goal.returns-clause-series
returns-clause-series c = one_series_count

pub returns-clause-points : goal.returns-clause-points
returns-clause-points c = one_point_count
