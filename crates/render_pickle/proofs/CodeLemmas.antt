-- What is written for a series more behind others.
use Rattle.std.proofs.Common.{◌≡◌, ◌∙◌, ℕ, List, [], ◌∷◌, ◌++◌, map, sym, ap}
use Rattle.std.proofs.lemmas.List.{append-nil, append_assoc}
use Rattle.series_set.specs.Series.{SeriesValue}
use Rattle.pickle_form.specs.Value.{row}
use Rattle.pickle_form.specs.Pickle.{items_code, value_code}
use Rattle.render_pickle.specs.Reply.{series_value}

pub one_more : (set : List SeriesValue) (s : SeriesValue)
    → items_code (row (map series_value (set ++ s ∷ []))) ≡ items_code (row (map series_value set)) ++ value_code (series_value s)
one_more [] s = append-nil (value_code (series_value s))
one_more (first ∷ set) s =
    ap (λ (l : List ℕ). value_code (series_value first) ++ l) (one_more set s)
    ∙ sym (append_assoc (value_code (series_value first)) (items_code (row (map series_value set))) (value_code (series_value s)))
