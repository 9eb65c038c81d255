use Rattle.std.proofs.Common.{◌∙◌, ℕ, List, ◌++◌, map, sym, ap, append_assoc}
use Rattle.pickle_form.specs.Value.{row}
use Rattle.pickle_form.specs.Pickle.{items_code, value_code}
use Rattle.render_pickle.specs.Reply.{series_value}
use Rattle.render_pickle.proofs.CodeLemmas.{one_more}
use Rattle.render_pickle.proofs.series.push_set.Goals as goal

pub loop-series-preserved : goal.loop-series-preserved
loop-series-preserved c =
    let before = c.args.out.now.items in
    let set = c.loop-series.yielded in
    let code = value_code (series_value c.in-Some.series) in
    c.in_ok-push_series.ensures
    ∙ (ap (λ (o : List ℕ). o ++ code) c.loop-series.invariant
    ∙ (append_assoc before (items_code (row (map series_value set))) code ∙ ap (λ (l : List ℕ). before ++ l) (sym (one_more set c.in-Some.series))))
