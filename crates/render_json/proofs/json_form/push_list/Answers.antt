use Rattle.std.proofs.Common.{ℕ, List, ◌++◌, ap, codes, ◌∙◌}
use Rattle.render_json.specs.Json.{series_json}
use Rattle.render_json.proofs.JoinLemmas.{has_begun, joined_more}
use Rattle.render_json.proofs.json_form.push_list.Goals as goal

pub loop-series-preserved : goal.loop-series-preserved
loop-series-preserved c =
    let so_far = c.loop-series.invariant in (
      c.in_ok-push_series.ensures ∙ ap (λ (o : List ℕ). o ++ series_json c.in-Some.series) c.in_ok-push_separator.ensures
          ∙ joined_more (codes ", ") c.args.out.now.items c.loop-series.out.items series_json c.loop-series.yielded c.in-Some.series c.loop-series.is_first so_far.0 so_far.1,
      has_begun c.loop-series.yielded c.in-Some.series,
    )
