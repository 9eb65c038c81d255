use Rattle.render_plan.specs.Needed.{needs_of}
use Rattle.answer_law.proofs.AnswerLemmas.{many_points_alone, many_series_alone, plan_answer_once, told_all}
use Rattle.answer_law.proofs.laws.a_state_leaves_one_answer.Goals as goal

pub returns-clause-one : goal.returns-clause-one
returns-clause-one c = λ told s now plan a b tells.
    let needs = needs_of plan in
    let one = c.what_needs_find_is_one_list.ensures in
    let ends = c.queries_end_in_one_way.ensures in
    plan_answer_once told s now plan (one.series s now needs) (one.points s now needs) (ends.counts s now needs) (ends.series told s now needs) (ends.points told s now needs) tells a b

pub returns-clause-all : goal.returns-clause-all
returns-clause-all c = λ told s now plan a b all. returns-clause-one c told s now plan a b (told_all told s now (needs_of plan) all)

pub returns-clause-series : goal.returns-clause-series
returns-clause-series c = λ told s now plan count b.
    let needs = needs_of plan in
    let one = c.what_needs_find_is_one_list.ensures in
    let ends = c.queries_end_in_one_way.ensures in
    many_series_alone told s now plan (one.series s now needs) (one.points s now needs) (ends.counts s now needs) (ends.series told s now needs) (ends.points told s now needs) count b

pub returns-clause-points : goal.returns-clause-points
returns-clause-points c = λ told s now plan count b.
    let needs = needs_of plan in
    let one = c.what_needs_find_is_one_list.ensures in
    let ends = c.queries_end_in_one_way.ensures in
    many_points_alone told s now plan (one.series s now needs) (one.points s now needs) (ends.counts s now needs) (ends.series told s now needs) (ends.points told s now needs) count b
