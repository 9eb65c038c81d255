-- A plan has one answer.
use Rattle.std.proofs.Common.{◌≡◌, ◌⊎◌, ◌∙◌, ◌<◌, inl, inr, ℕ, List, Option, Result, Ok, Err, arith, mod-lt, refl, sym, ap, subst}
use Rattle.outside_io.specs.Image.{Image}
use Rattle.metric_path.specs.Class.{class_of, fnv1a}
use Rattle.carbon_model.specs.State.{State}
use Rattle.series_set.specs.Series.{SeriesValue}
use Rattle.series_set.specs.declared.grid.EvalFault.{EvalFault}
use Rattle.series_set.specs.declared.grid.EvalFault.TheVariants as eval
use Rattle.render_plan.specs.Needed.{needs_of}
use Rattle.render_plan.specs.Planned.{Plan}
use Rattle.render_plan.specs.Values.{Answers, Rows}
use Rattle.render_need.specs.declared.need.Need.{Need}
use Rattle.found_rows.specs.Rows.{HasRows, HasTooManyPoints, HasTooManySeries}
use Rattle.render_answer.specs.declared.answer.Answer.{Answer}
use Rattle.render_answer.specs.declared.answer.Answer.TheVariants.{Body, Refused}
use Rattle.render_answer.specs.declared.refusal.Refusal.TheVariants.{Query, TooManySeries, TooManyPoints, StepTooWide, GridTooLong}
use Rattle.render_answer.specs.Answer.{AnswersPlan, AnswersRows, AnswersState, body_of}
use Rattle.answer_law.specs.Told.{AllTold, AreTold}
use Rattle.answer_law.proofs.RowLemmas.{rows_once}
use Rattle.answer_law.proofs.ValueLemmas.{answer_once}

-- ---- of rows

-- the answer that tells a value (no plan has want of memory for its value's answer)
abbrev told_answer : Plan → Result (List SeriesValue) EvalFault → Answer
told_answer plan (Ok set) = Body plan.format (body_of plan.format set)
told_answer plan (Err (eval.StepTooWide step)) = Refused (StepTooWide step)
told_answer plan (Err (eval.TooLong count)) = Refused (GridTooLong count)
told_answer plan (Err eval.NoMemory) = Refused (GridTooLong 0)

-- an answer tells the value that the plan makes of the rows
record Tells (plan : Plan) (rows : Rows) (answer : Answer) : Type 0 where
  value : Result (List SeriesValue) EvalFault
  answers : Answers plan rows value
  same : answer ≡ told_answer plan value

tells_value : (plan : Plan) (rows : Rows) (answer : Answer) → AnswersRows plan rows answer → Tells plan rows answer
tells_value plan rows (Body form text) one = record {
  value = Ok one.1;
  answers = one.2.0;
  same = λ i. Body (one.0 i) (one.2.1 i);
}
tells_value plan rows (Refused (StepTooWide step)) one = record { value = Err (eval.StepTooWide step); answers = one; same = refl }
tells_value plan rows (Refused (GridTooLong count)) one = record { value = Err (eval.TooLong count); answers = one; same = refl }
tells_value plan rows (Refused (Query fault)) one = absurd one
tells_value plan rows (Refused (TooManySeries count)) one = absurd one
tells_value plan rows (Refused (TooManyPoints count)) one = absurd one

pub rows_answer_once : (plan : Plan) (rows : Rows) (a b : Answer) → AnswersRows plan rows a → AnswersRows plan rows b → a ≡ b
rows_answer_once plan rows a b one other =
    let x = tells_value plan rows a one in
    let y = tells_value plan rows b other in
    x.same ∙ (ap (told_answer plan) (answer_once plan rows x.value y.value x.answers y.answers) ∙ sym y.same)

-- ---- of a state

few_classes : (path : List ℕ) → class_of path < 16
few_classes path = mod-lt (fnv1a path) (omega arith)

pub told_all : (told : ℕ → Option Image) (s : State) (now : ℕ) (needs : List Need) → AllTold told → AreTold told s now needs
told_all told s now needs all path found = inl (all (class_of path) (few_classes path))

module _ (told : ℕ → Option Image) (s : State) (now : ℕ) (plan : Plan) where
  -- too many series or values of this number are found
  record IsSeries (answer : Answer) : Type 0 where
    count : ℕ
    many : HasTooManySeries s now (needs_of plan) count
    same : answer ≡ Refused (TooManySeries count)

  record IsPoints (answer : Answer) : Type 0 where
    count : ℕ
    many : HasTooManyPoints s now (needs_of plan) count
    same : answer ≡ Refused (TooManyPoints count)

  which : (answer : Answer) → AnswersPlan told s now plan answer → IsSeries answer ⊎ (IsPoints answer ⊎ AnswersState told s now plan answer)
  which (Body form text) is = inr (inr is)
  which (Refused (StepTooWide step)) is = inr (inr is)
  which (Refused (GridTooLong count)) is = inr (inr is)
  which (Refused (Query fault)) is = absurd is
  which (Refused (TooManySeries count)) is = inl (record { count = count; many = is; same = refl })
  which (Refused (TooManyPoints count)) is = inr (inl (record { count = count; many = is; same = refl }))

  state_answer_once : AreTold told s now (needs_of plan) → (a b : Answer) → AnswersState told s now plan a → AnswersState told s now plan b → a ≡ b
  state_answer_once tells a b one other =
      let same : other.rows ≡ one.rows = rows_once told s now (needs_of plan) tells other.rows one.rows other.has one.has in
      rows_answer_once plan one.rows a b one.answers (subst (λ (rows : Rows). AnswersRows plan rows b) same other.answers)

  -- what is known of counts
  module _
      (series_once : (a b : ℕ) → HasTooManySeries s now (needs_of plan) a → HasTooManySeries s now (needs_of plan) b → a ≡ b)
      (points_once : (a b : ℕ) → HasTooManyPoints s now (needs_of plan) a → HasTooManyPoints s now (needs_of plan) b → a ≡ b)
      (apart : (a b : ℕ) → HasTooManySeries s now (needs_of plan) a → HasTooManyPoints s now (needs_of plan) b → ⊥)
      (few_series : (rows : Rows) (count : ℕ) → HasRows told s now (needs_of plan) rows → HasTooManySeries s now (needs_of plan) count → ⊥)
      (few_points : (rows : Rows) (count : ℕ) → HasRows told s now (needs_of plan) rows → HasTooManyPoints s now (needs_of plan) count → ⊥) where
    pub many_series_alone : (count : ℕ) (b : Answer) → HasTooManySeries s now (needs_of plan) count → AnswersPlan told s now plan b → Refused (TooManySeries count) ≡ b
    many_series_alone count b many other = by (which b other)
      where
        by : IsSeries b ⊎ (IsPoints b ⊎ AnswersState told s now plan b) → Refused (TooManySeries count) ≡ b
        by (inl is) = ap (λ n. Refused (TooManySeries n)) (series_once count is.count many is.many) ∙ sym is.same
        by (inr (inl is)) = absurd (apart count is.count many is.many)
        by (inr (inr is)) = absurd (few_series is.rows count is.has many)

    pub many_points_alone : (count : ℕ) (b : Answer) → HasTooManyPoints s now (needs_of plan) count → AnswersPlan told s now plan b → Refused (TooManyPoints count) ≡ b
    many_points_alone count b many other = by (which b other)
      where
        by : IsSeries b ⊎ (IsPoints b ⊎ AnswersState told s now plan b) → Refused (TooManyPoints count) ≡ b
        by (inl is) = absurd (apart is.count count is.many many)
        by (inr (inl is)) = ap (λ n. Refused (TooManyPoints n)) (points_once count is.count many is.many) ∙ sym is.same
        by (inr (inr is)) = absurd (few_points is.rows count is.has many)

    pub plan_answer_once : AreTold told s now (needs_of plan) → (a b : Answer) → AnswersPlan told s now plan a → AnswersPlan told s now plan b → a ≡ b
    plan_answer_once tells a b one other = by (which a one) (which b other)
      where
        by : IsSeries a ⊎ (IsPoints a ⊎ AnswersState told s now plan a) → IsSeries b ⊎ (IsPoints b ⊎ AnswersState told s now plan b) → a ≡ b
        by (inl is) whatever = is.same ∙ many_series_alone is.count b is.many other
        by (inr (inl is)) whatever = is.same ∙ many_points_alone is.count b is.many other
        by (inr (inr is)) (inl also) = sym (also.same ∙ many_series_alone also.count a also.many one)
        by (inr (inr is)) (inr (inl also)) = sym (also.same ∙ many_points_alone also.count a also.many one)
        by (inr (inr is)) (inr (inr also)) = state_answer_once tells a b is also
