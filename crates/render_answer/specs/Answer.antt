-- The answer to a query of the render API, and its text.
use Rattle.std.specs.Prelude.{◌≡◌, ℕ, List, [], ◌++◌, codes, decimal, Option, Ok, Err}
use Rattle.outside_io.specs.Image.{Image}
use Rattle.carbon_model.specs.State.{State}
use Rattle.series_set.specs.Series.{SeriesValue}
use Rattle.series_set.specs.declared.grid.EvalFault.TheVariants as eval
use Rattle.render_json.specs.Csv.{csv_of}
use Rattle.render_json.specs.Json.{json_of}
use Rattle.render_json.specs.Raw.{raw_of}
use Rattle.render_plan.specs.declared.fault.QueryFault.{QueryFault}
use Rattle.render_plan.specs.declared.fault.QueryFault.TheVariants as query
use Rattle.render_plan.specs.declared.fault.TargetCause.{TargetCause}
use Rattle.render_plan.specs.declared.fault.TargetCause.TheVariants as cause
use Rattle.render_plan.specs.declared.settings.Format.{Format}
use Rattle.render_plan.specs.declared.settings.Format.TheVariants as format
use Rattle.render_plan.specs.Needed.{needs_of}
use Rattle.render_plan.specs.Planned.{Plan}
use Rattle.render_plan.specs.Values.{Answers, Rows}
use Rattle.render_answer.specs.declared.answer.Answer.{Answer}
use Rattle.render_answer.specs.declared.answer.Answer.TheVariants.{Body, Refused}
use Rattle.render_answer.specs.declared.refusal.Refusal.{Refusal}
use Rattle.render_answer.specs.declared.refusal.Refusal.TheVariants.{Query, TooManySeries, TooManyPoints, StepTooWide, GridTooLong}
use Rattle.found_rows.specs.Rows.{HasRows, HasTooManyPoints, HasTooManySeries}

-- ---- texts

-- series in a form
abbrev pub body_of : Format → List SeriesValue → List ℕ
body_of format.Json set = json_of set
body_of format.Raw set = raw_of set
body_of format.Csv set = csv_of set

-- the word of a cause; behind the first of them stands a place
unfoldable pub cause_word : TargetCause → List ℕ
cause_word (cause.At place) = codes "unreadable at "
cause_word cause.TooDeep = codes "too deep"
cause_word cause.TooLong = codes "too long"

abbrev pub cause_text : TargetCause → List ℕ
cause_text (cause.At place) = cause_word (cause.At place) ++ decimal place
cause_text cause.TooDeep = cause_word cause.TooDeep
cause_text cause.TooLong = cause_word cause.TooLong

-- what is said of the target with a number
unfoldable pub target_word : List ℕ
target_word = codes "target "

unfoldable pub target_end : List ℕ
target_end = codes ": "

abbrev pub target_text : ℕ → List ℕ → List ℕ
target_text n what = target_word ++ (decimal n ++ (target_end ++ what))

-- the word of a fault; that of a target's fault stands behind the target's number
unfoldable pub fault_word : QueryFault → List ℕ
fault_word query.NoTarget = codes "no target"
fault_word query.TooManyTargets = codes "too many targets"
fault_word (query.Target n why) = []
fault_word (query.UnknownFunction n) = codes "unknown function"
fault_word (query.BadArgument n) = codes "bad argument"
fault_word query.BadTime = codes "bad time"
fault_word query.BadRange = codes "from after until"
fault_word query.BadFormat = codes "bad format"
fault_word query.BadPoints = codes "bad maxDataPoints"
fault_word query.NoMemory = codes "no memory"

abbrev pub fault_text : QueryFault → List ℕ
fault_text query.NoTarget = fault_word query.NoTarget
fault_text query.TooManyTargets = fault_word query.TooManyTargets
fault_text (query.Target n why) = target_text n (cause_text why)
fault_text (query.UnknownFunction n) = target_text n (fault_word (query.UnknownFunction n))
fault_text (query.BadArgument n) = target_text n (fault_word (query.BadArgument n))
fault_text query.BadTime = fault_word query.BadTime
fault_text query.BadRange = fault_word query.BadRange
fault_text query.BadFormat = fault_word query.BadFormat
fault_text query.BadPoints = fault_word query.BadPoints
fault_text query.NoMemory = fault_word query.NoMemory

-- the word of a number that is too great
unfoldable pub excess_word : Refusal → List ℕ
excess_word (Query fault) = []
excess_word (TooManySeries count) = codes "too many series: "
excess_word (TooManyPoints count) = codes "too many points: "
excess_word (StepTooWide step) = codes "step too wide: "
excess_word (GridTooLong count) = codes "grid too long: "

-- why a query is answered without series, in words
abbrev pub refusal_text : Refusal → List ℕ
refusal_text (Query fault) = fault_text fault
refusal_text (TooManySeries count) = excess_word (TooManySeries count) ++ decimal count
refusal_text (TooManyPoints count) = excess_word (TooManyPoints count) ++ decimal count
refusal_text (StepTooWide step) = excess_word (StepTooWide step) ++ decimal step
refusal_text (GridTooLong count) = excess_word (GridTooLong count) ++ decimal count

-- ---- answers

-- what a plan makes of its rows: series in its form, or why they have no value together
abbrev pub AnswersRows : Plan → Rows → Answer → Type 0
AnswersRows plan rows (Body form text) =
    (form ≡ plan.format) × (set : List SeriesValue) × (Answers plan rows (Ok set) × (text ≡ body_of plan.format set))
AnswersRows plan rows (Refused (StepTooWide step)) = Answers plan rows (Err (eval.StepTooWide step))
AnswersRows plan rows (Refused (GridTooLong count)) = Answers plan rows (Err (eval.TooLong count))
AnswersRows plan rows (Refused (Query fault)) = ⊥
AnswersRows plan rows (Refused (TooManySeries count)) = ⊥
AnswersRows plan rows (Refused (TooManyPoints count)) = ⊥

-- the same of the rows that a state has
pub record AnswersState (told : ℕ → Option Image) (s : State) (now : ℕ) (plan : Plan) (answer : Answer) : Type 0 where
  pub rows : Rows
  pub has : HasRows told s now (needs_of plan) rows
  pub answers : AnswersRows plan rows answer

-- what a state answers to a plan: too much is refused before anything is made of the rows
abbrev pub AnswersPlan : (ℕ → Option Image) → State → ℕ → Plan → Answer → Type 0
AnswersPlan told s now plan (Refused (TooManySeries count)) = HasTooManySeries s now (needs_of plan) count
AnswersPlan told s now plan (Refused (TooManyPoints count)) = HasTooManyPoints s now (needs_of plan) count
AnswersPlan told s now plan (Refused (Query fault)) = ⊥
AnswersPlan told s now plan (Refused (StepTooWide step)) = AnswersState told s now plan (Refused (StepTooWide step))
AnswersPlan told s now plan (Refused (GridTooLong count)) = AnswersState told s now plan (Refused (GridTooLong count))
AnswersPlan told s now plan (Body form text) = AnswersState told s now plan (Body form text)
