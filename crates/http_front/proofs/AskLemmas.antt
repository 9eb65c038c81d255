-- What comes of one request.
use Rattle.std.proofs.Common.{◌≡◌, ◌≤◌, inl, inr, ℕ, true, List, [], Option, Result, Ok, Err, IfOk, OnErr, append-nil, arith}
use Rattle.std.proofs.lemmas.Bool.Decides.{nat_tests}
use Rattle.fixed_num.specs.Moment.{is_moment}
use Rattle.outside_io.specs.Image.{Image}
use Rattle.carbon_model.specs.State.{State}
use Rattle.shared_history.specs.Parts.{PassValue}
use Rattle.shared_store.specs.Asks.{Asks, AsksPart, AsksPartly, AsksTo}
use Rattle.shared_store.specs.declared.ask_fault.AskFault.{AskFault}
use Rattle.shared_store.specs.declared.ask_fault.AskFault.TheVariants as ask
use Rattle.render_plan.specs.Needed.{needs_of}
use Rattle.render_plan.specs.Planned.{Plan}
use Rattle.render_plan.specs.Values.{Rows}
use Rattle.render_need.specs.declared.need.Need.{Need}
use Rattle.render_answer.specs.Answer.{AnswersPlan, AnswersRows}
use Rattle.render_answer.specs.Rows.{HasRows}
use Rattle.render_answer.specs.declared.answer.Answer.{Answer as QueryAnswer}
use Rattle.render_answer.specs.declared.answer.Answer.TheVariants.{Body, Refused}
use Rattle.render_answer.specs.declared.refusal.Refusal.TheVariants.{Query, TooManySeries, TooManyPoints, StepTooWide, GridTooLong}
use Rattle.http_front.specs.Found.{IsFound, IsNoFault}
use Rattle.http_front.specs.Origin.{Origin, SamePass}
use Rattle.http_front.specs.Requests.{ComesOfPlan, ShortOfPlan}
use Rattle.http_front.specs.declared.outcome.Outcome.{Outcome}

-- a moment is less than 2^32
pub moment_fits : (now : ℕ) → is_moment now ≡ true → now ≤ 4000000000
moment_fits now moment = grind (arith, nat_tests)

-- what follows from a result that is passed on
pub ok_so : {T E : Type 0} (r : Result T E) (first second : T → Type 0) → ((x : T) → first x → second x) → IfOk r first → IfOk r second
ok_so (Ok x) first second so holds = so x holds
ok_so (Err e) first second so holds = tt

pub err_so : {T E : Type 0} (r : Result T E) (first second : Type 0) → (first → second) → OnErr r first → OnErr r second
err_so (Ok x) first second so holds = tt
err_so (Err e) first second so holds = so holds

-- ---- a plan

-- what rows make an answer of is what the state answers
answers_plan : (told : ℕ → Option Image) (s : State) (now : ℕ) (plan : Plan) (rows : Rows) (answer : QueryAnswer) → HasRows told s now (needs_of plan) rows → AnswersRows plan rows answer
    → AnswersPlan told s now plan answer
answers_plan told s now plan rows (Body form text) has answers = record { rows = rows; has = has; answers = answers }
answers_plan told s now plan rows (Refused (StepTooWide step)) has answers = record { rows = rows; has = has; answers = answers }
answers_plan told s now plan rows (Refused (GridTooLong count)) has answers = record { rows = rows; has = has; answers = answers }
answers_plan told s now plan rows (Refused (Query fault)) has answers = absurd answers
answers_plan told s now plan rows (Refused (TooManySeries count)) has answers = absurd answers
answers_plan told s now plan rows (Refused (TooManyPoints count)) has answers = absurd answers

-- what holds of the state at a question's last try, and so also this
asks_so : (start : State) (passes now : ℕ) (needs : List Need) (old new : PassValue) (first second : State → Type 0) → ((s : State) → first s → second s)
    → AsksTo start passes now needs old new first → AsksTo start passes now needs old new second
asks_so start passes now needs old new first second so asks = record {
  again = asks.again;
  few = asks.few;
  enters = asks.enters;
  tries = asks.tries;
  answer = so _ asks.answer;
}

-- a question whose answer is not told
asks_part : (start : State) (passes now : ℕ) (needs : List Need) (old new : PassValue) (answers : State → Type 0) → AsksTo start passes now needs old new answers → AsksPart start passes now needs old new
asks_part start passes now needs old new answers asks = record {
  again = asks.again;
  few = asks.few;
  enters = asks.enters;
  tried = new.seen;
  tries = asks.tries;
  begins = ([], append-nil new.seen);
}

pub comes_of_plan : (w : Origin) (now : ℕ) (plan : Plan) (found : Result Rows AskFault) (outcome : Outcome) (old new : PassValue) → Asks w.start w.told w.passes now (needs_of plan) found old new
    → IsFound plan found outcome → ComesOfPlan w now plan outcome old new
comes_of_plan w now plan (Ok rows) outcome old new asks found = inl (record {
  answer = found.0;
  is = found.1.1;
  asks = asks_so w.start w.passes now (needs_of plan) old new (λ s. HasRows w.told s now (needs_of plan) rows) (λ s. AnswersPlan w.told s now plan found.0)
      (λ s has. answers_plan w.told s now plan rows found.0 has found.1.0) asks;
})
comes_of_plan w now plan (Err (ask.TooManySeries count)) outcome old new asks found = inl (record { answer = Refused (TooManySeries count); is = found; asks = asks })
comes_of_plan w now plan (Err (ask.TooManyPoints count)) outcome old new asks found = inl (record { answer = Refused (TooManyPoints count); is = found; asks = asks })
comes_of_plan w now plan (Err (ask.DiskFault class)) outcome old new asks found = inr (record { class = class; is = found; asks = asks })
comes_of_plan w now plan (Err ask.NoMemory) outcome old new asks found = absurd found

pub short_of_plan : (w : Origin) (now : ℕ) (plan : Plan) (found : Result Rows AskFault) (old new : PassValue) → Asks w.start w.told w.passes now (needs_of plan) found old new
    → IsNoFault found → ShortOfPlan w now plan old new
short_of_plan w now plan (Ok rows) old new asks none = inr (asks_part w.start w.passes now (needs_of plan) old new _ asks)
short_of_plan w now plan (Err (ask.TooManySeries count)) old new asks none = inr (asks_part w.start w.passes now (needs_of plan) old new _ asks)
short_of_plan w now plan (Err (ask.TooManyPoints count)) old new asks none = inr (asks_part w.start w.passes now (needs_of plan) old new _ asks)
short_of_plan w now plan (Err (ask.DiskFault class)) old new asks none = absurd none
short_of_plan w now plan (Err ask.NoMemory) old new asks none = asks

-- a question is one of the same pass
part_same : (start : State) (passes now : ℕ) (needs : List Need) (old new : PassValue) → AsksPartly start passes now needs old new → SamePass old new
part_same start passes now needs old new (inl enters) = record { table = enters.table; number = enters.number }
part_same start passes now needs old new (inr part) = record { table = part.enters.table; number = part.enters.number }

pub same_pass : (start : State) (told : ℕ → Option Image) (passes now : ℕ) (needs : List Need) (found : Result Rows AskFault) (old new : PassValue) → Asks start told passes now needs found old new → SamePass old new
same_pass start told passes now needs (Ok rows) old new asks = record { table = asks.enters.table; number = asks.enters.number }
same_pass start told passes now needs (Err (ask.TooManySeries count)) old new asks = record { table = asks.enters.table; number = asks.enters.number }
same_pass start told passes now needs (Err (ask.TooManyPoints count)) old new asks = record { table = asks.enters.table; number = asks.enters.number }
same_pass start told passes now needs (Err (ask.DiskFault class)) old new asks = record { table = asks.enters.table; number = asks.enters.number }
same_pass start told passes now needs (Err ask.NoMemory) old new asks = part_same start passes now needs old new asks
