-- What comes of what was found for a plan.
use Rattle.std.specs.Prelude.{◌≡◌, Result, Ok, Err, ⊤}
use Rattle.render_plan.specs.Planned.{Plan}
use Rattle.render_plan.specs.Values.{Rows}
use Rattle.render_answer.specs.Answer.{AnswersRows}
use Rattle.render_answer.specs.declared.answer.Answer.{Answer as QueryAnswer}
use Rattle.render_answer.specs.declared.answer.Answer.TheVariants as answered
use Rattle.render_answer.specs.declared.refusal.Refusal.TheVariants as refusal
use Rattle.shared_store.specs.declared.ask_fault.AskFault.{AskFault}
use Rattle.shared_store.specs.declared.ask_fault.AskFault.TheVariants as ask
use Rattle.http_front.specs.Outcomes.{outcome_of}
use Rattle.http_front.specs.declared.outcome.Outcome.{Outcome}
use Rattle.http_front.specs.declared.outcome.Outcome.TheVariants.{DiskFault}

-- rows have the answer that is made of them; want of memory has none
abbrev pub IsFound : Plan → Result Rows AskFault → Outcome → Type 0
IsFound plan (Ok rows) outcome =
    (answer : QueryAnswer) × (AnswersRows plan rows answer × (outcome ≡ outcome_of answer))
IsFound plan (Err (ask.TooManySeries count)) outcome =
    outcome ≡ outcome_of (answered.Refused (refusal.TooManySeries count))
IsFound plan (Err (ask.TooManyPoints count)) outcome =
    outcome ≡ outcome_of (answered.Refused (refusal.TooManyPoints count))
IsFound plan (Err (ask.DiskFault class)) outcome = outcome ≡ DiskFault
IsFound plan (Err ask.NoMemory) outcome = ⊥

-- no disk failed
abbrev pub IsNoFault : Result Rows AskFault → Type 0
IsNoFault (Err (ask.DiskFault class)) = ⊥
IsNoFault found = ⊤
