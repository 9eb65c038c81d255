-- What comes of a request, and what its question enters.
use Rattle.std.specs.Prelude.{◌≡◌, ◌⊎◌, ℕ, List, [], Result, Ok, Err, if◌then◌else◌}
use Rattle.shared_history.specs.Parts.{PassValue}
use Rattle.shared_store.specs.Asks.{AsksPartly, AsksTo, AsksToFault}
use Rattle.render_plan.specs.Needed.{needs_of}
use Rattle.render_plan.specs.Planned.{Plan, read_plan}
use Rattle.render_plan.specs.declared.fault.QueryFault.{QueryFault}
use Rattle.render_answer.specs.Answer.{AnswersPlan}
use Rattle.render_answer.specs.declared.answer.Answer.{Answer as QueryAnswer}
use Rattle.render_answer.specs.declared.answer.Answer.TheVariants as answered
use Rattle.render_answer.specs.declared.refusal.Refusal.TheVariants.{Query}
use Rattle.http_wire.specs.Requests.{Asked}
use Rattle.http_wire.specs.Routes.{is_post, query_of, route}
use Rattle.http_wire.specs.declared.refusal.Refusal.{Refusal}
use Rattle.http_wire.specs.declared.routing.Endpoint.{Endpoint}
use Rattle.http_wire.specs.declared.routing.Endpoint.TheVariants.{Render, Find, Expand, Index}
use Rattle.find_api.specs.Texts.{IsExpandText, IsFindText}
use Rattle.http_front.specs.Browses.{ComesOfQueries, GivesUpNames, HasNames, IsIndexText, ShortOfQueries}
use Rattle.http_front.specs.Origin.{Caller, Origin, ReadsOnce}
use Rattle.http_front.specs.Outcomes.{outcome_of}
use Rattle.http_front.specs.declared.outcome.Outcome.{Outcome}
use Rattle.http_front.specs.declared.outcome.Outcome.TheVariants.{Refused, DiskFault}

-- ---- render

-- The question of a plan was answered: what came of it is the answer of the state at the question's last try.
pub record HasAnswer (w : Origin) (now : ℕ) (plan : Plan) (outcome : Outcome) (old new : PassValue) : Type 0 where
  pub answer : QueryAnswer
  pub is : outcome ≡ outcome_of answer
  pub asks : AsksTo w.start w.passes now (needs_of plan) old new (λ s. AnswersPlan w.told s now plan answer)

-- Or a disk failed, and its fault was entered.
pub record HasFault (w : Origin) (now : ℕ) (plan : Plan) (outcome : Outcome) (old new : PassValue) : Type 0 where
  pub class : ℕ
  pub is : outcome ≡ DiskFault
  pub asks : AsksToFault w.start w.passes now (needs_of plan) class old new

-- what comes of a plan
abbrev pub ComesOfPlan : Origin → ℕ → Plan → Outcome → PassValue → PassValue → Type 0
ComesOfPlan w now plan outcome old new = HasAnswer w now plan outcome old new ⊎ HasFault w now plan outcome old new

-- of a query that was read so; one that is refused enters nothing
abbrev pub ComesOfRead : Origin → ℕ → Result Plan QueryFault → Outcome → PassValue → PassValue → Type 0
ComesOfRead w now (Ok plan) outcome old new = ComesOfPlan w now plan outcome old new
ComesOfRead w now (Err fault) outcome old new =
    (outcome ≡ outcome_of (answered.Refused (Query fault))) × (new ≡ old)

-- What comes of a query and a form: they are read, and asked, at one moment, for which the clock was read.
pub record ComesOfQuery (w : Origin) (query form : List ℕ) (outcome : Outcome) (old new : Caller) : Type 0 where
  pub now : ℕ
  pub reads : ReadsOnce w now old new
  pub comes : ComesOfRead w now (read_plan query form now) outcome old.pass new.pass

-- ---- all endpoints

-- the form that the body of a POST is; that of a GET says nothing
abbrev pub form_of : Asked → List ℕ
form_of asked = if is_post asked.method then asked.body else []

-- a refusal without words, which enters nothing, and has no moment
abbrev pub IsRefused : Refusal → Outcome → Caller → Caller → Type 0
IsRefused why outcome old new = (outcome ≡ Refused why) × (new ≡ old)

-- what comes of a request that goes there
abbrev pub ComesOfRoute : Origin → Asked → Result Endpoint Refusal → Outcome → Caller → Caller → Type 0
ComesOfRoute w asked (Ok Render) outcome old new =
    ComesOfQuery w (query_of asked.target) (form_of asked) outcome old new
ComesOfRoute w asked (Ok Find) outcome old new =
    ComesOfQueries w IsFindText (query_of asked.target) (form_of asked) outcome old new
ComesOfRoute w asked (Ok Expand) outcome old new =
    ComesOfQueries w IsExpandText (query_of asked.target) (form_of asked) outcome old new
ComesOfRoute w asked (Ok Index) outcome old new = HasNames w IsIndexText outcome old new
ComesOfRoute w asked (Err why) outcome old new = IsRefused why outcome old new

-- what comes of a request
abbrev pub ComesOf : Origin → Asked → Outcome → Caller → Caller → Type 0
ComesOf w asked outcome old new = ComesOfRoute w asked (route asked.method asked.target) outcome old new

-- ---- want of memory

-- A question was given up for want of memory, before its first try or behind the last.
abbrev pub ShortOfPlan : Origin → ℕ → Plan → PassValue → PassValue → Type 0
ShortOfPlan w now plan old new = AsksPartly w.start w.passes now (needs_of plan) old new

-- the question of a query that can be read
pub record GivesUp (w : Origin) (now : ℕ) (query form : List ℕ) (old new : PassValue) : Type 0 where
  pub plan : Plan
  pub read : read_plan query form now ≡ Ok plan
  pub asks : ShortOfPlan w now plan old new

-- Memory ran out before the query was asked, or in its question, at a moment for which the clock was read.
pub record ShortOfQuery (w : Origin) (query form : List ℕ) (old new : Caller) : Type 0 where
  pub now : ℕ
  pub reads : ReadsOnce w now old new
  pub short : (new.pass ≡ old.pass) ⊎ GivesUp w now query form old.pass new.pass

abbrev pub ShortOfRoute : Origin → Asked → Result Endpoint Refusal → Caller → Caller → Type 0
ShortOfRoute w asked (Ok Render) old new = ShortOfQuery w (query_of asked.target) (form_of asked) old new
ShortOfRoute w asked (Ok Find) old new = ShortOfQueries w (query_of asked.target) (form_of asked) old new
ShortOfRoute w asked (Ok Expand) old new = ShortOfQueries w (query_of asked.target) (form_of asked) old new
ShortOfRoute w asked (Ok Index) old new = GivesUpNames w old new
ShortOfRoute w asked (Err why) old new = new ≡ old

-- Memory ran out at a request before anything came of it.
abbrev pub ShortOf : Origin → Asked → Caller → Caller → Type 0
ShortOf w asked old new = ShortOfRoute w asked (route asked.method asked.target) old new
