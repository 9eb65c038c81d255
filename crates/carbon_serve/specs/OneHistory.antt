-- What of a server's links is of its one history.
use Rattle.std.specs.Prelude.{◌≡◌, ◌⊎◌, ℕ, suc, ◌<◌, ◌+◌, All, List, [], ◌∷◌, ◌++◌, Option, Result, Ok, Err}
use Rattle.std.specs.Io.KnownBytes.{Appends, Consumes, IsAtEnd}
use mathlib.Core.List.{IsPrefix}
use Rattle.outside_io.specs.Sink.{AppendsFront}
use Rattle.aggregate_rules.specs.RuleTexts.{RuleValue}
use Rattle.carbon_history.specs.declared.entry.Entry.{Entry}
use Rattle.carbon_history.specs.declared.entry.Entry.TheVariants.{Ask, Fault}
use Rattle.carbon_history.specs.Entries.{of_pass}
use Rattle.carbon_model.specs.Found.{Finds}
use Rattle.carbon_model.specs.Replay.{replay}
use Rattle.shared_history.specs.Parts.{greatest_ask}
use Rattle.shared_store.specs.Asks.{tries_of}
use Rattle.shared_store.specs.Naming.{IsPath}
use Rattle.path_glob.specs.Faults.{Said}
use Rattle.find_api.specs.Queries.{read_queries}
use Rattle.find_api.specs.Texts.{IsExpandText, IsFindText}
use Rattle.find_api.specs.declared.fault.FindFault.{FindFault}
use Rattle.render_plan.specs.Planned.{Plan, read_plan}
use Rattle.render_plan.specs.declared.fault.QueryFault.{QueryFault}
use Rattle.render_answer.specs.Answer.{AnswersPlan}
use Rattle.render_answer.specs.declared.answer.Answer.{Answer as QueryAnswer}
use Rattle.render_answer.specs.declared.answer.Answer.TheVariants as answered
use Rattle.render_answer.specs.declared.refusal.Refusal.TheVariants.{Query}
use Rattle.line_frame.specs.Lines.{Line, lines}
use Rattle.metric_line.specs.Point.{Point}
use Rattle.line_service.specs.Service.{RunsOut}
use Rattle.line_front.specs.Points.{ArePuts, LinesBring, none_gathered, points_of_link, points_put}
use Rattle.line_front.specs.declared.ends.LineCause.{LineCause}
use Rattle.line_front.specs.declared.ends.LineCause.TheVariants as cause
use Rattle.http_wire.specs.Requests.{Asked, Item, Request, Refused}
use Rattle.http_wire.specs.Routes.{query_of, route}
use Rattle.http_wire.specs.declared.refusal.Refusal.{Refusal}
use Rattle.http_wire.specs.declared.reply.MediaType.TheVariants as media
use Rattle.http_wire.specs.declared.routing.Endpoint.{Endpoint}
use Rattle.http_wire.specs.declared.routing.Endpoint.TheVariants.{Render, Find, Expand, Index}
use Rattle.http_front.specs.Browses.{IsIndexText, Tells, fault_text}
use Rattle.http_front.specs.Entries.{IsEntryOf}
use Rattle.http_front.specs.Links.{AreAllOf, AreWholeIn, BeginWith}
use Rattle.http_front.specs.Origin.{Origin}
use Rattle.http_front.specs.Outcomes.{outcome_of, replies_to, reply_to, unavailable_reply}
use Rattle.http_front.specs.Requests.{form_of}
use Rattle.http_front.specs.declared.ends.HttpEnd.{HttpEnd}
use Rattle.http_front.specs.declared.ends.HttpEnd.TheVariants as end
use Rattle.http_front.specs.declared.outcome.Outcome.{Outcome}
use Rattle.http_front.specs.declared.outcome.Outcome.TheVariants as outcome
use Rattle.carbon_serve.specs.Deeds.{HttpLink, LineLink, Telling}

-- ---- passages

-- What a pass had seen of the history, what it entered then, and what it has seen since.
pub record Passage : Type 0 where
  pub before : List Entry
  pub own : List Entry
  pub after : List Entry

-- It stands in the history: what was seen before begins what is seen after it, which begins the history; and meanwhile the pass entered these.
pub record StandsIn (number : ℕ) (history : List Entry) (p : Passage) : Type 0 where
  pub goes_on : IsPrefix p.before p.after
  pub begins : IsPrefix p.after history
  pub once : of_pass number p.after ≡ of_pass number p.before ++ p.own

-- nothing was entered, and nothing more was seen
abbrev pub EntersNothing : Passage → Type 0
EntersNothing p = (p.own ≡ []) × (p.after ≡ p.before)

-- one passage, and another one behind it
pub record Joins (first behind whole : Passage) : Type 0 where
  pub from : first.before ≡ whole.before
  pub mid : behind.before ≡ first.after
  pub to : behind.after ≡ whole.after
  pub own : whole.own ≡ first.own ++ behind.own

-- ---- replies

-- the number of the next question of a pass that has seen this
abbrev pub next_question : ℕ → List Entry → ℕ
next_question number before = greatest_ask (of_pass number before) + 1

-- A plan was asked by a question of the pass, in one to three tries, and is answered by the state behind the last of them, which is the last entry that the
-- pass has seen then.
pub record IsAnswered (w : Origin) (number now : ℕ) (p : Passage) (plan : Plan) (given : Outcome) : Type 0 where
  pub again : ℕ
  pub few : again < 3
  pub tries : p.own ≡ tries_of number (next_question number p.before) now (suc again)
  pub earlier : List Entry
  pub last : p.after ≡ earlier ++ Ask number (next_question number p.before) (suc again) now ∷ []
  pub answer : QueryAnswer
  pub is : given ≡ outcome_of answer
  pub answers : AnswersPlan w.told (replay w.start p.after) now plan answer

-- Or a disk failed behind the last try, and that was entered.
pub record IsFailed (number now : ℕ) (p : Passage) (given : Outcome) : Type 0 where
  pub class : ℕ
  pub again : ℕ
  pub few : again < 3
  pub tries : p.own ≡ tries_of number (next_question number p.before) now (suc again) ++ Fault number class ∷ []
  pub is : given ≡ outcome.DiskFault

-- a query that was read so
abbrev pub IsOfPlan : Origin → ℕ → ℕ → Passage → Result Plan QueryFault → Outcome → Type 0
IsOfPlan w number now p (Ok plan) given = IsAnswered w number now p plan given ⊎ IsFailed number now p given
IsOfPlan w number now p (Err fault) given = (given ≡ outcome_of (answered.Refused (Query fault))) × EntersNothing p

-- A query is read, asked and answered at one moment of the clock.
pub record IsOfQuery (w : Origin) (number : ℕ) (p : Passage) (query form : List ℕ) (given : Outcome) : Type 0 where
  pub now : ℕ
  pub told : w.moments now
  pub comes : IsOfPlan w number now p (read_plan query form now) given

-- Names are those of all metrics in the state behind a question of the pass, the last entry that it has seen then.
pub record IsOfNames (w : Origin) (number : ℕ) (p : Passage) (tells : List (List ℕ) → List ℕ → Type 0) (given : Outcome) : Type 0 where
  pub now : ℕ
  pub told : w.moments now
  pub question : p.own ≡ Ask number (next_question number p.before) 1 now ∷ []
  pub earlier : List Entry
  pub last : p.after ≡ earlier ++ Ask number (next_question number p.before) 1 now ∷ []
  pub names : List (List ℕ)
  pub all : Finds (replay w.start p.after) IsPath names
  pub text : List ℕ
  pub is : given ≡ outcome.Found media.Json text
  pub so : tells names text

-- those that globs find
abbrev pub IsOfGlobs : Origin → ℕ → Passage → Tells → Result (List Said) FindFault → Outcome → Type 0
IsOfGlobs w number p tells (Ok globs) given = IsOfNames w number p (tells globs) given
IsOfGlobs w number p tells (Err why) given = (given ≡ outcome.Unanswerable (fault_text why)) × EntersNothing p

-- a request that goes there
abbrev pub IsOfRoute : Origin → ℕ → Passage → Asked → Result Endpoint Refusal → Outcome → Type 0
IsOfRoute w number p asked (Ok Render) given = IsOfQuery w number p (query_of asked.target) (form_of asked) given
IsOfRoute w number p asked (Ok Find) given = IsOfGlobs w number p IsFindText (read_queries (query_of asked.target) (form_of asked)) given
IsOfRoute w number p asked (Ok Expand) given = IsOfGlobs w number p IsExpandText (read_queries (query_of asked.target) (form_of asked)) given
IsOfRoute w number p asked (Ok Index) given = IsOfNames w number p IsIndexText given
IsOfRoute w number p asked (Err why) given = (given ≡ outcome.Refused why) × EntersNothing p

-- What an item of a link is given, by what the pass enters for it. What is refused enters nothing.
abbrev pub IsOfItem : Origin → ℕ → Passage → Item → Outcome → Type 0
IsOfItem w number p (Request asked) given = IsOfRoute w number p asked (route asked.method asked.target) given
IsOfItem w number p (Refused why) given = (given ≡ outcome.Refused why) × EntersNothing p

-- and what it enters stands in the history
abbrev pub IsOfHistory : Origin → ℕ → List Entry → Item → Outcome → Passage → Type 0
IsOfHistory w number history item given p = StandsIn number history p × IsOfItem w number p item given

-- The same of items one behind the other: each has entries of its own, and has seen all that those before it have.
abbrev pub AreOfHistory : Origin → ℕ → List Entry → List Item → List Outcome → Passage → Type 0
AreOfHistory w number history [] [] p = EntersNothing p
AreOfHistory w number history (item ∷ items) (given ∷ outcomes) p =
    (first : Passage) × (behind : Passage) × (Joins first behind p × (IsOfHistory w number history item given first × AreOfHistory w number history items outcomes behind))
AreOfHistory w number history items outcomes p = ⊥

-- ---- the replies on a link

-- the first items of a link, of which these bytes were taken
abbrev pub AreFirstItems : List ℕ → Option (List ℕ) → List Item → Type 0
AreFirstItems taken left items = (items ≡ []) ⊎ ((more : List Item) × BeginWith taken left (items ++ more))

-- Which items had their replies, by the end of the link: where it is closed or refused all that its bytes come to; at a failed read and at the limit all that
-- are whole in what was taken; else the first ones.
abbrev pub AreReplied : HttpEnd → List ℕ → Option (List ℕ) → List Item → Type 0
AreReplied end.Closed taken left items = AreAllOf taken left items
AreReplied (end.Refused code) taken left items = AreAllOf taken left items
AreReplied end.ReadFault taken left items = AreWholeIn taken items
AreReplied end.LinkLimit taken left items = AreWholeIn taken items
AreReplied end.WriteFault taken left items = AreFirstItems taken left items
AreReplied end.Spent taken left items = AreFirstItems taken left items
AreReplied end.NoMemory taken left items = AreFirstItems taken left items

-- What may stand behind whole replies: nothing; where a write failed, a front of one more reply; where memory ran out, a front of the text that says so, behind
-- a question perhaps that was given up.
abbrev pub IsLastReply : Origin → ℕ → List Entry → List ℕ → Passage → Type 0
IsLastReply w number history text p =
    ((text ≡ []) × EntersNothing p)
    ⊎ (((item : Item) × (given : Outcome) × (IsOfHistory w number history item given p × (text ≡ reply_to item given)))
    ⊎ ((text ≡ unavailable_reply) × StandsIn number history p))

-- What was written to a link of requests that ended so, of which so much was left and written before and after: whole replies, and perhaps a front of another
-- text.
pub record RepliesAreOf (w : Origin) (number : ℕ) (history : List Entry) (reason : HttpEnd) (left left' written written' : Option (List ℕ)) (p : Passage) : Type 0 where
  pub taken : List ℕ
  pub consumed : Consumes left left' taken
  pub items : List Item
  pub are : AreReplied reason taken left' items
  pub outcomes : List Outcome
  pub first : Passage
  pub each : AreOfHistory w number history items outcomes first
  pub mid : Option (List ℕ)
  pub wrote : Appends written mid (replies_to items outcomes)
  pub behind : Passage
  pub joins : Joins first behind p
  pub last : List ℕ
  pub is : IsLastReply w number history last behind
  pub front : AppendsFront mid written' last

-- A link's replies are of the history, and what was entered for them are tries of questions, and faults.
pub record RepliesOfLink {L : Type 0} (links : Telling L) (w : Origin) (number : ℕ) (history : List Entry) (link : HttpLink L) (p : Passage) : Type 0 where
  pub kinds : All (IsEntryOf w number) p.own
  pub replies : RepliesAreOf w number history link.end (links.left link.before) (links.left link.after) (links.written link.before) (links.written link.after) p

-- the same of links one behind the other
abbrev pub RepliesOfAll : {L : Type 0} → Telling L → Origin → ℕ → List Entry → List (HttpLink L) → Passage → Type 0
RepliesOfAll links w number history [] p = EntersNothing p
RepliesOfAll links w number history (link ∷ served) p =
    (first : Passage) × (behind : Passage) × (Joins first behind p × (RepliesOfLink links w number history link first × RepliesOfAll links w number history served behind))

-- ---- lines

-- the lines that were handled of a link, of which these bytes were taken
abbrev pub AreHandled : LineCause → List ℕ → List Line → Type 0
AreHandled cause.Closed taken handled = handled ≡ lines taken
AreHandled cause.ReadFault taken handled = handled ≡ lines taken
AreHandled cause.LinkLimit taken handled = handled ≡ lines taken
AreHandled cause.Spent taken handled = IsPrefix handled (lines taken)
AreHandled cause.NoMemory taken handled =
    ((front : List ℕ) × (RunsOut front taken × (handled ≡ lines front))) ⊎ IsPrefix handled (lines taken)

-- The first points of a link, of which these lines were handled and brought these points: of theirs, each with those that the rules emit for it; or, where it
-- was read to its end and all its lines were handled, all of these and the first of those that the rules have open then.
abbrev pub AreFirst : List RuleValue → List ℕ → Option (List ℕ) → List Line → List Point → List Point → Type 0
AreFirst rules taken left handled points put =
    IsPrefix put (points_put (none_gathered rules) points)
    ⊎ (IsAtEnd left × ((handled ≡ lines taken) × IsPrefix put (points_of_link rules points)))

-- Which points were put of a link, of which these bytes were taken and these are left, and whose handled lines brought these: each of them, and behind it those
-- that the rules emit for it, and at the link's end those that they have open; or the first of these, where the pass was spent or memory ran out.
abbrev pub ArePut : LineCause → List RuleValue → List ℕ → Option (List ℕ) → List Line → List Point → List Point → Type 0
ArePut cause.Closed rules taken left handled points put = IsAtEnd left × (put ≡ points_of_link rules points)
ArePut cause.ReadFault rules taken left handled points put = put ≡ points_put (none_gathered rules) points
ArePut cause.LinkLimit rules taken left handled points put = put ≡ points_put (none_gathered rules) points
ArePut cause.Spent rules taken left handled points put = AreFirst rules taken left handled points put
ArePut cause.NoMemory rules taken left handled points put = AreFirst rules taken left handled points put

-- These entries are the puts of a link: one for each line that is read as a point, in order, of the lines that were handled, and behind it one for each
-- point that the rules emit for it.
pub record PutsOf {L : Type 0} (links : Telling L) (w : Origin) (number : ℕ) (link : LineLink L) (entries : List Entry) : Type 0 where
  pub taken : List ℕ
  pub consumed : Consumes (links.left link.before) (links.left link.after) taken
  pub handled : List Line
  pub are : AreHandled link.cause taken handled
  pub readings : List ℕ
  pub points : List Point
  pub read : LinesBring w.moments readings handled points
  pub put : List Point
  pub all : ArePut link.cause links.rules taken (links.left link.after) handled points put
  pub made : ArePuts number put entries

-- the same of links one after the other
abbrev pub PutsOfAll : {L : Type 0} → Telling L → Origin → ℕ → List (LineLink L) → List Entry → Type 0
PutsOfAll links w number [] entries = entries ≡ []
PutsOfAll links w number (link ∷ served) entries =
    (first : List Entry) × (others : List Entry)
    × (PutsOf links w number link first × (PutsOfAll links w number served others × (entries ≡ first ++ others)))
