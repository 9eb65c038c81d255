-- Queries of the only pass of a store: what is asked is tried once.
use Rattle.std.proofs.Common.{◌≡◌, ◌≢◌, ◌∙◌, inl, inr, ℕ, zero, suc, ◌<◌, ◌≤◌, ◌+◌, ◌^◌, List, [], ◌∷◌, ◌++◌, Option, length, refl, sym, ap, subst, arith, append-nil, length-append}
use Rattle.std.specs.Prelude.{Contains, Result, Ok, Err, filter}
use Rattle.std.specs.Result.{IsErrAnd}
use Rattle.std.proofs.lemmas.List.{nil_from_length}
use Rattle.std.proofs.lemmas.List.Elements.{Contains-append_cases, Contains-push_cases, filter-append}
use mathlib.Core.List.{IsPrefix}
use Rattle.outside_io.specs.Image.{Image}
use Rattle.metric_path.specs.Class.{class_of}
use Rattle.carbon_history.specs.declared.entry.Entry.{Entry}
use Rattle.carbon_history.specs.declared.entry.Entry.TheVariants as entry
use Rattle.carbon_history.specs.Entries.{drains, is_drain, of_pass}
use Rattle.carbon_model.specs.State.{State}
use Rattle.carbon_model.specs.Replay.{replay}
use Rattle.carbon_model.proofs.HistoryLemmas.{replay-append}
use Rattle.render_plan.specs.declared.fault.QueryFault.{QueryFault}
use Rattle.render_plan.specs.declared.fault.QueryFault.TheVariants as faults
use Rattle.render_need.specs.declared.need.Need.{Need}
use Rattle.render_plan.specs.Needed.{needs_of}
use Rattle.render_plan.specs.Planned.{Plan as QueryPlan, read_plan}
use Rattle.render_plan.specs.Values.{Rows}
use Rattle.render_answer.specs.Answer.{AnswersPlan, AnswersRows}
use Rattle.render_answer.specs.Rows.{HasRows, HasTooManyPoints, HasTooManySeries, IsReadFor}
use Rattle.render_answer.specs.declared.answer.Answer.{Answer}
use Rattle.render_answer.specs.declared.answer.Answer.TheVariants.{Body, Refused}
use Rattle.render_answer.specs.declared.refusal.Refusal.TheVariants.{Query, TooManySeries, TooManyPoints, StepTooWide, GridTooLong}
use Rattle.shared_history.specs.Parts.{PassValue, greatest_ask, own_entries}
use Rattle.shared_store.specs.Asks.{Asks, AsksAgain, AsksPartly, AsksTo, AsksToFault, new_number, tries_of}
use Rattle.shared_store.specs.Passes.{LooksOn}
use Rattle.shared_store.specs.declared.ask_fault.AskFault.{AskFault}
use Rattle.shared_store.specs.declared.ask_fault.AskFault.TheVariants as ask
use Rattle.atomic_table.specs.Seated.{TableId}
use Rattle.carbon_script.specs.Alone.{Adds, IsOnly}
use Rattle.carbon_script.specs.Command.{Ask}
use Rattle.carbon_script.specs.Replies.{Replies, RepliesTo, SaysFound, SaysRows, SaysUnread, Tells, TellsRoom}
use Rattle.carbon_script.specs.Script.{Asked, Machine, ask_entries, fault_entry, with_entries}
use Rattle.carbon_script.specs.Sessions.{AsksPart, Means, SessionValue}
use Rattle.carbon_script.specs.Texts.{answer_reply, fault_reply, refused_reply}
use Rattle.carbon_script.specs.declared.reply.Shortage.{Shortage}
use Rattle.carbon_script.specs.declared.reply.Shortage.TheVariants as short
use Rattle.carbon_script.proofs.AloneLemmas.{adds_on, all_own, only_enters}
use Rattle.carbon_script.proofs.MachineLemmas.{HasNone, is_spent, means_with, none_both, none_fault, none_tries, told_or_short}

-- ---- one try

drains_append : (xs ys : List Entry) → drains (xs ++ ys) ≡ drains xs + drains ys
drains_append xs ys = ap (λ (es : List Entry). length es) (filter-append is_drain xs ys) ∙ length-append (filter is_drain xs) (filter is_drain ys)

some_drain : (entries : List Entry) (pass at : ℕ) (path : List ℕ) → Contains entries (entry.Drain pass path at) → 0 < drains entries
some_drain [] pass at path has = absurd (omega (arith, has.1))
some_drain (e ∷ es) pass at path has = elim (Contains-append_cases (e ∷ []) es (entry.Drain pass path at) has) [
  | inl here ↦ elim (Contains-push_cases [] e (entry.Drain pass path at) here) [
    | inl none ↦ absurd (omega (arith, none.1))
    | inr same ↦ subst (λ (x : Entry). 0 < drains (x ∷ es)) (sym same) (omega arith)
  ]
  | inr behind ↦ let rest = some_drain es pass at path behind in omega (arith, rest, drains_append (e ∷ []) es)
]

no_tries : (pass number now count : ℕ) → drains (tries_of pass number now count) ≡ 0
no_tries pass number now zero = refl
no_tries pass number now (suc count) =
    let before = no_tries pass number now count in
    omega (arith, before, drains_append (tries_of pass number now count) (entry.Ask pass number (suc count) now ∷ []))

-- drains in parts of what was seen
in_parts : (seen front between rest : List Entry) → seen ≡ (front ++ between) ++ rest → drains seen ≡ drains front + drains between + drains rest
in_parts seen front between rest is =
    omega (arith, ap (λ (es : List Entry). drains es) is, drains_append (front ++ between) rest, drains_append front between)

module _ (start : State) (now : ℕ) (needs : List Need) (pass number : ℕ) (before : List Entry) where
  -- no drain is lost, and one comes before each further try
  again_drains : (again : ℕ) (seen : List Entry) → AsksAgain start now needs pass number before again seen → drains before ≤ drains seen
  again_drains zero seen asks = omega (arith, in_parts seen before asks.0 (entry.Ask pass number 1 now ∷ []) asks.1)
  again_drains (suc again) seen asks =
      let first = again_drains again asks.0 asks.2.0 in
      omega (arith, first, in_parts seen asks.0 asks.1 (entry.Ask pass number (suc (suc again)) now ∷ []) asks.2.1.1)

  again_more : (again : ℕ) (seen : List Entry) → AsksAgain start now needs pass number before (suc again) seen → drains before < drains seen
  again_more again seen asks =
      let first = again_drains again asks.0 asks.2.0 in
      let moved = asks.2.1.0 in
      let some = some_drain asks.1 moved.pass moved.at moved.path moved.drained in
      omega (arith, first, some, in_parts seen asks.0 asks.1 (entry.Ask pass number (suc (suc again)) now ∷ []) asks.2.1.1)

  pub one_try : (again : ℕ) (seen : List Entry) → AsksAgain start now needs pass number before again seen → drains seen ≤ drains before → again ≡ 0
  one_try zero seen asks few = refl
  one_try (suc again) seen asks few = let more = again_more again seen asks in absurd (omega (arith, more, few))

-- ---- the answer

-- the query is one entry, and this holds of the state there
record WasAsked (start : State) (old new : SessionValue) (m : Machine) (answers : State → Type 0) : Type 0 where
  adds : Adds start (ask_entries m 1) old.pass new.pass
  answer : answers m.state

-- the disk of a class failed behind it
record WasFailed (start : State) (needs : List Need) (class : ℕ) (old new : SessionValue) (m : Machine) : Type 0 where
  adds : Adds start (ask_entries m 1 ++ fault_entry class ∷ []) old.pass new.pass
  path : List ℕ
  read : IsReadFor m.state m.clock needs path
  here : class_of path ≡ class

-- the entries of tries are those of the machine
tries_are : (start : State) (code : SessionValue) (m : Machine) (count : ℕ) → Means start code m → tries_of code.pass.number (new_number code.pass) code.clock count ≡ ask_entries m count
tries_are start code m count means =
    let own : own_entries code.pass ≡ m.entries = (λ i. of_pass (means.number i) (means.seen i)) ∙ all_own m.entries means.alone in
    λ i. tries_of (means.number i) (greatest_ask (own i) + 1) (means.clock i) count

few_drains : (before seen entries : List Entry) → seen ≡ before ++ entries → drains entries ≡ 0 → drains seen ≤ drains before
few_drains before seen entries is none = omega (arith, ap (λ (es : List Entry). drains es) is, drains_append before entries, none)

-- a try changes no state
state_there : (start : State) (entries : List Entry) (pass number try now : ℕ) → replay start (entries ++ entry.Ask pass number try now ∷ []) ≡ replay start entries
state_there start entries pass number try now = replay-append start entries (entry.Ask pass number try now ∷ [])

was_asked : (start : State) (passes : ℕ) (needs : List Need) (old new : SessionValue) (m : Machine) (answers : State → Type 0) → passes ≡ 1 → Means start old m
    → AsksTo start passes old.clock needs old.pass new.pass answers → LooksOn old.pass new.pass → WasAsked start old new m answers
was_asked start passes needs old new m answers alone means asks on =
    let entries = tries_of old.pass.number (new_number old.pass) old.clock (suc asks.again) in
    let first : Adds start entries old.pass new.pass = adds_on start passes entries old.pass new.pass alone means.number asks.enters on in
    let once : asks.again ≡ 0 = one_try start old.clock needs old.pass.number (new_number old.pass) old.pass.seen asks.again new.pass.seen asks.tries
    (few_drains old.pass.seen new.pass.seen entries first.seen (no_tries old.pass.number (new_number old.pass) old.clock (suc asks.again))) in
    let are : entries ≡ ask_entries m 1 = ap (λ (n : ℕ). tries_of old.pass.number (new_number old.pass) old.clock (suc n)) once ∙ tries_are start old m 1 means in
    let adds : Adds start (ask_entries m 1) old.pass new.pass = subst (λ (es : List Entry). Adds start es old.pass new.pass) are first in record {
      adds = adds;
      answer = subst answers
          (ap (replay start) (adds.seen ∙ ap (λ (es : List Entry). es ++ ask_entries m 1) means.seen)
          ∙ state_there start m.entries 0 (greatest_ask m.entries + 1) 1 m.clock ∙ sym means.state) asks.answer;
    }

-- between the only try and the fault there is nothing
none_between : (before between later tried seen : List Entry) (a f b : Entry) → tried ≡ (before ++ between) ++ a ∷ [] → seen ≡ (tried ++ later) ++ f ∷ [] → length seen ≡ length before + 2 → between ≡ []
none_between before between later tried seen a f b is last many =
    nil_from_length between (omega (
      arith,
      ap (λ (es : List Entry). length es) is,
      ap (λ (es : List Entry). length es) last,
      many,
      length-append (before ++ between) (a ∷ []),
      length-append before between,
      length-append (tried ++ later) (f ∷ []),
      length-append tried later,
    ))

was_failed : (start : State) (passes : ℕ) (needs : List Need) (class : ℕ) (old new : SessionValue) (m : Machine) → passes ≡ 1 → Means start old m
    → AsksToFault start passes old.clock needs class old.pass new.pass → LooksOn old.pass new.pass → WasFailed start needs class old new m
was_failed start passes needs class old new m alone means asks on =
    let number = new_number old.pass in
    let tries = tries_of old.pass.number number old.clock (suc asks.again) in
    let fault = entry.Fault old.pass.number class in
    let first : Adds start (tries ++ fault ∷ []) old.pass new.pass = adds_on start passes (tries ++ fault ∷ []) old.pass new.pass alone means.number asks.enters on in
    let none : drains (tries ++ fault ∷ []) ≡ 0 = omega (arith, drains_append tries (fault ∷ []), no_tries old.pass.number number old.clock (suc asks.again)) in
    let few : drains asks.tried ≤ drains old.pass.seen =
    omega (arith, few_drains old.pass.seen new.pass.seen (tries ++ fault ∷ []) first.seen none, in_parts new.pass.seen asks.tried asks.between (fault ∷ []) asks.last) in
    let once : asks.again ≡ 0 = one_try start old.clock needs old.pass.number number old.pass.seen asks.again asks.tried asks.tries few in
    let are : tries ++ fault ∷ [] ≡ ask_entries m 1 ++ fault_entry class ∷ [] =
    (λ i. tries_of old.pass.number number old.clock (suc (once i)) ++ fault ∷ []) ∙ (λ i. tries_are start old m 1 means i ++ entry.Fault (means.number i) class ∷ []) in
    let adds : Adds start (ask_entries m 1 ++ fault_entry class ∷ []) old.pass new.pass = subst (λ (es : List Entry). Adds start es old.pass new.pass) are first in
    let tried : AsksAgain start old.clock needs old.pass.number number old.pass.seen 0 asks.tried =
    subst (λ (n : ℕ). AsksAgain start old.clock needs old.pass.number number old.pass.seen n asks.tried) once asks.tries in
    let many : length new.pass.seen ≡ length old.pass.seen + 2 =
    ap (λ (es : List Entry). length es) adds.seen ∙ length-append old.pass.seen (ask_entries m 1 ++ fault_entry class ∷ []) in
    let empty : tried.0 ≡ [] = none_between old.pass.seen tried.0 asks.between asks.tried new.pass.seen (entry.Ask old.pass.number number 1 old.clock) fault fault tried.1 asks.last many in
    let there : replay start asks.tried ≡ m.state =
    ap (replay start) (tried.1 ∙ ap (λ (es : List Entry). (old.pass.seen ++ es) ++ entry.Ask old.pass.number number 1 old.clock ∷ []) empty)
    ∙ state_there start (old.pass.seen ++ []) old.pass.number number 1 old.clock ∙ ap (replay start) (append-nil old.pass.seen ∙ means.seen) ∙ sym means.state in record {
      adds = adds;
      path = asks.path;
      read = subst (λ (now : ℕ). IsReadFor m.state now needs asks.path) means.clock (subst (λ (s : State). IsReadFor s old.clock needs asks.path) there asks.read);
      here = asks.here;
    }

-- ---- replies

-- what rows make an answer of is what the state answers
answers_plan : (told : ℕ → Option Image) (s : State) (now : ℕ) (plan : QueryPlan) (rows : Rows) (answer : Answer) → HasRows told s now (needs_of plan) rows → AnswersRows plan rows answer
    → AnswersPlan told s now plan answer
answers_plan told s now plan rows (Body form text) has answers = record { rows = rows; has = has; answers = answers }
answers_plan told s now plan rows (Refused (StepTooWide step)) has answers = record { rows = rows; has = has; answers = answers }
answers_plan told s now plan rows (Refused (GridTooLong count)) has answers = record { rows = rows; has = has; answers = answers }
answers_plan told s now plan rows (Refused (Query fault)) has answers = absurd answers
answers_plan told s now plan rows (Refused (TooManySeries count)) has answers = absurd answers
answers_plan told s now plan rows (Refused (TooManyPoints count)) has answers = absurd answers

none_asks : (m : Machine) (count k : ℕ) → HasNone k (ask_entries m count)
none_asks m count k = none_tries (greatest_ask m.entries + 1) m.clock count k

-- one try was made, and no reply
part_of : (m : Machine) → AsksPart m (with_entries m (ask_entries m 1))
part_of m = record { tries = 1; few = omega arith; becomes = refl }

asked_means : (start : State) (old new : SessionValue) (m : Machine) → Means start old m → Adds start (ask_entries m 1) old.pass new.pass → new.clock ≡ old.clock → new.counts ≡ old.counts
    → Means start new (with_entries m (ask_entries m 1))
asked_means start old new m means adds clock counts = means_with start old new m (ask_entries m 1) means adds (none_asks m 1) clock counts

-- an answer, and the reply of it
answered : (told : ℕ → Option Image) (start : State) (plan : QueryPlan) (reply : Result (List ℕ) Shortage) (old new : SessionValue) (answer : Answer) (answers : State → Type 0)
    → ((m : Machine) → Means start old m → WasAsked start old new m answers) → ((m : Machine) → Means start old m → answers m.state → AnswersPlan told m.state m.clock plan answer)
    → Tells reply (answer_reply answer) → new.clock ≡ old.clock → new.counts ≡ old.counts → RepliesTo told start plan reply old new
answered told start plan (Ok text) old new answer answers asked is tells clock counts = λ m means.
    let was = asked m means in (
      with_entries m (ask_entries m 1),
      (inl (record { answer = answer; answers = is m means was.answer; becomes = refl; says = tells }), asked_means start old new m means was.adds clock counts),
    )
answered told start plan (Err short.Room) old new answer answers asked is tells clock counts = absurd tells
answered told start plan (Err short.Memory) old new answer answers asked is tells clock counts = λ m means.
    (with_entries m (ask_entries m 1), (inl (part_of m), asked_means start old new m means (asked m means).adds clock counts))

replies_rows : (told : ℕ → Option Image) (start : State) (plan : QueryPlan) (rows : Rows) (reply : Result (List ℕ) Shortage) (old new : SessionValue)
    → ((m : Machine) → Means start old m → WasAsked start old new m (λ s. HasRows told s old.clock (needs_of plan) rows))
    → SaysRows plan rows reply → new.clock ≡ old.clock → new.counts ≡ old.counts → RepliesTo told start plan reply old new
replies_rows told start plan rows (Ok text) old new asked says clock counts =
    answered told start plan (Ok text) old new says.0 (λ s. HasRows told s old.clock (needs_of plan) rows) asked
    (λ m means has. answers_plan told m.state m.clock plan rows says.0 (subst (λ (now : ℕ). HasRows told m.state now (needs_of plan) rows) means.clock has) says.1.0)
    says.1.1 clock counts
replies_rows told start plan rows (Err short.Room) old new asked says clock counts = absurd says
replies_rows told start plan rows (Err short.Memory) old new asked says clock counts = λ m means.
    (with_entries m (ask_entries m 1), (inl (part_of m), asked_means start old new m means (asked m means).adds clock counts))

-- the machine behind a query and a fault
abbrev failed_with : Machine → ℕ → Machine
failed_with m class = with_entries m (ask_entries m 1 ++ fault_entry class ∷ [])

failed_means : (start : State) (needs : List Need) (class : ℕ) (old new : SessionValue) (m : Machine) → Means start old m → WasFailed start needs class old new m → new.clock ≡ old.clock
    → new.counts ≡ old.counts → Means start new (failed_with m class)
failed_means start needs class old new m means was clock counts =
    means_with start old new m (ask_entries m 1 ++ fault_entry class ∷ []) means was.adds
    (λ k. none_both k (ask_entries m 1) (fault_entry class ∷ []) (none_asks m 1 k) (none_fault class k)) clock counts

asks_fault : (told : ℕ → Option Image) (start : State) (plan : QueryPlan) (class : ℕ) (old new : SessionValue) (m : Machine) (said : List ℕ) → WasFailed start (needs_of plan) class old new m
    → said ≡ fault_reply class → Asked told m (Ok plan) (failed_with m class) said
asks_fault told start plan class old new m said was says = inr (record {
  path = was.path;
  read = was.read;
  becomes = ap (failed_with m) (sym was.here);
  says = says ∙ ap fault_reply (sym was.here);
})

replies_fault : (told : ℕ → Option Image) (start : State) (plan : QueryPlan) (class : ℕ) (reply : Result (List ℕ) Shortage) (old new : SessionValue)
    → ((m : Machine) → Means start old m → WasFailed start (needs_of plan) class old new m) → Tells reply (fault_reply class) → new.clock ≡ old.clock → new.counts ≡ old.counts
    → RepliesTo told start plan reply old new
replies_fault told start plan class (Ok text) old new failed tells clock counts = λ m means.
    let was = failed m means in
    (failed_with m class, (asks_fault told start plan class old new m text was tells, failed_means start (needs_of plan) class old new m means was clock counts))
replies_fault told start plan class (Err short.Room) old new failed tells clock counts = absurd tells
replies_fault told start plan class (Err short.Memory) old new failed tells clock counts = λ m means.
    let was = failed m means in (
      failed_with m class,
      (
        inr (fault_reply class, asks_fault told start plan class old new m (fault_reply class) was refl),
        failed_means start (needs_of plan) class old new m means was clock counts,
      ),
    )

-- it was given up before its only try, or behind it
record WasGivenUp (start : State) (old new : SessionValue) (m : Machine) : Type 0 where
  count : ℕ
  few : count ≤ 1
  adds : Adds start (ask_entries m count) old.pass new.pass

front_drains : (front seen : List Entry) → IsPrefix front seen → drains front ≤ drains seen
front_drains front seen begins = omega (arith, ap (λ (es : List Entry). drains es) begins.1, drains_append front begins.0)

was_given_up : (start : State) (passes : ℕ) (needs : List Need) (old new : SessionValue) (m : Machine) → passes ≡ 1 → Means start old m
    → AsksPartly start passes old.clock needs old.pass new.pass → LooksOn old.pass new.pass → WasGivenUp start old new m
was_given_up start passes needs old new m alone means (inl none) on =
    record { count = 0; few = omega arith; adds = adds_on start passes [] old.pass new.pass alone means.number none on }
was_given_up start passes needs old new m alone means (inr part) on =
    let number = new_number old.pass in
    let tries = tries_of old.pass.number number old.clock (suc part.again) in
    let first : Adds start tries old.pass new.pass = adds_on start passes tries old.pass new.pass alone means.number part.enters on in
    let few : drains part.tried ≤ drains old.pass.seen =
    omega (
      arith,
      front_drains part.tried new.pass.seen part.begins,
      few_drains old.pass.seen new.pass.seen tries first.seen (no_tries old.pass.number number old.clock (suc part.again)),
    ) in
    let once : part.again ≡ 0 = one_try start old.clock needs old.pass.number number old.pass.seen part.again part.tried part.tries few in
    let are : tries ≡ ask_entries m 1 = ap (λ (n : ℕ). tries_of old.pass.number number old.clock (suc n)) once ∙ tries_are start old m 1 means in
    record { count = 1; few = omega arith; adds = subst (λ (es : List Entry). Adds start es old.pass new.pass) are first }

replies_part : (told : ℕ → Option Image) (start : State) (passes : ℕ) (plan : QueryPlan) (reply : Result (List ℕ) Shortage) (old new : SessionValue) → passes ≡ 1
    → AsksPartly start passes old.clock (needs_of plan) old.pass new.pass → LooksOn old.pass new.pass → SaysFound plan (Err ask.NoMemory) reply → new.clock ≡ old.clock
    → new.counts ≡ old.counts → RepliesTo told start plan reply old new
replies_part told start passes plan (Ok text) old new alone asks on says clock counts = absurd says
replies_part told start passes plan (Err short.Room) old new alone asks on says clock counts = absurd says
replies_part told start passes plan (Err short.Memory) old new alone asks on says clock counts = λ m means.
    let was = was_given_up start passes (needs_of plan) old new m alone means asks on in (
      with_entries m (ask_entries m was.count),
      (
        inl (record { tries = was.count; few = was.few; becomes = refl }),
        means_with start old new m (ask_entries m was.count) means was.adds (none_asks m was.count) clock counts,
      ),
    )

-- whatever came of the query
pub replies_found : (told : ℕ → Option Image) (start : State) (passes : ℕ) (plan : QueryPlan) (found : Result Rows AskFault) (reply : Result (List ℕ) Shortage) (old new : SessionValue) → passes ≡ 1
    → Asks start told passes old.clock (needs_of plan) found old.pass new.pass → LooksOn old.pass new.pass → SaysFound plan found reply → new.clock ≡ old.clock → new.counts ≡ old.counts
    → RepliesTo told start plan reply old new
replies_found told start passes plan (Ok rows) reply old new alone asks on says clock counts =
    replies_rows told start plan rows reply old new
    (λ m means. was_asked start passes (needs_of plan) old new m (λ s. HasRows told s old.clock (needs_of plan) rows) alone means asks on) says clock counts
replies_found told start passes plan (Err (ask.TooManySeries count)) reply old new alone asks on says clock counts =
    answered told start plan reply old new (Refused (TooManySeries count)) (λ s. HasTooManySeries s old.clock (needs_of plan) count)
    (λ m means. was_asked start passes (needs_of plan) old new m (λ s. HasTooManySeries s old.clock (needs_of plan) count) alone means asks on)
    (λ m means many. subst (λ (now : ℕ). HasTooManySeries m.state now (needs_of plan) count) means.clock many) says clock counts
replies_found told start passes plan (Err (ask.TooManyPoints count)) reply old new alone asks on says clock counts =
    answered told start plan reply old new (Refused (TooManyPoints count)) (λ s. HasTooManyPoints s old.clock (needs_of plan) count)
    (λ m means. was_asked start passes (needs_of plan) old new m (λ s. HasTooManyPoints s old.clock (needs_of plan) count) alone means asks on)
    (λ m means many. subst (λ (now : ℕ). HasTooManyPoints m.state now (needs_of plan) count) means.clock many) says clock counts
replies_found told start passes plan (Err (ask.DiskFault class)) reply old new alone asks on says clock counts =
    replies_fault told start plan class reply old new (λ m means. was_failed start passes (needs_of plan) class old new m alone means asks on) says clock counts
replies_found told start passes plan (Err ask.NoMemory) reply old new alone asks on says clock counts =
    replies_part told start passes plan reply old new alone asks on says clock counts

-- the pass has no room for a query
pub spent_query : (told : ℕ → Option Image) (start : State) (plan : QueryPlan) (code : SessionValue) → 2 ^ 48 < length (own_entries code.pass) + 4 → RepliesTo told start plan (Err short.Room) code code
spent_query told start plan code spent m means = (is_spent start code m means spent, means)

pub spent_room : (T : Type 0) (told : ℕ → Option Image) (start : State) (plan : QueryPlan) (why : Shortage) (reply : Result (List ℕ) Shortage) (code : SessionValue)
    → IsErrAnd reply (λ other. other ≡ why) → TellsRoom {T = T} (Err why) code.pass → RepliesTo told start plan reply code code
spent_room T told start plan why (Ok text) code is tells = absurd is
spent_room T told start plan short.Room (Err other) code is tells =
    subst (λ (why : Shortage). RepliesTo told start plan (Err why) code code) (sym is) (spent_query told start plan code tells)
spent_room T told start plan short.Memory (Err other) code is tells = absurd tells

-- a query that was read
pub replies_read : (told : ℕ → Option Image) (start : State) (query : List ℕ) (plan : QueryPlan) (reply : Result (List ℕ) Shortage) (old new : SessionValue) → read_plan query [] old.clock ≡ Ok plan
    → RepliesTo told start plan reply old new → Replies told start (Ask query) reply old new
replies_read told start query plan (Ok said) old new read replies = λ m means.
    let did = replies m means in record {
      next = did.0;
      does = subst (λ (r : Result QueryPlan QueryFault). Asked told m r did.0 said) (sym read ∙ ap (read_plan query []) means.clock) did.1.0;
      means = did.1.1;
    }
replies_read told start query plan (Err short.Room) old new read replies = λ m means.
    let spent = replies m means in (m, (refl, (spent.0, spent.1)))
replies_read told start query plan (Err short.Memory) old new read replies = λ m means.
    let did = replies m means in (
      did.0,
      (
        elim did.1.0 [
          | inl part ↦ inl part
          | inr some ↦ inr (some.0, subst (λ (r : Result QueryPlan QueryFault). Asked told m r did.0 some.0) (sym read ∙ ap (read_plan query []) means.clock) some.1)
        ],
        did.1.1,
      ),
    )

-- a query that is refused
replies_refused : (told : ℕ → Option Image) (start : State) (query : List ℕ) (fault : QueryFault) (reply : Result (List ℕ) Shortage) (code : SessionValue) → read_plan query [] code.clock ≡ Err fault
    → Tells reply (refused_reply (Query fault)) → Replies told start (Ask query) reply code code
replies_refused told start query fault reply code read says =
    told_or_short told start (Ask query) code code (refused_reply (Query fault)) reply (λ m next done. inr done) says (λ m means. (
      m,
      (
        subst (λ (r : Result QueryPlan QueryFault). Asked told m r m (refused_reply (Query fault))) (sym read ∙ ap (read_plan query []) means.clock) (refl, refl),
        means,
      ),
    ))

-- there was no memory to read it
unread_query : (told : ℕ → Option Image) (start : State) (query : List ℕ) (code : SessionValue) → Replies told start (Ask query) (Err short.Memory) code code
unread_query told start query code m means = (m, (inl (record { tries = 0; few = omega arith; becomes = none_asked m }), means))
  where
    none_asked : (m : Machine) → m ≡ with_entries m (ask_entries m 0)
    none_asked m = ap (λ (es : List Entry). record m { entries = es }) (sym (append-nil m.entries))

-- whatever fault a query has
pub replies_unread : (told : ℕ → Option Image) (start : State) (query : List ℕ) (fault : QueryFault) (reply : Result (List ℕ) Shortage) (code : SessionValue)
    → (fault ≢ faults.NoMemory → read_plan query [] code.clock ≡ Err fault) → SaysUnread fault reply → Replies told start (Ask query) reply code code
replies_unread told start query fault (Ok text) code read says = replies_refused told start query fault (Ok text) code (read says.0) says.1
replies_unread told start query fault (Err short.Room) code read says = absurd says
replies_unread told start query fault (Err short.Memory) code read says = unread_query told start query code

-- the pass is still the one of its store
pub only_asks : (own : TableId) (start : State) (told : ℕ → Option Image) (passes now : ℕ) (needs : List Need) (found : Result Rows AskFault) (old new : PassValue) → passes ≡ 1 → IsOnly own start old
    → Asks start told passes now needs found old new → IsOnly own start new
only_asks own start told passes now needs (Ok rows) old new alone only asks =
    only_enters own start passes (tries_of old.number (new_number old) now (suc asks.again)) old new alone only asks.enters
only_asks own start told passes now needs (Err (ask.TooManySeries count)) old new alone only asks =
    only_enters own start passes (tries_of old.number (new_number old) now (suc asks.again)) old new alone only asks.enters
only_asks own start told passes now needs (Err (ask.TooManyPoints count)) old new alone only asks =
    only_enters own start passes (tries_of old.number (new_number old) now (suc asks.again)) old new alone only asks.enters
only_asks own start told passes now needs (Err (ask.DiskFault class)) old new alone only asks =
    only_enters own start passes (tries_of old.number (new_number old) now (suc asks.again) ++ entry.Fault old.number class ∷ []) old new alone only asks.enters
only_asks own start told passes now needs (Err ask.NoMemory) old new alone only (inl none) = only_enters own start passes [] old new alone only none
only_asks own start told passes now needs (Err ask.NoMemory) old new alone only (inr part) =
    only_enters own start passes (tries_of old.number (new_number old) now (suc part.again)) old new alone only part.enters
