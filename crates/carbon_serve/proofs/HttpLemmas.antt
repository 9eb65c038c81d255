-- What a link of HTTP requests makes of a pass.
use Rattle.std.proofs.Common.{◌≡◌, ◌⊎◌, inl, inr, ℕ, zero, suc, List, [], ◌∷◌, ◌++◌, Option, Result, Ok, Err, sym, ap, subst}
use Rattle.std.specs.Prelude.{All}
use Rattle.std.proofs.lemmas.List.Elements.{All-nil, All-push}
use Rattle.outside_io.specs.declared.clock.Clock.{Ghosts as ClockGhosts}
use Rattle.outside_io.specs.declared.sink.Sink.{Ghosts as SinkGhosts}
use Rattle.carbon_history.specs.declared.entry.Entry.{Entry}
use Rattle.carbon_history.specs.declared.entry.Entry.TheVariants.{Ask, Fault}
use Rattle.carbon_model.specs.State.{State}
use Rattle.shared_history.specs.Parts.{PassValue}
use Rattle.shared_store.specs.Asks.{AsksPartly, AsksTo, AsksToFault, new_number, tries_of}
use Rattle.shared_store.specs.Naming.{AsksOnce, NamesPartly}
use Rattle.shared_store.specs.declared.named.Named.{Ghosts as StoreGhosts}
use Rattle.path_glob.specs.Faults.{Said}
use Rattle.find_api.specs.Queries.{read_queries}
use Rattle.find_api.specs.Texts.{IsExpandText, IsFindText}
use Rattle.find_api.specs.declared.fault.FindFault.{FindFault}
use Rattle.render_need.specs.declared.need.Need.{Need}
use Rattle.render_plan.specs.Planned.{Plan, read_plan}
use Rattle.render_plan.specs.declared.fault.QueryFault.{QueryFault}
use Rattle.http_wire.specs.Requests.{Asked, Item, Request, Refused}
use Rattle.http_wire.specs.Routes.{query_of, route}
use Rattle.http_wire.specs.declared.refusal.Refusal.{Refusal}
use Rattle.http_wire.specs.declared.routing.Endpoint.{Endpoint}
use Rattle.http_wire.specs.declared.routing.Endpoint.TheVariants.{Render, Find, Expand, Index}
use Rattle.http_front.specs.Browses.{AsksNames, ComesOfGlobs, GivesUpNames, ShortOfQueries, Tells}
use Rattle.http_front.specs.Origin.{At, Caller, Origin, origin_of, standing}
use Rattle.http_front.specs.Requests.{ComesOfPlan, ComesOfRead, ComesOfRoute, GivesUp, ShortOfRoute, form_of}
use Rattle.http_front.specs.Links.{CannotBegin, ComesOfAll, ComesOfItem, EndsAs, RunsShort, RunsShortAt, Serves, ServesLink, TellsShort}
use Rattle.http_front.specs.declared.ends.HttpEnd.{HttpEnd}
use Rattle.http_front.specs.declared.ends.HttpEnd.TheVariants as end
use Rattle.http_front.specs.declared.outcome.Outcome.{Outcome}
use Rattle.line_front.specs.Links.{IsSpent}
use Rattle.carbon_serve.specs.Workers.{HasMoment, Works}
use Rattle.carbon_serve.proofs.WorkLemmas.{enters_works, sees_works, works_same, works_then}

same_pass : (w : Origin) (old new : PassValue) → new ≡ old → Works w.moments w.start old new
same_pass w old new same = subst (λ (pass : PassValue). Works w.moments w.start old pass) (sym same) (works_same w.moments w.start old)

-- the same of who asks
same_caller : (w : Origin) (old new : Caller) → new ≡ old → Works w.moments w.start old.pass new.pass
same_caller w old new same = same_pass w old.pass new.pass (ap (λ (who : Caller). who.pass) same)

-- ---- questions

tries_told : (moments : ℕ → Type 0) (pass number now count : ℕ) → moments now → All (HasMoment moments) (tries_of pass number now count)
tries_told moments pass number now zero told = All-nil (HasMoment moments)
tries_told moments pass number now (suc count) told =
    All-push (HasMoment moments) (tries_of pass number now count) (Ask pass number (suc count) now) (tries_told moments pass number now count told) told

asks_work : (w : Origin) (now : ℕ) (needs : List Need) (old new : PassValue) (answers : State → Type 0) → w.moments now → AsksTo w.start w.passes now needs old new answers → Works w.moments w.start old new
asks_work w now needs old new answers told asks =
    enters_works w.moments w.start w.passes (tries_of old.number (new_number old) now (suc asks.again)) old new asks.enters (tries_told w.moments old.number (new_number old) now (suc asks.again) told)

fault_works : (w : Origin) (now : ℕ) (needs : List Need) (class : ℕ) (old new : PassValue) → w.moments now → AsksToFault w.start w.passes now needs class old new → Works w.moments w.start old new
fault_works w now needs class old new told asks =
    let tries : List Entry = tries_of old.number (new_number old) now (suc asks.again) in
    enters_works w.moments w.start w.passes (tries ++ Fault old.number class ∷ []) old new asks.enters
    (All-push (HasMoment w.moments) tries (Fault old.number class) (tries_told w.moments old.number (new_number old) now (suc asks.again) told) tt)

partly_works : (w : Origin) (now : ℕ) (needs : List Need) (old new : PassValue) → w.moments now → AsksPartly w.start w.passes now needs old new → Works w.moments w.start old new
partly_works w now needs old new told (inl enters) = sees_works w.moments w.start w.passes old new enters
partly_works w now needs old new told (inr part) =
    enters_works w.moments w.start w.passes (tries_of old.number (new_number old) now (suc part.again)) old new part.enters (tries_told w.moments old.number (new_number old) now (suc part.again) told)

-- ---- questions about names

once_works : (w : Origin) (now : ℕ) (old new : PassValue) → w.moments now → AsksOnce w.start w.passes now old new → Works w.moments w.start old new
once_works w now old new told asks =
    enters_works w.moments w.start w.passes (Ask old.number (new_number old) 1 now ∷ []) old new asks.enters
    (All-push (HasMoment w.moments) [] (Ask old.number (new_number old) 1 now) (All-nil (HasMoment w.moments)) told)

names_work : (w : Origin) (names : List (List ℕ)) (old new : Caller) → AsksNames w names old new → Works w.moments w.start old.pass new.pass
names_work w names old new asks = once_works w asks.now old.pass new.pass asks.reads.moment asks.asks.asks

names_partly : (w : Origin) (now : ℕ) (old new : PassValue) → w.moments now → NamesPartly w.start w.passes now old new → Works w.moments w.start old new
names_partly w now old new told (inl enters) = sees_works w.moments w.start w.passes old new enters
names_partly w now old new told (inr asks) = once_works w now old new told asks

given_up_works : (w : Origin) (old new : Caller) → GivesUpNames w old new → Works w.moments w.start old.pass new.pass
given_up_works w old new gives = names_partly w gives.now old.pass new.pass gives.reads.moment gives.asks

globs_work : (w : Origin) (tells : Tells) (read : Result (List Said) FindFault) (outcome : Outcome) (old new : Caller) → ComesOfGlobs w tells read outcome old new → Works w.moments w.start old.pass new.pass
globs_work w tells (Ok globs) outcome old new comes = names_work w comes.names old new comes.asks
globs_work w tells (Err why) outcome old new comes = same_caller w old new comes.1

queries_work : (w : Origin) (query form : List ℕ) (old new : Caller) → ShortOfQueries w query form old new → Works w.moments w.start old.pass new.pass
queries_work w query form old new (inl same) = same_caller w old new same
queries_work w query form old new (inr gives) = given_up_works w old new gives.asks

-- ---- requests

plan_works : (w : Origin) (now : ℕ) (plan : Plan) (outcome : Outcome) (old new : PassValue) → w.moments now → ComesOfPlan w now plan outcome old new → Works w.moments w.start old new
plan_works w now plan outcome old new told (inl has) = asks_work w now _ old new _ told has.asks
plan_works w now plan outcome old new told (inr fails) = fault_works w now _ fails.class old new told fails.asks

read_works : (w : Origin) (now : ℕ) (read : Result Plan QueryFault) (outcome : Outcome) (old new : PassValue) → w.moments now → ComesOfRead w now read outcome old new → Works w.moments w.start old new
read_works w now (Ok plan) outcome old new told comes = plan_works w now plan outcome old new told comes
read_works w now (Err fault) outcome old new told comes = same_pass w old new comes.1

route_works : (w : Origin) (asked : Asked) (way : Result Endpoint Refusal) (outcome : Outcome) (old new : Caller) → ComesOfRoute w asked way outcome old new → Works w.moments w.start old.pass new.pass
route_works w asked (Ok Render) outcome old new comes =
    read_works w comes.now (read_plan (query_of asked.target) (form_of asked) comes.now) outcome old.pass new.pass comes.reads.moment comes.comes
route_works w asked (Ok Find) outcome old new comes = globs_work w IsFindText (read_queries (query_of asked.target) (form_of asked)) outcome old new comes
route_works w asked (Ok Expand) outcome old new comes = globs_work w IsExpandText (read_queries (query_of asked.target) (form_of asked)) outcome old new comes
route_works w asked (Ok Index) outcome old new comes = names_work w comes.names old new comes.asks
route_works w asked (Err why) outcome old new comes = same_caller w old new comes.1

pub item_works : (w : Origin) (item : Item) (outcome : Outcome) (old new : Caller) → ComesOfItem w item outcome old new → Works w.moments w.start old.pass new.pass
item_works w (Refused why) outcome old new comes = same_caller w old new comes.1
item_works w (Request asked) outcome old new comes = route_works w asked (route asked.method asked.target) outcome old new comes.1

pub items_work : (w : Origin) (items : List Item) (outcomes : List Outcome) (old new : Caller) → ComesOfAll w old items outcomes new → Works w.moments w.start old.pass new.pass
items_work w [] [] old new comes = same_caller w old new comes
items_work w [] (outcome ∷ outcomes) old new comes = absurd comes
items_work w (item ∷ items) [] old new comes = absurd comes
items_work w (item ∷ items) (outcome ∷ outcomes) old new comes =
    works_then w.moments w.start old.pass comes.0.pass new.pass (item_works w item outcome old comes.0 comes.1.0) (items_work w items outcomes comes.0 new comes.1.1)

pub serves_work : (w : Origin) (items : List Item) (from to : At) → Serves w items from to → Works w.moments w.start from.caller.pass to.caller.pass
serves_work w items from to serves = items_work w items serves.outcomes from.caller to.caller serves.comes

-- ---- want of memory

short_query : (w : Origin) (now : ℕ) (query form : List ℕ) (old new : PassValue) → w.moments now → (new ≡ old) ⊎ GivesUp w now query form old new → Works w.moments w.start old new
short_query w now query form old new told (inl same) = same_pass w old new same
short_query w now query form old new told (inr gives) = partly_works w now _ old new told gives.asks

short_works : (w : Origin) (asked : Asked) (way : Result Endpoint Refusal) (old new : Caller) → ShortOfRoute w asked way old new → Works w.moments w.start old.pass new.pass
short_works w asked (Ok Render) old new short = short_query w short.now (query_of asked.target) (form_of asked) old.pass new.pass short.reads.moment short.short
short_works w asked (Ok Find) old new short = queries_work w (query_of asked.target) (form_of asked) old new short
short_works w asked (Ok Expand) old new short = queries_work w (query_of asked.target) (form_of asked) old new short
short_works w asked (Ok Index) old new gives = given_up_works w old new gives
short_works w asked (Err why) old new same = same_caller w old new same

short_at : (w : Origin) (item : Item) (old new : Caller) → RunsShortAt w item old new → Works w.moments w.start old.pass new.pass
short_at w (Refused why) old new same = same_caller w old new same
short_at w (Request asked) old new runs = elim runs.1 [
  | inl short ↦ short_works w asked (route asked.method asked.target) old new short
  | inr comes ↦ route_works w asked (route asked.method asked.target) comes.0 old new comes.1
]

pub runs_work : (w : Origin) (taken : List ℕ) (left : Option (List ℕ)) (items : List Item) (old new : Caller) → RunsShort w taken left items old new → Works w.moments w.start old.pass new.pass
runs_work w taken left items old new (inl between) = same_caller w old new between.1
runs_work w taken left items old new (inr at) = short_at w at.0 old new at.1.1

-- ---- the ends of a link

ends_work : (w : Origin) (tells : Option (List ℕ) → Option (List ℕ) → Type 0) (reason : HttpEnd) (taken : List ℕ) (left : Option (List ℕ)) (from to : At)
    → EndsAs w tells reason taken left from to → Works w.moments w.start from.caller.pass to.caller.pass
ends_work w tells end.Closed taken left from to ends = serves_work w ends.0 from to ends.1.1.1
ends_work w tells (end.Refused code) taken left from to ends = serves_work w _ from to ends.2.1.1
ends_work w tells end.ReadFault taken left from to ends = serves_work w ends.0 from to ends.1.1.0
ends_work w tells end.LinkLimit taken left from to ends = serves_work w ends.0 from to ends.1.1.0
ends_work w tells end.WriteFault taken left from to ends =
    let part = ends.2.1 in
    works_then w.moments w.start from.caller.pass part.mid.caller.pass to.caller.pass (serves_work w ends.0 from part.mid part.serves) (item_works w ends.1 part.outcome part.mid.caller to.caller part.comes)
ends_work w tells end.Spent taken left from to ends = serves_work w ends.0 from to ends.2.1.0
ends_work w tells end.NoMemory taken left from to ends =
    works_then w.moments w.start from.caller.pass ends.mid.caller.pass to.caller.pass (serves_work w ends.items from ends.mid ends.serves) (runs_work w taken left ends.items ends.mid.caller to.caller ends.short)

pub link_end : (w : Origin) (failed : Type 0) (reason : HttpEnd) (left left' : Option (List ℕ)) (from to : At) → ServesLink w failed reason left left' from to → Works w.moments w.start from.caller.pass to.caller.pass
link_end w failed reason left left' from to (inl none) = same_caller w from.caller to.caller (ap (λ (at : At). at.caller) none.same)
link_end w failed reason left left' from to (inr ends) = ends_work w (TellsShort failed) reason ends.taken left' from to ends.ends

pub link_works : {C N K : Type 0} (clocks : ClockGhosts C) (store : StoreGhosts N) (sink : SinkGhosts K) (clock : C) (failed : Type 0) (reason : HttpEnd) (left left' : Option (List ℕ)) (old new : PassValue) (told told' : List ℕ) (link link' : K)
    → ServesLink (origin_of clocks store clock) failed reason left left' (standing sink old told link) (standing sink new told' link') → Works (clocks.moments clock) store.start old new
link_works clocks store sink clock failed reason left left' old new told told' link link' serves =
    link_end (origin_of clocks store clock) failed reason left left' (standing sink old told link) (standing sink new told' link') serves

-- a link that ends for a spent pass, or is not begun for it, leaves it so
pub link_spent : (w : Origin) (failed : Type 0) (reason : HttpEnd) (left left' : Option (List ℕ)) (from to : At) → ServesLink w failed reason left left' from to → reason ≡ end.Spent → IsSpent to.caller.pass
link_spent w failed reason left left' from to (inl not) is = subst (λ (why : HttpEnd). CannotBegin why to.caller.pass) is not.why
link_spent w failed reason left left' from to (inr ends) is =
    (subst (λ (why : HttpEnd). EndsAs w (TellsShort failed) why ends.taken left' from to) is ends.ends).2.1.1
