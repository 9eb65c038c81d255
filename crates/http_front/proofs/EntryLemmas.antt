-- What a pass makes while it serves a link.
use Rattle.std.proofs.Common.{◌≡◌, ◌⊎◌, inl, inr, ℕ, zero, suc, List, [], ◌∷◌, ◌++◌, All, Option, Result, Ok, Err, refl, sym, ap, ◌∙◌, subst, append_assoc, append-nil}
use Rattle.std.proofs.lemmas.List.Elements.{All-append, All-cons, All-nil}
use Rattle.carbon_history.specs.declared.entry.Entry.{Entry}
use Rattle.carbon_history.specs.declared.entry.Entry.TheVariants as entry
use Rattle.carbon_model.specs.State.{State}
use Rattle.shared_history.specs.Parts.{PassValue, own_entries}
use Rattle.shared_store.specs.Asks.{AsksPartly, new_number, tries_of}
use Rattle.shared_store.specs.Naming.{AsksOnce, NamesPartly}
use Rattle.shared_store.specs.Passes.{Enters}
use Rattle.path_glob.specs.Faults.{Said}
use Rattle.find_api.specs.Queries.{read_queries}
use Rattle.find_api.specs.Texts.{IsExpandText, IsFindText}
use Rattle.find_api.specs.declared.fault.FindFault.{FindFault}
use Rattle.render_plan.specs.Needed.{needs_of}
use Rattle.render_plan.specs.Planned.{Plan, read_plan}
use Rattle.render_plan.specs.declared.fault.QueryFault.{QueryFault}
use Rattle.render_need.specs.declared.need.Need.{Need}
use Rattle.http_wire.specs.Requests.{Asked, Item, Request, Refused}
use Rattle.http_wire.specs.Routes.{query_of, route}
use Rattle.http_wire.specs.declared.refusal.Refusal.{Refusal}
use Rattle.http_wire.specs.declared.routing.Endpoint.{Endpoint}
use Rattle.http_wire.specs.declared.routing.Endpoint.TheVariants.{Render, Find, Expand, Index}
use Rattle.http_front.specs.Browses.{AsksNames, ComesOfGlobs, GivesUpNames, ShortOfQueries, Tells}
use Rattle.http_front.specs.Entries.{IsEntryOf, MakesAsks}
use Rattle.http_front.specs.Links.{ComesOfAll, ComesOfItem, EndsAs, RunsShort, RunsShortAt, Serves, ServesLink, TellsShort}
use Rattle.http_front.specs.Origin.{At, Caller, Origin}
use Rattle.http_front.specs.Requests.{ComesOfPlan, ComesOfRead, ComesOfRoute, GivesUp, ShortOfQuery, ShortOfRoute, form_of}
use Rattle.http_front.specs.declared.ends.HttpEnd.{HttpEnd}
use Rattle.http_front.specs.declared.ends.HttpEnd.TheVariants as end
use Rattle.http_front.specs.declared.outcome.Outcome.{Outcome}

makes_none : (w : Origin) (old new : PassValue) → new ≡ old → MakesAsks w old new
makes_none w old new same = record {
  number = ap (λ (p : PassValue). p.number) same;
  entries = [];
  once = ap own_entries same ∙ sym (append-nil (own_entries old));
  each = All-nil (IsEntryOf w old.number);
}

makes_both : (w : Origin) (old mid new : PassValue) → MakesAsks w old mid → MakesAsks w mid new → MakesAsks w old new
makes_both w old mid new first second = record {
  number = second.number ∙ first.number;
  entries = first.entries ++ second.entries;
  once = second.once ∙ ap (λ (own : List Entry). own ++ second.entries) first.once ∙ append_assoc (own_entries old) first.entries second.entries;
  each = All-append (IsEntryOf w old.number) first.entries second.entries first.each
      (subst (λ (n : ℕ). All (IsEntryOf w n) second.entries) first.number second.each);
}

each_try : (w : Origin) (number question now count : ℕ) → w.moments now → All (IsEntryOf w number) (tries_of number question now count)
each_try w number question now zero told = All-nil (IsEntryOf w number)
each_try w number question now (suc count) told =
    All-append (IsEntryOf w number) (tries_of number question now count) (entry.Ask number question (suc count) now ∷ []) (each_try w number question now count told)
    (All-cons (IsEntryOf w number) (entry.Ask number question (suc count) now) [] (refl, told) (All-nil (IsEntryOf w number)))

makes_entered : (w : Origin) (start : State) (passes : ℕ) (entries : List Entry) (old new : PassValue) → Enters start passes entries old new → All (IsEntryOf w old.number) entries → MakesAsks w old new
makes_entered w start passes entries old new enters each = record { number = enters.number; entries = entries; once = enters.once; each = each }

makes_part : (w : Origin) (now : ℕ) (needs : List Need) (old new : PassValue) → w.moments now → AsksPartly w.start w.passes now needs old new → MakesAsks w old new
makes_part w now needs old new told (inl enters) = makes_entered w w.start w.passes [] old new enters (All-nil (IsEntryOf w old.number))
makes_part w now needs old new told (inr part) =
    makes_entered w w.start w.passes _ old new part.enters (each_try w old.number (new_number old) now (suc part.again) told)

makes_plan : (w : Origin) (now : ℕ) (plan : Plan) (outcome : Outcome) (old new : PassValue) → w.moments now → ComesOfPlan w now plan outcome old new → MakesAsks w old new
makes_plan w now plan outcome old new told (inl has) =
    makes_entered w w.start w.passes _ old new has.asks.enters (each_try w old.number (new_number old) now (suc has.asks.again) told)
makes_plan w now plan outcome old new told (inr fault) =
    makes_entered w w.start w.passes _ old new fault.asks.enters
    (All-append (IsEntryOf w old.number) (tries_of old.number (new_number old) now (suc fault.asks.again)) (entry.Fault old.number fault.class ∷ [])
    (each_try w old.number (new_number old) now (suc fault.asks.again) told)
    (All-cons (IsEntryOf w old.number) (entry.Fault old.number fault.class) [] refl (All-nil (IsEntryOf w old.number))))

makes_read : (w : Origin) (now : ℕ) (read : Result Plan QueryFault) (outcome : Outcome) (old new : PassValue) → w.moments now → ComesOfRead w now read outcome old new → MakesAsks w old new
makes_read w now (Ok plan) outcome old new told comes = makes_plan w now plan outcome old new told comes
makes_read w now (Err fault) outcome old new told comes = makes_none w old new comes.1

-- a question about names has one entry
makes_once : (w : Origin) (now : ℕ) (old new : PassValue) → w.moments now → AsksOnce w.start w.passes now old new → MakesAsks w old new
makes_once w now old new told asks =
    makes_entered w w.start w.passes _ old new asks.enters
    (All-cons (IsEntryOf w old.number) (entry.Ask old.number (new_number old) 1 now) [] (refl, told) (All-nil (IsEntryOf w old.number)))

pub makes_still : (w : Origin) (pass : PassValue) → MakesAsks w pass pass
makes_still w pass = makes_none w pass pass refl

-- the same of who asks
makes_same : (w : Origin) (old new : Caller) → new ≡ old → MakesAsks w old.pass new.pass
makes_same w old new same = makes_none w old.pass new.pass (ap (λ (c : Caller). c.pass) same)

makes_names : (w : Origin) (names : List (List ℕ)) (old new : Caller) → AsksNames w names old new → MakesAsks w old.pass new.pass
makes_names w names old new asks = makes_once w asks.now old.pass new.pass asks.reads.moment asks.asks.asks

-- or none, where it is given up
makes_asked : (w : Origin) (now : ℕ) (old new : PassValue) → w.moments now → NamesPartly w.start w.passes now old new → MakesAsks w old new
makes_asked w now old new told (inl enters) = makes_entered w w.start w.passes [] old new enters (All-nil (IsEntryOf w old.number))
makes_asked w now old new told (inr asks) = makes_once w now old new told asks

makes_partly : (w : Origin) (old new : Caller) → GivesUpNames w old new → MakesAsks w old.pass new.pass
makes_partly w old new gives = makes_asked w gives.now old.pass new.pass gives.reads.moment gives.asks

makes_globs : (w : Origin) (tells : Tells) (read : Result (List Said) FindFault) (outcome : Outcome) (old new : Caller) → ComesOfGlobs w tells read outcome old new → MakesAsks w old.pass new.pass
makes_globs w tells (Ok globs) outcome old new comes = makes_names w comes.names old new comes.asks
makes_globs w tells (Err why) outcome old new comes = makes_same w old new comes.1

makes_short_queries : (w : Origin) (query form : List ℕ) (old new : Caller) → ShortOfQueries w query form old new → MakesAsks w old.pass new.pass
makes_short_queries w query form old new (inl same) = makes_same w old new same
makes_short_queries w query form old new (inr gives) = makes_partly w old new gives.asks

makes_route : (w : Origin) (asked : Asked) (goes : Result Endpoint Refusal) (outcome : Outcome) (old new : Caller) → ComesOfRoute w asked goes outcome old new → MakesAsks w old.pass new.pass
makes_route w asked (Ok Render) outcome old new comes =
    makes_read w comes.now (read_plan (query_of asked.target) (form_of asked) comes.now) outcome old.pass new.pass comes.reads.moment comes.comes
makes_route w asked (Ok Find) outcome old new comes = makes_globs w IsFindText (read_queries (query_of asked.target) (form_of asked)) outcome old new comes
makes_route w asked (Ok Expand) outcome old new comes = makes_globs w IsExpandText (read_queries (query_of asked.target) (form_of asked)) outcome old new comes
makes_route w asked (Ok Index) outcome old new comes = makes_names w comes.names old new comes.asks
makes_route w asked (Err why) outcome old new comes = makes_same w old new comes.1

makes_given_up : (w : Origin) (now : ℕ) (query form : List ℕ) (old new : PassValue) → w.moments now → (new ≡ old) ⊎ GivesUp w now query form old new → MakesAsks w old new
makes_given_up w now query form old new told (inl same) = makes_none w old new same
makes_given_up w now query form old new told (inr gives) = makes_part w now (needs_of gives.plan) old new told gives.asks

makes_short_query : (w : Origin) (query form : List ℕ) (old new : Caller) → ShortOfQuery w query form old new → MakesAsks w old.pass new.pass
makes_short_query w query form old new short = makes_given_up w short.now query form old.pass new.pass short.reads.moment short.short

makes_short : (w : Origin) (asked : Asked) (goes : Result Endpoint Refusal) (old new : Caller) → ShortOfRoute w asked goes old new → MakesAsks w old.pass new.pass
makes_short w asked (Ok Render) old new short = makes_short_query w (query_of asked.target) (form_of asked) old new short
makes_short w asked (Ok Find) old new short = makes_short_queries w (query_of asked.target) (form_of asked) old new short
makes_short w asked (Ok Expand) old new short = makes_short_queries w (query_of asked.target) (form_of asked) old new short
makes_short w asked (Ok Index) old new short = makes_partly w old new short
makes_short w asked (Err why) old new short = makes_same w old new short

makes_item : (w : Origin) (item : Item) (outcome : Outcome) (old new : Caller) → ComesOfItem w item outcome old new → MakesAsks w old.pass new.pass
makes_item w (Refused why) outcome old new comes = makes_same w old new comes.1
makes_item w (Request asked) outcome old new comes = makes_route w asked (route asked.method asked.target) outcome old new comes.1

makes_all : (w : Origin) (old : Caller) (items : List Item) (outcomes : List Outcome) (new : Caller) → ComesOfAll w old items outcomes new → MakesAsks w old.pass new.pass
makes_all w old [] [] new comes = makes_same w old new comes
makes_all w old (item ∷ items) (outcome ∷ outcomes) new comes =
    makes_both w old.pass comes.0.pass new.pass (makes_item w item outcome old comes.0 comes.1.0) (makes_all w comes.0 items outcomes new comes.1.1)
makes_all w old [] (outcome ∷ outcomes) new comes = absurd comes
makes_all w old (item ∷ items) [] new comes = absurd comes

makes_serves : (w : Origin) (items : List Item) (from to : At) → Serves w items from to → MakesAsks w from.caller.pass to.caller.pass
makes_serves w items from to serves = makes_all w from.caller items serves.outcomes to.caller serves.comes

makes_short_at : (w : Origin) (item : Item) (old new : Caller) → RunsShortAt w item old new → MakesAsks w old.pass new.pass
makes_short_at w (Refused why) old new short = makes_same w old new short
makes_short_at w (Request asked) old new (room, inl short) = makes_short w asked (route asked.method asked.target) old new short
makes_short_at w (Request asked) old new (room, inr some) = makes_route w asked (route asked.method asked.target) some.0 old new some.1

makes_runs_short : (w : Origin) (taken : List ℕ) (left : Option (List ℕ)) (items : List Item) (old new : Caller) → RunsShort w taken left items old new → MakesAsks w old.pass new.pass
makes_runs_short w taken left items old new (inl none) = makes_same w old new none.1
makes_runs_short w taken left items old new (inr at) = makes_short_at w at.0 old new at.1.1

makes_ends : (w : Origin) (tells : Option (List ℕ) → Option (List ℕ) → Type 0) (reason : HttpEnd) (taken : List ℕ) (left : Option (List ℕ)) (from to : At) → EndsAs w tells reason taken left from to
    → MakesAsks w from.caller.pass to.caller.pass
makes_ends w tells end.Closed taken left from to ends = makes_serves w ends.0 from to ends.1.1.1
makes_ends w tells (end.Refused code) taken left from to ends = makes_serves w _ from to ends.2.1.1
makes_ends w tells end.ReadFault taken left from to ends = makes_serves w ends.0 from to ends.1.1.0
makes_ends w tells end.LinkLimit taken left from to ends = makes_serves w ends.0 from to ends.1.1.0
makes_ends w tells end.WriteFault taken left from to ends =
    let part = ends.2.1 in
    makes_both w from.caller.pass part.mid.caller.pass to.caller.pass (makes_serves w ends.0 from part.mid part.serves) (makes_item w ends.1 part.outcome part.mid.caller to.caller part.comes)
makes_ends w tells end.Spent taken left from to ends = makes_serves w ends.0 from to ends.2.1.0
makes_ends w tells end.NoMemory taken left from to ends =
    makes_both w from.caller.pass ends.mid.caller.pass to.caller.pass (makes_serves w ends.items from ends.mid ends.serves) (makes_runs_short w taken left ends.items ends.mid.caller to.caller ends.short)

pub link_makes : (w : Origin) (failed : Type 0) (reason : HttpEnd) (left left' : Option (List ℕ)) (from to : At) → ServesLink w failed reason left left' from to → MakesAsks w from.caller.pass to.caller.pass
link_makes w failed reason left left' from to (inl none) = makes_none w from.caller.pass to.caller.pass (ap (λ (p : At). p.caller.pass) none.same)
link_makes w failed reason left left' from to (inr ends) = makes_ends w (TellsShort failed) reason ends.taken left' from to ends.ends
