-- What a renderer replied is of the history that its pass saw a front of.
use Rattle.std.proofs.Common.{◌≡◌, ◌∙◌, inl, inr, ℕ, zero, suc, List, [], ◌∷◌, ◌++◌, length, take, Option, Result, Ok, Err, refl, sym, ap, subst, arith, append-nil, append_assoc}
use Rattle.std.specs.Prelude.{All}
use Rattle.std.specs.Io.KnownBytes.{Appends, Consumes}
use mathlib.Core.List.{IsPrefix}
use Rattle.outside_io.specs.Faults.{Rose}
use Rattle.outside_io.specs.Sink.{AppendsFront}
use Rattle.outside_io.proofs.Known.{Appends-none, Consumes-none}
use Rattle.carbon_history.specs.declared.entry.Entry.{Entry}
use Rattle.carbon_history.specs.declared.entry.Entry.TheVariants as entry
use Rattle.carbon_history.specs.Entries.{of_pass}
use Rattle.carbon_model.specs.State.{State}
use Rattle.shared_history.specs.Parts.{PassValue, own_entries}
use Rattle.shared_history.proofs.ListLemmas.{prefix_self}
use Rattle.shared_store.specs.Asks.{AsksAgain, new_number, tries_of}
use Rattle.shared_store.specs.Naming.{AsksOnce}
use Rattle.shared_store.specs.Passes.{Enters}
use Rattle.path_glob.specs.Faults.{Said}
use Rattle.find_api.specs.Queries.{read_queries}
use Rattle.find_api.specs.Texts.{IsExpandText, IsFindText}
use Rattle.find_api.specs.declared.fault.FindFault.{FindFault}
use Rattle.render_need.specs.declared.need.Need.{Need}
use Rattle.render_plan.specs.Needed.{needs_of}
use Rattle.render_plan.specs.Planned.{Plan, read_plan}
use Rattle.render_plan.specs.declared.fault.QueryFault.{QueryFault}
use Rattle.http_wire.specs.Requests.{Asked, Item, Request, Refused}
use Rattle.http_wire.specs.Routes.{query_of, route}
use Rattle.http_wire.specs.declared.refusal.Refusal.{Refusal}
use Rattle.http_wire.specs.declared.routing.Endpoint.{Endpoint}
use Rattle.http_wire.specs.declared.routing.Endpoint.TheVariants.{Render, Find, Expand, Index}
use Rattle.http_front.specs.Browses.{ComesOfGlobs, HasNames, IsIndexText, Tells}
use Rattle.http_front.specs.Entries.{IsEntryOf}
use Rattle.http_front.specs.Links.{BeginWith, CannotBegin, ComesOfAll, ComesOfItem, EndsAs, RunsShort, Serves, ServesLink, TellsShort}
use Rattle.http_front.specs.Origin.{At, Caller, Origin}
use Rattle.http_front.specs.Outcomes.{reply_to, unavailable_reply}
use Rattle.http_front.specs.Requests.{ComesOfPlan, ComesOfRead, ComesOfRoute, form_of}
use Rattle.http_front.specs.declared.ends.HttpEnd.{HttpEnd}
use Rattle.http_front.specs.declared.ends.HttpEnd.TheVariants as end
use Rattle.http_front.specs.declared.outcome.Outcome.{Outcome}
use Rattle.carbon_serve.specs.Deeds.{HttpLink, InTurn, ServesHttpLink, Telling}
use Rattle.carbon_serve.specs.OneHistory.{AreFirstItems, AreOfHistory, AreReplied, EntersNothing, IsOfGlobs, IsOfItem, IsOfNames, IsOfPlan, IsOfRoute, Passage, RepliesAreOf, RepliesOfAll, RepliesOfLink, StandsIn}
use Rattle.carbon_serve.specs.Workers.{Works}
use Rattle.carbon_serve.proofs.HttpLemmas.{item_works, items_work, link_end, runs_work, serves_work}
use Rattle.carbon_serve.proofs.PassLemmas.{prefix_on, same_behind}
use Rattle.carbon_serve.proofs.WorkLemmas.{works_same, works_then}

-- ---- texts

taken_whole : {X : Type 0} (xs : List X) → take (length xs) xs ≡ xs
taken_whole [] = refl
taken_whole (x ∷ xs) = ap (λ (ys : List _). x ∷ ys) (taken_whole xs)

-- a link is told that memory ran out, or a front of that
tells_front : (failed : Type 0) (before after : Option (List ℕ)) → TellsShort failed before after → AppendsFront before after unavailable_reply
tells_front failed before after (inl whole) =
    (length unavailable_reply, omega arith, subst (λ (text : List ℕ). Appends before after text) (sym (taken_whole unavailable_reply)) whole)
tells_front failed before after (inr front) = front.0

-- ---- passages

-- that of a pass which entered these
abbrev passage : PassValue → PassValue → List Entry → Passage
passage old new own = record { before = old.seen; own = own; after = new.seen }

-- a pass entered something, which stands in the history and is so
pub record Has (number : ℕ) (history : List Entry) (old new : PassValue) (is : Passage → Type 0) : Type 0 where
  pub own : List Entry
  pub stands : StandsIn number history (passage old new own)
  pub so : is (passage old new own)

once_at : (number : ℕ) (old new : PassValue) (own : List Entry) → old.number ≡ number → new.number ≡ number → own_entries new ≡ own_entries old ++ own
    → of_pass number new.seen ≡ of_pass number old.seen ++ own
once_at number old new own same same' once =
    ap (λ (n : ℕ). of_pass n new.seen) (sym same') ∙ (once ∙ ap (λ (n : ℕ). of_pass n old.seen ++ own) same)

entered : (start : State) (passes : ℕ) (history entries : List Entry) (old new : PassValue) → IsPrefix new.seen history → Enters start passes entries old new
    → StandsIn old.number history (passage old new entries)
entered start passes history entries old new begins enters =
    record { goes_on = enters.begins; begins = begins; once = once_at old.number old new entries refl enters.number enters.once }

-- nothing was entered
rests : (number : ℕ) (history : List Entry) (old new : PassValue) → IsPrefix new.seen history → new ≡ old → StandsIn number history (passage old new [])
rests number history old new begins same = record {
  goes_on = subst (λ (pass : PassValue). IsPrefix old.seen pass.seen) (sym same) (prefix_self old.seen);
  begins = begins;
  once = ap (λ (pass : PassValue). of_pass number pass.seen) same ∙ sym (append-nil (of_pass number old.seen));
}

stays : (old new : PassValue) → new ≡ old → EntersNothing (passage old new [])
stays old new same = (refl, ap (λ (pass : PassValue). pass.seen) same)

-- one behind another
both : (number : ℕ) (history : List Entry) (old mid new : PassValue) (first behind : List Entry) → StandsIn number history (passage old mid first) → StandsIn number history (passage mid new behind)
    → StandsIn number history (passage old new (first ++ behind))
both number history old mid new first behind one two = record {
  goes_on = prefix_on old.seen mid.seen new.seen one.goes_on two.goes_on;
  begins = two.begins;
  once = two.once ∙ (ap (λ (es : List Entry). es ++ behind) one.once ∙ append_assoc (of_pass number old.seen) first behind);
}

-- ---- questions

-- the last try of a question ends what its pass sees
last_try : (start : State) (now : ℕ) (needs : List Need) (number question : ℕ) (before : List Entry) (again : ℕ) (seen : List Entry) → AsksAgain start now needs number question before again seen
    → (earlier : List Entry) × (seen ≡ earlier ++ entry.Ask number question (suc again) now ∷ [])
last_try start now needs number question before zero seen asks = (before ++ asks.0, asks.1)
last_try start now needs number question before (suc again) seen asks = (asks.0 ++ asks.1, asks.2.1.1)

module _ (w : Origin) (history : List Entry) where
  plan_of : (now : ℕ) (plan : Plan) (given : Outcome) (old new : PassValue) → IsPrefix new.seen history → ComesOfPlan w now plan given old new
      → Has old.number history old new (λ p. IsOfPlan w old.number now p (Ok plan) given)
  plan_of now plan given old new begins (inl has) =
      let asks = has.asks in
      let own : List Entry = tries_of old.number (new_number old) now (suc asks.again) in
      let last = last_try w.start now (needs_of plan) old.number (new_number old) old.seen asks.again new.seen asks.tries in record {
        own = own;
        stands = entered w.start w.passes history own old new begins asks.enters;
        so = inl (record {
          again = asks.again;
          few = asks.few;
          tries = refl;
          earlier = last.0;
          last = last.1;
          answer = has.answer;
          is = has.is;
          answers = asks.answer;
        });
      }
  plan_of now plan given old new begins (inr fails) =
      let asks = fails.asks in
      let own : List Entry = tries_of old.number (new_number old) now (suc asks.again) ++ entry.Fault old.number fails.class ∷ [] in record {
        own = own;
        stands = entered w.start w.passes history own old new begins asks.enters;
        so = inr (record { class = fails.class; again = asks.again; few = asks.few; tries = refl; is = fails.is });
      }

  read_of : (now : ℕ) (read : Result Plan QueryFault) (given : Outcome) (old new : PassValue) → IsPrefix new.seen history → ComesOfRead w now read given old new
      → Has old.number history old new (λ p. IsOfPlan w old.number now p read given)
  read_of now (Ok plan) given old new begins comes = plan_of now plan given old new begins comes
  read_of now (Err fault) given old new begins comes =
      record { own = []; stands = rests old.number history old new begins comes.1; so = (comes.0, stays old new comes.1) }

  -- a request that has no moment enters nothing
  none_of : {is : Type 0} (given : Outcome) (old new : Caller) → IsPrefix new.pass.seen history → new ≡ old → is → Has old.pass.number history old.pass new.pass (λ p. is × EntersNothing p)
  none_of given old new begins same so =
      let still : new.pass ≡ old.pass = ap (λ (who : Caller). who.pass) same in
      record { own = []; stands = rests old.pass.number history old.pass new.pass begins still; so = (so, stays old.pass new.pass still) }

  names_of : (tells : List (List ℕ) → List ℕ → Type 0) (given : Outcome) (old new : Caller) → IsPrefix new.pass.seen history → HasNames w tells given old new
      → Has old.pass.number history old.pass new.pass (λ p. IsOfNames w old.pass.number p tells given)
  names_of tells given old new begins has =
      let now : ℕ = has.asks.now in
      let once : AsksOnce w.start w.passes now old.pass new.pass = has.asks.asks.asks in
      let own : List Entry = entry.Ask old.pass.number (new_number old.pass) 1 now ∷ [] in record {
        own = own;
        stands = entered w.start w.passes history own old.pass new.pass begins once.enters;
        so = record {
          now = now;
          told = has.asks.reads.moment;
          question = refl;
          earlier = old.pass.seen ++ once.between;
          last = once.last;
          names = has.names;
          all = has.asks.asks.all;
          text = has.text;
          is = has.is;
          so = has.so;
        };
      }

  globs_of : (tells : Tells) (read : Result (List Said) FindFault) (given : Outcome) (old new : Caller) → IsPrefix new.pass.seen history → ComesOfGlobs w tells read given old new
      → Has old.pass.number history old.pass new.pass (λ p. IsOfGlobs w old.pass.number p tells read given)
  globs_of tells (Ok globs) given old new begins comes = names_of (tells globs) given old new begins comes
  globs_of tells (Err why) given old new begins comes =
      none_of given old new begins comes.1 comes.0

  route_of : (asked : Asked) (way : Result Endpoint Refusal) (given : Outcome) (old new : Caller) → IsPrefix new.pass.seen history → ComesOfRoute w asked way given old new
      → Has old.pass.number history old.pass new.pass (λ p. IsOfRoute w old.pass.number p asked way given)
  route_of asked (Ok Render) given old new begins comes =
      let now : ℕ = comes.now in
      let has = read_of now (read_plan (query_of asked.target) (form_of asked) now) given old.pass new.pass begins comes.comes in
      record { own = has.own; stands = has.stands; so = record { now = now; told = comes.reads.moment; comes = has.so } }
  route_of asked (Ok Find) given old new begins comes = globs_of IsFindText (read_queries (query_of asked.target) (form_of asked)) given old new begins comes
  route_of asked (Ok Expand) given old new begins comes = globs_of IsExpandText (read_queries (query_of asked.target) (form_of asked)) given old new begins comes
  route_of asked (Ok Index) given old new begins comes = names_of IsIndexText given old new begins comes
  route_of asked (Err why) given old new begins comes =
      none_of given old new begins comes.1 comes.0

  item_of : (item : Item) (given : Outcome) (old new : Caller) → IsPrefix new.pass.seen history → ComesOfItem w item given old new
      → Has old.pass.number history old.pass new.pass (λ p. IsOfItem w old.pass.number p item given)
  item_of (Refused why) given old new begins comes =
      none_of given old new begins comes.1 comes.0
  item_of (Request asked) given old new begins comes = route_of asked (route asked.method asked.target) given old new begins comes.1

-- ---- the items of a link

module _ (w : Origin) (number : ℕ) (history : List Entry) where
  item_at : (item : Item) (given : Outcome) (old new : Caller) → old.pass.number ≡ number → IsPrefix new.pass.seen history → ComesOfItem w item given old new
      → Has number history old.pass new.pass (λ p. IsOfItem w number p item given)
  item_at item given old new same begins comes =
      subst (λ (n : ℕ). Has n history old.pass new.pass (λ p. IsOfItem w n p item given)) same (item_of w history item given old new begins comes)

  items_of : (items : List Item) (outcomes : List Outcome) (old new : Caller) → old.pass.number ≡ number → IsPrefix new.pass.seen history → ComesOfAll w old items outcomes new
      → Has number history old.pass new.pass (AreOfHistory w number history items outcomes)
  items_of [] [] old new same begins comes =
      let still : new.pass ≡ old.pass = ap (λ (who : Caller). who.pass) comes in
      record { own = []; stands = rests number history old.pass new.pass begins still; so = stays old.pass new.pass still }
  items_of [] (given ∷ outcomes) old new same begins comes = absurd comes
  items_of (item ∷ items) [] old new same begins comes = absurd comes
  items_of (item ∷ items) (given ∷ outcomes) old new same begins comes =
      let mid : Caller = comes.0 in
      let works : Works w.moments w.start old.pass mid.pass = item_works w item given old mid comes.1.0 in
      let rest : Works w.moments w.start mid.pass new.pass = items_work w items outcomes mid new comes.1.1 in
      let one : Has number history old.pass mid.pass (λ p. IsOfItem w number p item given) = item_at item given old mid same (prefix_on mid.pass.seen new.pass.seen history rest.begins begins) comes.1.0 in
      let others : Has number history mid.pass new.pass (AreOfHistory w number history items outcomes) = items_of items outcomes mid new (works.number ∙ same) begins comes.1.1 in record {
        own = one.own ++ others.own;
        stands = both number history old.pass mid.pass new.pass one.own others.own one.stands others.stands;
        so = (
          passage old.pass mid.pass one.own,
          passage mid.pass new.pass others.own,
          (record { from = refl; mid = refl; to = refl; own = refl }, ((one.stands, one.so), others.so)),
        );
      }

  -- ---- the ends of a link

  -- whole replies, and nothing behind them
  whole_of : (reason : HttpEnd) (taken : List ℕ) (left left' : Option (List ℕ)) (items : List Item) (from to : At) → Consumes left left' taken → AreReplied reason taken left' items
      → from.caller.pass.number ≡ number → IsPrefix to.caller.pass.seen history → Serves w items from to
      → Has number history from.caller.pass to.caller.pass (RepliesAreOf w number history reason left left' from.written to.written)
  whole_of reason taken left left' items from to consumed are same begins serves =
      let each : Has number history from.caller.pass to.caller.pass (AreOfHistory w number history items serves.outcomes) = items_of items serves.outcomes from.caller to.caller same begins serves.comes in record {
        own = each.own;
        stands = each.stands;
        so = record {
          taken = taken;
          consumed = consumed;
          items = items;
          are = are;
          outcomes = serves.outcomes;
          first = passage from.caller.pass to.caller.pass each.own;
          each = each.so;
          mid = to.written;
          wrote = serves.wrote;
          behind = passage to.caller.pass to.caller.pass [];
          joins = record { from = refl; mid = refl; to = refl; own = sym (append-nil each.own) };
          last = [];
          is = inl (refl, (refl, refl));
          front = (0, omega arith, Appends-none to.written);
        };
      }

  -- which items those are before which memory ran out
  short_items : (taken : List ℕ) (left : Option (List ℕ)) (items : List Item) (old new : Caller) → RunsShort w taken left items old new → AreFirstItems taken left items
  short_items taken left items old new (inl between) =
      inr ([], subst (λ (l : List Item). BeginWith taken left l) (sym (append-nil items)) (inl between.0))
  short_items taken left items old new (inr at) = inr (at.0 ∷ [], at.1.0)

  ends_of : (failed : Type 0) (reason : HttpEnd) (taken : List ℕ) (left left' : Option (List ℕ)) (from to : At) → Consumes left left' taken → from.caller.pass.number ≡ number
      → IsPrefix to.caller.pass.seen history → EndsAs w (TellsShort failed) reason taken left' from to
      → Has number history from.caller.pass to.caller.pass (RepliesAreOf w number history reason left left' from.written to.written)
  ends_of failed end.Closed taken left left' from to consumed same begins ends =
      whole_of end.Closed taken left left' ends.0 from to consumed ends.1.0 same begins ends.1.1.1
  ends_of failed (end.Refused code) taken left left' from to consumed same begins ends =
      whole_of (end.Refused code) taken left left' (ends.0 ++ Refused ends.1 ∷ []) from to consumed ends.2.0 same begins ends.2.1.1
  ends_of failed end.ReadFault taken left left' from to consumed same begins ends =
      whole_of end.ReadFault taken left left' ends.0 from to consumed ends.1.0 same begins ends.1.1.0
  ends_of failed end.LinkLimit taken left left' from to consumed same begins ends =
      whole_of end.LinkLimit taken left left' ends.0 from to consumed ends.1.0 same begins ends.1.1.0
  ends_of failed end.Spent taken left left' from to consumed same begins ends =
      whole_of end.Spent taken left left' ends.0 from to consumed (inr (Request ends.1 ∷ [], ends.2.0)) same begins ends.2.1.0
  ends_of failed end.WriteFault taken left left' from to consumed same begins ends =
      let part = ends.2.1 in
      let mid : At = part.mid in
      let works : Works w.moments w.start from.caller.pass mid.caller.pass = serves_work w ends.0 from mid part.serves in
      let rest : Works w.moments w.start mid.caller.pass to.caller.pass = item_works w ends.1 part.outcome mid.caller to.caller part.comes in
      let each : Has number history from.caller.pass mid.caller.pass (AreOfHistory w number history ends.0 part.serves.outcomes) =
      items_of ends.0 part.serves.outcomes from.caller mid.caller same (prefix_on mid.caller.pass.seen to.caller.pass.seen history rest.begins begins) part.serves.comes in
      let one : Has number history mid.caller.pass to.caller.pass (λ p. IsOfItem w number p ends.1 part.outcome) = item_at ends.1 part.outcome mid.caller to.caller (works.number ∙ same) begins part.comes in record {
        own = each.own ++ one.own;
        stands = both number history from.caller.pass mid.caller.pass to.caller.pass each.own one.own each.stands one.stands;
        so = record {
          taken = taken;
          consumed = consumed;
          items = ends.0;
          are = inr (ends.1 ∷ [], ends.2.0);
          outcomes = part.serves.outcomes;
          first = passage from.caller.pass mid.caller.pass each.own;
          each = each.so;
          mid = mid.written;
          wrote = part.serves.wrote;
          behind = passage mid.caller.pass to.caller.pass one.own;
          joins = record { from = refl; mid = refl; to = refl; own = refl };
          last = reply_to ends.1 part.outcome;
          is = inr (inl (ends.1, part.outcome, ((one.stands, one.so), refl)));
          front = part.wrote;
        };
      }
  ends_of failed end.NoMemory taken left left' from to consumed same begins ends =
      let mid : At = ends.mid in
      let works : Works w.moments w.start from.caller.pass mid.caller.pass = serves_work w ends.items from mid ends.serves in
      let rest : Works w.moments w.start mid.caller.pass to.caller.pass = runs_work w taken left' ends.items mid.caller to.caller ends.short in
      let each : Has number history from.caller.pass mid.caller.pass (AreOfHistory w number history ends.items ends.serves.outcomes) =
      items_of ends.items ends.serves.outcomes from.caller mid.caller same (prefix_on mid.caller.pass.seen to.caller.pass.seen history rest.begins begins) ends.serves.comes in
      let given_up : StandsIn number history (passage mid.caller.pass to.caller.pass rest.made) = record {
        goes_on = rest.begins;
        begins = begins;
        once = once_at number mid.caller.pass to.caller.pass rest.made (works.number ∙ same) (rest.number ∙ (works.number ∙ same)) rest.once;
      } in record {
        own = each.own ++ rest.made;
        stands = both number history from.caller.pass mid.caller.pass to.caller.pass each.own rest.made each.stands given_up;
        so = record {
          taken = taken;
          consumed = consumed;
          items = ends.items;
          are = short_items taken left' ends.items mid.caller to.caller ends.short;
          outcomes = ends.serves.outcomes;
          first = passage from.caller.pass mid.caller.pass each.own;
          each = each.so;
          mid = mid.written;
          wrote = ends.serves.wrote;
          behind = passage mid.caller.pass to.caller.pass rest.made;
          joins = record { from = refl; mid = refl; to = refl; own = refl };
          last = unavailable_reply;
          is = inr (inr (refl, given_up));
          front = tells_front failed mid.written to.written ends.told;
        };
      }

  -- a link that is not begun has no item
  none_begun : (reason : HttpEnd) (left : Option (List ℕ)) (pass : PassValue) → CannotBegin reason pass → AreReplied reason [] left []
  none_begun end.Closed left pass why = absurd why
  none_begun (end.Refused code) left pass why = absurd why
  none_begun end.ReadFault left pass why = absurd why
  none_begun end.WriteFault left pass why = absurd why
  none_begun end.LinkLimit left pass why = absurd why
  none_begun end.Spent left pass why = inl refl
  none_begun end.NoMemory left pass why = inl refl

  serves_of : (failed : Type 0) (reason : HttpEnd) (left left' : Option (List ℕ)) (from to : At) → from.caller.pass.number ≡ number → IsPrefix to.caller.pass.seen history
      → ServesLink w failed reason left left' from to → Has number history from.caller.pass to.caller.pass (RepliesAreOf w number history reason left left' from.written to.written)
  serves_of failed reason left left' from to same begins (inl none) =
      let still : to.caller.pass ≡ from.caller.pass = ap (λ (at : At). at.caller.pass) none.same in record {
        own = [];
        stands = rests number history from.caller.pass to.caller.pass begins still;
        so = record {
          taken = [];
          consumed = subst (λ (now : Option (List ℕ)). Consumes left now []) (sym none.unread) (Consumes-none left);
          items = [];
          are = none_begun reason left' to.caller.pass none.why;
          outcomes = [];
          first = passage from.caller.pass from.caller.pass [];
          each = (refl, refl);
          mid = from.written;
          wrote = Appends-none from.written;
          behind = passage from.caller.pass to.caller.pass [];
          joins = record { from = refl; mid = refl; to = refl; own = refl };
          last = [];
          is = inl (refl, stays from.caller.pass to.caller.pass still);
          front = (0, omega arith, subst (λ (now : Option (List ℕ)). Appends from.written now []) (sym (ap (λ (at : At). at.written) none.same)) (Appends-none from.written));
        };
      }
  serves_of failed reason left left' from to same begins (inr ends) = ends_of failed reason ends.taken left left' from to ends.consumed same begins ends.ends

-- ---- links

module _ {L : Type 0} (links : Telling L) (w : Origin) (number : ℕ) (history : List Entry) where
  link_works : (link : HttpLink L) (old new : Caller) → ServesHttpLink links w link old new → Works w.moments w.start old.pass new.pass
  link_works link old new serves =
      link_end w (Rose (links.failed_writes link.before) (links.failed_writes link.after)) link.end (links.left link.before) (links.left link.after)
      (record { caller = old; written = links.written link.before }) (record { caller = new; written = links.written link.after }) serves.serves

  link_of : (link : HttpLink L) (old new : Caller) → old.pass.number ≡ number → IsPrefix new.pass.seen history → ServesHttpLink links w link old new
      → Has number history old.pass new.pass (RepliesOfLink links w number history link)
  link_of link old new same begins serves =
      let from : At = record { caller = old; written = links.written link.before } in
      let to : At = record { caller = new; written = links.written link.after } in
      let has : Has number history old.pass new.pass (RepliesAreOf w number history link.end (links.left link.before) (links.left link.after) (links.written link.before) (links.written link.after)) =
      serves_of w number history (Rose (links.failed_writes link.before) (links.failed_writes link.after)) link.end (links.left link.before) (links.left link.after) from to same begins serves.serves in
      let makes = serves.makes in
      let entries : List Entry = makes.entries in
      let once : of_pass number new.pass.seen ≡ of_pass number old.pass.seen ++ entries = once_at number old.pass new.pass entries same (makes.number ∙ same) makes.once in
      let are : entries ≡ has.own = same_behind (of_pass number old.pass.seen) entries has.own (sym once ∙ has.stands.once) in record {
        own = has.own;
        stands = has.stands;
        so = record {
          kinds = subst (λ (es : List Entry). All (IsEntryOf w number) es) are (subst (λ (n : ℕ). All (IsEntryOf w n) entries) same makes.each);
          replies = has.so;
        };
      }

  turn_works : (served : List (HttpLink L)) (a c : Caller) → InTurn (ServesHttpLink links w) served a c → Works w.moments w.start a.pass c.pass
  turn_works [] a c same = subst (λ (who : Caller). Works w.moments w.start a.pass who.pass) (sym same) (works_same w.moments w.start a.pass)
  turn_works (link ∷ served) a c turns = works_then w.moments w.start a.pass turns.0.pass c.pass (link_works link a turns.0 turns.1.0) (turn_works served turns.0 c turns.1.1)

  -- all links that a pass served
  links_of : (served : List (HttpLink L)) (a c : Caller) → a.pass.number ≡ number → IsPrefix c.pass.seen history → InTurn (ServesHttpLink links w) served a c
      → Has number history a.pass c.pass (RepliesOfAll links w number history served)
  links_of [] a c same begins turns =
      let still : c.pass ≡ a.pass = ap (λ (who : Caller). who.pass) turns in
      record { own = []; stands = rests number history a.pass c.pass begins still; so = stays a.pass c.pass still }
  links_of (link ∷ served) a c same begins turns =
      let mid : Caller = turns.0 in
      let works : Works w.moments w.start a.pass mid.pass = link_works link a mid turns.1.0 in
      let rest : Works w.moments w.start mid.pass c.pass = turn_works served mid c turns.1.1 in
      let one : Has number history a.pass mid.pass (RepliesOfLink links w number history link) = link_of link a mid same (prefix_on mid.pass.seen c.pass.seen history rest.begins begins) turns.1.0 in
      let others : Has number history mid.pass c.pass (RepliesOfAll links w number history served) = links_of served mid c (works.number ∙ same) begins turns.1.1 in record {
        own = one.own ++ others.own;
        stands = both number history a.pass mid.pass c.pass one.own others.own one.stands others.stands;
        so = (passage a.pass mid.pass one.own, passage mid.pass c.pass others.own, (record { from = refl; mid = refl; to = refl; own = refl }, (one.so, others.so)));
      }

  -- a pass that had seen nothing
  pub all_replies : (served : List (HttpLink L)) (a c : Caller) (own : List Entry) → a.pass.number ≡ number → a.pass.seen ≡ [] → c.pass.number ≡ number → own_entries c.pass ≡ own → IsPrefix c.pass.seen history
      → InTurn (ServesHttpLink links w) served a c → RepliesOfAll links w number history served (record { before = []; own = own; after = c.pass.seen })
  all_replies served a c own same none same' is begins turns =
      let has : Has number history a.pass c.pass (RepliesOfAll links w number history served) = links_of served a c same begins turns in
      let mine : has.own ≡ own =
      sym (has.stands.once ∙ ap (λ (seen : List Entry). of_pass number seen ++ has.own) none) ∙ (ap (λ (n : ℕ). of_pass n c.pass.seen) (sym same') ∙ is) in
      subst (λ (before : List Entry). RepliesOfAll links w number history served (record { before = before; own = own; after = c.pass.seen })) none
      (subst (λ (es : List Entry). RepliesOfAll links w number history served (record { before = a.pass.seen; own = es; after = c.pass.seen })) mine has.so)
