-- The ends of a link.
use Rattle.std.proofs.Common.{◌≡◌, inl, inr, ℕ, ◌<◌, ◌+◌, ◌^◌, List, [], ◌++◌, length, Option, Some, None, Result, Ok, Err, OnOk, OnErr, refl, sym, ap, ◌∙◌, subst, append-nil, arith, length-append}
use Rattle.std.specs.Io.KnownBytes.{Appends, Consumes, IsAtEnd, Keeps}
use Rattle.std.specs.Option.{ForSome}
use Rattle.outside_io.proofs.Known.{Consumes-kept, Consumes-more, Consumes-none}
use Rattle.outside_io.specs.Sink.{AppendsFront}
use Rattle.http_wire.specs.Cuts.{Awaits}
use Rattle.http_wire.specs.Reading.{end_items, end_of}
use Rattle.http_wire.specs.Requests.{HasItems}
use Rattle.http_wire.specs.declared.refusal.Refusal.{Refusal}
use Rattle.http_wire.proofs.RequestLemmas.{hands_end}
use Rattle.http_front.specs.Links.{ComesOfAll, Ends, EndsAs, IsReadOut, RunsShort, Serves, TellsShort}
use Rattle.http_front.specs.Origin.{At, Caller, Origin}
use Rattle.http_front.specs.Outcomes.{replies_to, unavailable_reply}
use Rattle.http_front.specs.Standing.{BreaksOff, EndsThere, IsSilent, Reached, Served, TakesPiece}
use Rattle.http_front.specs.declared.ends.HttpEnd.{HttpEnd}
use Rattle.http_front.specs.declared.ends.HttpEnd.TheVariants as end
use Rattle.http_front.proofs.StandingLemmas.{served_start, stops_refused}

-- nothing was read yet
pub reached_start : (w : Origin) (left : Option (List ℕ)) (from : At) → Reached w left from 0 left (Some []) from
reached_start w left from = record { taken = []; consumed = Consumes-none left; counted = refl; served = served_start w from }

-- one more piece was read, and its requests were served
pub reached_more : (w : Origin) (left left1 left2 kept1 kept2 : Option (List ℕ)) (from mid to : At) (count n : ℕ) (piece : List ℕ) → Reached w left from count left1 kept1 mid → Consumes left1 left2 piece → length piece ≡ n
    → TakesPiece w kept1 mid piece kept2 to → Reached w left from (count + n) left2 kept2 to
reached_more w left left1 left2 kept1 kept2 from mid to count n piece r consumes long takes = record {
  taken = r.taken ++ piece;
  consumed = Consumes-more left left1 left2 r.taken piece r.consumed consumes;
  counted = omega (arith, length-append r.taken piece, r.counted, long);
  served = takes from r.taken r.served;
}

pub serves_of : (w : Origin) (from to : At) (taken : List ℕ) (kept : Option (List ℕ)) → (s : Served w from taken kept to) → Serves w s.items from to
serves_of w from to taken kept s = record { outcomes = s.outcomes; comes = s.comes; wrote = s.wrote }

-- the link ended in a piece
pub ends_piece : (w : Origin) (reason : HttpEnd) (left left1 left2 kept : Option (List ℕ)) (from mid to : At) (count : ℕ) (piece : List ℕ) → Reached w left from count left1 kept mid → Consumes left1 left2 piece
    → BreaksOff w reason kept mid piece to → Ends w IsSilent reason left left2 from to
ends_piece w reason left left1 left2 kept from mid to count piece r consumes breaks = record {
  taken = r.taken ++ piece;
  consumed = Consumes-more left left1 left2 r.taken piece r.consumed consumes;
  ends = breaks.1 from r.taken left2 r.served;
}

-- a read failed
pub ends_failed : (w : Origin) (left left1 left2 kept : Option (List ℕ)) (from to : At) (count : ℕ) → Reached w left from count left1 kept to → ForSome kept Awaits → count < 2 ^ 40 → Keeps left1 left2
    → Ends w IsSilent end.ReadFault left left2 from to
ends_failed w left left1 left2 kept from to count r waits few keeps = record {
  taken = r.taken;
  consumed = Consumes-kept left left1 left2 r.taken r.consumed keeps;
  ends = (r.served.items, ((kept, (r.served.hands, waits)), (serves_of w from to r.taken kept r.served, omega (arith, r.counted, few))));
}

-- as many bytes were taken as are taken at most
pub ends_limit : (w : Origin) (left left1 kept : Option (List ℕ)) (from to : At) (count : ℕ) → Reached w left from count left1 kept to → ForSome kept Awaits → count ≡ 2 ^ 40
    → Ends w IsSilent end.LinkLimit left left1 from to
ends_limit w left left1 kept from to count r waits all = record {
  taken = r.taken;
  consumed = r.consumed;
  ends = (r.served.items, ((kept, (r.served.hands, waits)), (serves_of w from to r.taken kept r.served, r.counted ∙ all)));
}

-- the link came to its end
at_end : (w : Origin) (reason : HttpEnd) (last : Option Refusal) (from mid to : At) (taken : List ℕ) (kept unread : Option (List ℕ)) → (s : Served w from taken kept mid)
    → HasItems taken (s.items ++ end_items last) → IsReadOut taken unread → to.caller ≡ mid.caller → EndsThere reason last mid.written to.written → EndsAs w IsSilent reason taken unread from to
at_end w reason (Some why) from mid to taken kept unread s has out same ends =
    stops_refused w reason from mid to s.items s.outcomes why taken unread s.comes s.keeps s.wrote (inr (has, out)) (inr (has, out)) same ends
at_end w end.Closed None from mid to taken kept unread s has out same ends = (
  s.items,
  (
    inr (subst (HasItems taken) (append-nil s.items) has, out),
    (
      s.requests,
      record {
        outcomes = s.outcomes;
        comes = subst (λ (p : Caller). ComesOfAll w from.caller s.items s.outcomes p) (sym same) s.comes;
        wrote = subst (λ (written : Option (List ℕ)). Appends from.written written (replies_to s.items s.outcomes)) (sym ends) s.wrote;
      },
    ),
  ),
)
at_end w (end.Refused code) None from mid to taken kept unread s has out same ends = absurd ends
at_end w end.ReadFault None from mid to taken kept unread s has out same ends = absurd ends
at_end w end.WriteFault None from mid to taken kept unread s has out same ends = absurd ends
at_end w end.LinkLimit None from mid to taken kept unread s has out same ends = absurd ends
at_end w end.Spent None from mid to taken kept unread s has out same ends = absurd ends
at_end w end.NoMemory None from mid to taken kept unread s has out same ends = absurd ends

pub ends_closed : (w : Origin) (reason : HttpEnd) (left left1 left2 kept : Option (List ℕ)) (from mid to : At) (count : ℕ) → Reached w left from count left1 kept mid → ForSome kept Awaits → count < 2 ^ 40
    → Keeps left1 left2 → IsAtEnd left2 → to.caller ≡ mid.caller → EndsThere reason (end_of kept) mid.written to.written → Ends w IsSilent reason left left2 from to
ends_closed w reason left left1 left2 kept from mid to count r waits few keeps none same ends = record {
  taken = r.taken;
  consumed = Consumes-kept left left1 left2 r.taken r.consumed keeps;
  ends = at_end w reason (end_of kept) from mid to r.taken kept left2 r.served (hands_end r.served.items r.taken kept r.served.hands waits)
      (record { ended = none; short = omega (arith, r.counted, few) }) same ends;
}

-- ---- where memory ran out

-- no other end says anything of that
tells_other : (w : Origin) (first second : Option (List ℕ) → Option (List ℕ) → Type 0) (reason : HttpEnd) (taken : List ℕ) (left : Option (List ℕ)) (from to : At) → (reason ≡ end.NoMemory → ⊥) → EndsAs w first reason taken left from to
    → EndsAs w second reason taken left from to
tells_other w first second end.Closed taken left from to other ends = ends
tells_other w first second (end.Refused code) taken left from to other ends = ends
tells_other w first second end.ReadFault taken left from to other ends = ends
tells_other w first second end.WriteFault taken left from to other ends = ends
tells_other w first second end.LinkLimit taken left from to other ends = ends
tells_other w first second end.Spent taken left from to other ends = ends
tells_other w first second end.NoMemory taken left from to other ends = absurd (other refl)

pub ends_told : (w : Origin) (failed : Type 0) (reason : HttpEnd) (left left' : Option (List ℕ)) (from to : At) → (reason ≡ end.NoMemory → ⊥) → Ends w IsSilent reason left left' from to
    → Ends w (TellsShort failed) reason left left' from to
ends_told w failed reason left left' from to other ends = record {
  taken = ends.taken;
  consumed = ends.consumed;
  ends = tells_other w IsSilent (TellsShort failed) reason ends.taken left' from to other ends.ends;
}

-- the link is told that memory ran out
pub ends_short : (w : Origin) (failed : Type 0) (left left' left2 : Option (List ℕ)) (from mid to : At) → Ends w IsSilent end.NoMemory left left' from mid → left2 ≡ left' → to.caller ≡ mid.caller
    → TellsShort failed mid.written to.written → Ends w (TellsShort failed) end.NoMemory left left2 from to
ends_short w failed left left' left2 from mid to ends unread same tells = record {
  taken = ends.taken;
  consumed = subst (λ (l : Option (List ℕ)). Consumes left l ends.taken) (sym unread) ends.consumed;
  ends = record {
    items = ends.ends.items;
    mid = ends.ends.mid;
    serves = ends.ends.serves;
    short = subst (λ (l : Option (List ℕ)). RunsShort w ends.taken l ends.ends.items ends.ends.mid.caller to.caller) (sym unread)
        (subst (λ (p : Caller). RunsShort w ends.taken left' ends.ends.items ends.ends.mid.caller p) (sym same) ends.ends.short);
    told = subst (λ (written : Option (List ℕ)). TellsShort failed written to.written) ends.ends.told tells;
  };
}

-- what was written of it
pub tells_short : {T E : Type 0} (r : Result T E) (failed : Type 0) (bytes : List ℕ) (before after : Option (List ℕ)) → bytes ≡ unavailable_reply → OnOk r (Appends before after bytes) → OnErr r (AppendsFront before after bytes)
    → OnErr r failed → TellsShort failed before after
tells_short (Ok x) failed bytes before after is wrote front fails = inl (subst (Appends before after) is wrote)
tells_short (Err e) failed bytes before after is wrote front fails = inr (subst (AppendsFront before after) is front, fails)

-- ---- what reads and writes leave as it is

-- where what is beside the calls of one kind is told by the other kind's words, these stay
pub apart : {L : Type 0} (beside : L → Option (List ℕ) × ℕ) (told : L → Option (List ℕ)) (faults : L → ℕ) (old new : L)
    → ((link : L) → beside link ≡ (told link, faults link)) → beside new ≡ beside old → (told new ≡ told old) × (faults new ≡ faults old)
apart beside told faults old new law same =
    let both : (told new, faults new) ≡ (told old, faults old) = sym (law new) ∙ same ∙ law old in
    (ap (λ (p : Option (List ℕ) × ℕ). p.0) both, ap (λ (p : Option (List ℕ) × ℕ). p.1) both)

-- a read writes nothing
pub reached_apart : (w : Origin) (left left1 kept : Option (List ℕ)) (from : At) (count : ℕ) (who : Caller) (written written' : Option (List ℕ)) → written' ≡ written
    → Reached w left from count left1 kept (record { caller = who; written = written }) → Reached w left from count left1 kept (record { caller = who; written = written' })
reached_apart w left left1 kept from count who written written' same r =
    subst (λ (x : Option (List ℕ)). Reached w left from count left1 kept (record { caller = who; written = x })) (sym same) r
