-- How the service of a link gets on, request by request and piece by piece.
use Rattle.std.proofs.Common.{◌≡◌, inl, inr, ℕ, ◌<◌, ◌+◌, Bool, true, false, List, [], ◌∷◌, ◌++◌, length, take, drop, map, Option, Some, None, cond, refl, sym, ap, ◌∙◌, subst, append_assoc, append-nil, take-append-drop, arith, length-append}
use Rattle.std.proofs.Math.Bool.{or-false}
use Rattle.std.specs.Io.KnownBytes.{Appends}
use Rattle.std.proofs.Math.Seq.{take-add}
use Rattle.outside_io.proofs.Known.{Appends-none}
use Rattle.httparse.specs.Grammar.{RequestHead, print_blank, print_end, print_request, print_section, print_version}
use Rattle.httparse.proofs.GrammarLemmas.{print_request-append}
use Rattle.shared_store.specs.Passes.{HasRoom}
use Rattle.http_wire.specs.Answers.{KeepLink, ends_link_with}
use Rattle.http_wire.specs.Reading.{HandsNext, HandsOut, Reading, Takes, handed_items, left_behind}
use Rattle.http_wire.specs.Requests.{Asked, Begins, HasItems, Item, Request, Refused}
use Rattle.http_wire.specs.declared.reader.Handed.{Handed}
use Rattle.http_wire.specs.declared.reader.Handed.TheVariants as out
use Rattle.http_wire.specs.declared.refusal.Refusal.{Refusal}
use Rattle.http_wire.proofs.RequestLemmas.{hands_feed, hands_next, hands_start}
use Rattle.http_front.specs.Links.{AreAllOf, AreFirstOf, BeginWith, ComesOfAll, EndsAs, Serves}
use Rattle.http_front.specs.Origin.{At, Origin}
use Rattle.http_front.specs.Outcomes.{answer_of, replies_to, reply_to}
use Rattle.http_front.specs.Requests.{ComesOf}
use Rattle.http_front.specs.Standing.{BreaksHere, BreaksOff, FailsToReply, IsPieceEnd, IsSilent, Proceeds, Served, ServesHanded, ServesItem, refusal_reply, StopsHanded, StopsRefused, StopsRequest, TakesPiece, waiting_count}
use Rattle.http_front.specs.declared.ends.HttpEnd.{HttpEnd}
use Rattle.http_front.specs.declared.ends.HttpEnd.TheVariants as end
use Rattle.http_front.specs.declared.outcome.Outcome.{Outcome}
use Rattle.http_front.specs.declared.outcome.Outcome.TheVariants as outcome
use Rattle.http_front.proofs.LinkLemmas.{answers_more, comes_more, keeps_more, requests_more, serves_more, wrote_more}

-- ---- requests that wait

-- nothing was served yet
pub served_start : (w : Origin) (from : At) → Served w from [] (Some []) from
served_start w from = record {
  items = [];
  outcomes = [];
  hands = hands_start;
  requests = tt;
  comes = refl;
  keeps = tt;
  wrote = Appends-none from.written;
}

-- what was served, as items and what came of them
serves_of : (w : Origin) (from to : At) (taken : List ℕ) (left : Option (List ℕ)) → (s : Served w from taken left to) → Serves w s.items from to
serves_of w from to taken left s = record { outcomes = s.outcomes; comes = s.comes; wrote = s.wrote }

-- a request more was handed out and served
served_more : (w : Origin) (from mid to : At) (taken : List ℕ) (old new : Reading) (asked : Asked) → Served w from taken old.left mid → HandsNext (Some out.Request) old new
    → new.current ≡ Some asked → ServesItem w (Request asked) false mid to → Served w from taken new.left to
served_more w from mid to taken old new asked s hands current one = record {
  items = s.items ++ Request asked ∷ [];
  outcomes = s.outcomes ++ one.outcome ∷ [];
  hands = subst (λ (c : Option Asked). HandsOut (s.items ++ handed_items (Some out.Request) c) taken new.left) current
      (hands_next s.items taken (Some out.Request) old new s.hands hands);
  requests = requests_more s.items asked s.requests;
  comes = comes_more w from.caller s.items s.outcomes mid.caller (Request asked) one.outcome to.caller s.comes one.comes;
  keeps = subst (KeepLink (s.items ++ Request asked ∷ [])) (sym (answers_more s.outcomes one.outcome))
      (keeps_more s.items (map answer_of s.outcomes) (Request asked) (answer_of one.outcome) s.keeps one.ending);
  wrote = wrote_more from.written mid.written to.written s.items s.outcomes (Request asked) one.outcome s.keeps s.wrote one.wrote;
}

-- nothing more was handed out
pub proceeds_none : (w : Origin) (left : Option (List ℕ)) (from mid : At) (old new : Reading) → Proceeds w left from old.left mid → HandsNext None old new → Proceeds w left from new.left mid
proceeds_none w left from mid old new before hands =
    λ first taken s. subst (λ (r : Reading). Served w first taken r.left mid) (sym hands.0) (before first taken s)

-- one more was, and was served
pub proceeds_more : (w : Origin) (left : Option (List ℕ)) (from mid to : At) (handed : Handed) (old new : Reading) → Proceeds w left from old.left mid → HandsNext (Some handed) old new
    → ServesHanded w handed new.current mid to → Proceeds w left from new.left to
proceeds_more w left from mid to out.Request old new before hands serves =
    λ first taken s. served_more w first mid to taken old new serves.0 (before first taken s) hands serves.1.0 serves.1.1
proceeds_more w left from mid to (out.Refused why) old new before hands serves = absurd serves

pub proceeds_start : (w : Origin) (left : Option (List ℕ)) (from : At) → Proceeds w left from left from
proceeds_start w left from first taken s = s

-- ---- the end at what was handed out

-- what was handed out stays first, whatever was taken besides
first_of : (taken behind : List ℕ) (items : List Item) (left : Option (List ℕ)) → HandsOut items taken left → AreFirstOf (taken ++ behind) items
first_of taken behind items left hands = record {
  front = taken;
  behind = behind;
  split = refl;
  waiting = left;
  hands = hands;
}

-- the link is over with these
all_of : (taken behind : List ℕ) (items : List Item) → HandsOut items taken None → (more : List ℕ) → HasItems ((taken ++ behind) ++ more) items
all_of taken behind items hands more =
    subst (λ (bytes : List ℕ). HasItems bytes items) (sym (append_assoc taken behind more))
    (subst (HasItems (taken ++ (behind ++ more))) (append-nil items) (hands (behind ++ more) [] refl))

-- only a request that is the last one ends a link
is_last_of : (asked : Asked) (o : Outcome) → ends_link_with (Request asked) (answer_of o) ≡ true → asked.is_last ≡ true
is_last_of asked (outcome.Found kind body) ends = sym (or-false asked.is_last) ∙ ends
is_last_of asked (outcome.Unanswerable text) ends = sym (or-false asked.is_last) ∙ ends
is_last_of asked (outcome.Refused why) ends = sym (or-false asked.is_last) ∙ ends
is_last_of asked outcome.DiskFault ends = sym (or-false asked.is_last) ∙ ends

-- behind it nothing is left
over : (asked : Asked) (o : Outcome) (old new : Reading) → HandsNext (Some out.Request) old new → new.current ≡ Some asked → ends_link_with (Request asked) (answer_of o) ≡ true
    → new.left ≡ None
over asked o old new hands is ends =
    let both : ◌≡◌ {A = Option Asked} (Some hands.1) (Some asked) = sym (ap (λ (r : Reading). r.current) hands.5) ∙ is in
    let same : hands.1 ≡ asked = cc in
    let last : hands.1.is_last ≡ true = ap (λ (a : Asked). a.is_last) same ∙ is_last_of asked o ends in
    ap (λ (r : Reading). r.left) hands.5 ∙ ap (λ (b : Bool). cond b None (Some hands.2)) last

-- with the item that was handed out
hands_asked : (items : List Item) (taken : List ℕ) (old new : Reading) (asked : Asked) → HandsOut items taken old.left → HandsNext (Some out.Request) old new → new.current ≡ Some asked
    → HandsOut (items ++ Request asked ∷ []) taken new.left
hands_asked items taken old new asked before hands current =
    subst (λ (c : Option Asked). HandsOut (items ++ handed_items (Some out.Request) c) taken new.left) current
    (hands_next items taken (Some out.Request) old new before hands)

hands_refused : (items : List Item) (taken : List ℕ) (old new : Reading) (why : Refusal) → HandsOut items taken old.left → HandsNext (Some (out.Refused why)) old new
    → HandsOut (items ++ Refused why ∷ []) taken None
hands_refused items taken old new why before hands =
    subst (HandsOut (items ++ Refused why ∷ []) taken) (ap (λ (r : Reading). r.left) hands.3)
    (hands_next items taken (Some (out.Refused why)) old new before hands)

-- a reply to a refusal is that of an item
refused_item : (w : Origin) (why : Refusal) (mid to : At) → to.caller ≡ mid.caller → Appends mid.written to.written (reply_to (Refused why) (outcome.Refused why)) → ServesItem w (Refused why) true mid to
refused_item w why mid to same wrote = record { outcome = outcome.Refused why; comes = (refl, same); ending = refl; wrote = wrote }

-- the link ends with a request
stops_request : (w : Origin) (reason : HttpEnd) (from mid to : At) (taken behind : List ℕ) (unread : Option (List ℕ)) (old new : Reading) (asked : Asked) → Served w from taken old.left mid
    → HandsNext (Some out.Request) old new → new.current ≡ Some asked → StopsRequest w reason asked mid to → EndsAs w IsSilent reason (taken ++ behind) unread from to
stops_request w end.Closed from mid to taken behind unread old new asked s hands current one =
    let handed = hands_asked s.items taken old new asked s.hands hands current in
    let all = subst (HandsOut (s.items ++ Request asked ∷ []) taken) (over asked one.outcome old new hands current one.ending) handed in (
      s.items ++ Request asked ∷ [],
      (
        inl (all_of taken behind (s.items ++ Request asked ∷ []) all),
        (
          requests_more s.items asked s.requests,
          serves_more w from mid to s.items s.outcomes (Request asked) true s.comes s.keeps s.wrote one,
        ),
      ),
    )
stops_request w (end.Refused code) from mid to taken behind unread old new asked s hands current one = absurd one
stops_request w end.ReadFault from mid to taken behind unread old new asked s hands current one = absurd one
stops_request w end.LinkLimit from mid to taken behind unread old new asked s hands current one = absurd one
stops_request w end.WriteFault from mid to taken behind unread old new asked s hands current one = (
  s.items,
  Request asked,
  (
    inl (first_of taken behind (s.items ++ Request asked ∷ []) new.left (hands_asked s.items taken old new asked s.hands hands current)),
    record { mid = mid; serves = serves_of w from mid taken old.left s; outcome = one.outcome; comes = one.comes; wrote = one.wrote },
  ),
)
stops_request w end.Spent from mid to taken behind unread old new asked s hands current one = (
  s.items,
  asked,
  (
    inl (first_of taken behind (s.items ++ Request asked ∷ []) new.left (hands_asked s.items taken old new asked s.hands hands current)),
    (subst (λ (p : At). Serves w s.items from p) (sym one.0) (serves_of w from mid taken old.left s), one.1),
  ),
)
stops_request w end.NoMemory from mid to taken behind unread old new asked s hands current one = record {
  items = s.items;
  mid = mid;
  serves = serves_of w from mid taken old.left s;
  short = inr (
    Request asked,
    (inl (first_of taken behind (s.items ++ Request asked ∷ []) new.left (hands_asked s.items taken old new asked s.hands hands current)), one.0),
  );
  told = one.1;
}

-- the link ends with a refusal, of which this is known
pub stops_refused : (w : Origin) (reason : HttpEnd) (from mid to : At) (items : List Item) (outcomes : List Outcome) (why : Refusal) (taken : List ℕ) (unread : Option (List ℕ))
    → ComesOfAll w from.caller items outcomes mid.caller → KeepLink items (map answer_of outcomes) → Appends from.written mid.written (replies_to items outcomes)
    → AreAllOf taken unread (items ++ Refused why ∷ []) → BeginWith taken unread (items ++ Refused why ∷ [])
    → to.caller ≡ mid.caller → StopsRefused reason why mid.written to.written → EndsAs w IsSilent reason taken unread from to
stops_refused w (end.Refused code) from mid to items outcomes why taken unread comes keeps wrote all begins same stops =
    (items, why, (all, (stops.0, serves_more w from mid to items outcomes (Refused why) true comes keeps wrote (refused_item w why mid to same stops.1))))
stops_refused w end.WriteFault from mid to items outcomes why taken unread comes keeps wrote all begins same stops =
    (items, Refused why, (begins, record { mid = mid; serves = record { outcomes = outcomes; comes = comes; wrote = wrote }; outcome = outcome.Refused why; comes = (refl, same); wrote = stops }))
stops_refused w end.NoMemory from mid to items outcomes why taken unread comes keeps wrote all begins same stops = record {
  items = items;
  mid = mid;
  serves = record { outcomes = outcomes; comes = comes; wrote = wrote };
  short = inr (Refused why, (begins, same));
  told = stops;
}
stops_refused w end.Closed from mid to items outcomes why taken unread comes keeps wrote all begins same stops = absurd stops
stops_refused w end.ReadFault from mid to items outcomes why taken unread comes keeps wrote all begins same stops = absurd stops
stops_refused w end.LinkLimit from mid to items outcomes why taken unread comes keeps wrote all begins same stops = absurd stops
stops_refused w end.Spent from mid to items outcomes why taken unread comes keeps wrote all begins same stops = absurd stops

-- which is no failed read, and not the limit
end_of_request : (w : Origin) (reason : HttpEnd) (asked : Asked) (mid to : At) → StopsRequest w reason asked mid to → IsPieceEnd reason
end_of_request w end.Closed asked mid to stops = tt
end_of_request w (end.Refused code) asked mid to stops = tt
end_of_request w end.ReadFault asked mid to stops = absurd stops
end_of_request w end.WriteFault asked mid to stops = tt
end_of_request w end.LinkLimit asked mid to stops = absurd stops
end_of_request w end.Spent asked mid to stops = tt
end_of_request w end.NoMemory asked mid to stops = tt

end_of_refusal : (reason : HttpEnd) (why : Refusal) (before after : Option (List ℕ)) → StopsRefused reason why before after → IsPieceEnd reason
end_of_refusal end.Closed why before after stops = tt
end_of_refusal (end.Refused code) why before after stops = tt
end_of_refusal end.ReadFault why before after stops = absurd stops
end_of_refusal end.WriteFault why before after stops = tt
end_of_refusal end.LinkLimit why before after stops = absurd stops
end_of_refusal end.Spent why before after stops = tt
end_of_refusal end.NoMemory why before after stops = tt

-- the link ends with what was handed out
pub breaks_handed : (w : Origin) (reason : HttpEnd) (left : Option (List ℕ)) (start mid to : At) (handed : Handed) (old new : Reading) → Proceeds w left start old.left mid → HandsNext (Some handed) old new
    → StopsHanded w reason handed new.current mid to → BreaksHere w reason left start to
breaks_handed w reason left start mid to out.Request old new before hands stops = (
  end_of_request w reason stops.0 mid to stops.1.1,
  λ from taken behind unread s. stops_request w reason from mid to taken behind unread old new stops.0 (before from taken s) hands stops.1.0 stops.1.1,
)
breaks_handed w reason left start mid to (out.Refused why) old new before hands stops = (
  end_of_refusal reason why mid.written to.written stops.1,
  λ from taken behind unread s.
      let t = before from taken s in
      let handed = hands_refused t.items taken old new why t.hands hands in
      stops_refused w reason from mid to t.items t.outcomes why (taken ++ behind) unread t.comes t.keeps t.wrote
      (inl (all_of taken behind (t.items ++ Refused why ∷ []) handed)) (inl (first_of taken behind (t.items ++ Refused why ∷ []) None handed)) stops.0 stops.1,
)

-- ---- pieces

-- nothing of a piece was taken
pub takes_start : (w : Origin) (left : Option (List ℕ)) (mid : At) → TakesPiece w left mid [] left mid
takes_start w left mid from taken s = subst (λ (bytes : List ℕ). Served w from bytes left mid) (sym (append-nil taken)) s

-- a front of what comes next was put behind what is left
served_feed : (w : Origin) (from to : At) (taken piece : List ℕ) (count : ℕ) (left left' : Option (List ℕ)) → Served w from taken left to → Takes left piece count left'
    → Served w from (taken ++ take count piece) left' to
served_feed w from to taken piece count left left' s takes = record {
  items = s.items;
  outcomes = s.outcomes;
  hands = hands_feed s.items taken piece count left left' s.hands takes;
  requests = s.requests;
  comes = s.comes;
  keeps = s.keeps;
  wrote = s.wrote;
}

-- it was, and what then waited was served
pub takes_more : (w : Origin) (left left1 left2 left3 : Option (List ℕ)) (start mid to : At) (piece : List ℕ) (at count : ℕ) → TakesPiece w left start (take at piece) left1 mid
    → Takes left1 (drop at piece) count left2 → Proceeds w left2 mid left3 to → TakesPiece w left start (take (at + count) piece) left3 to
takes_more w left left1 left2 left3 start mid to piece at count before takes more =
    λ from taken s. subst (λ (bytes : List ℕ). Served w from bytes left3 to)
    (append_assoc taken (take at piece) (take count (drop at piece)) ∙ ap (λ (bytes : List ℕ). taken ++ bytes) (sym (take-add at count piece)))
    (more from ((taken ++ take at piece) ++ take count (drop at piece)) (served_feed w from mid (taken ++ take at piece) (drop at piece) count left1 left2 (before from taken s) takes))

-- the link ended with what then waited
pub breaks_waiting : (w : Origin) (reason : HttpEnd) (left left1 left2 : Option (List ℕ)) (start mid to : At) (piece : List ℕ) (at count : ℕ) → TakesPiece w left start (take at piece) left1 mid
    → Takes left1 (drop at piece) count left2 → BreaksHere w reason left2 mid to → BreaksOff w reason left start piece to
breaks_waiting w reason left left1 left2 start mid to piece at count before takes breaks = (
  breaks.0,
  λ from taken unread s. subst (λ (bytes : List ℕ). EndsAs w IsSilent reason bytes unread from to) (whole taken)
      (breaks.1 from ((taken ++ take at piece) ++ take count (drop at piece)) (drop count (drop at piece)) unread
      (served_feed w from mid (taken ++ take at piece) (drop at piece) count left1 left2 (before from taken s) takes)),
)
  where
    whole : (taken : List ℕ) → ((taken ++ take at piece) ++ take count (drop at piece)) ++ drop count (drop at piece) ≡ taken ++ piece
    whole taken =
        append_assoc (taken ++ take at piece) (take count (drop at piece)) (drop count (drop at piece))
        ∙ ap (λ (bytes : List ℕ). (taken ++ take at piece) ++ bytes) (take-append-drop count (drop at piece))
        ∙ append_assoc taken (take at piece) (drop at piece) ∙ ap (λ (bytes : List ℕ). taken ++ bytes) (take-append-drop at piece)

-- there was no memory for the rest of a piece
pub breaks_short : (w : Origin) (left left1 : Option (List ℕ)) (start mid : At) (piece : List ℕ) (at : ℕ) → TakesPiece w left start (take at piece) left1 mid → BreaksOff w end.NoMemory left start piece mid
breaks_short w left left1 start mid piece at before = (
  tt,
  λ from taken unread s.
      let t = before from taken s in
      let split : (taken ++ take at piece) ++ drop at piece ≡ taken ++ piece = append_assoc taken (take at piece) (drop at piece) ∙ ap (λ (bytes : List ℕ). taken ++ bytes) (take-append-drop at piece) in
      record {
        items = t.items;
        mid = mid;
        serves = serves_of w from mid (taken ++ take at piece) left1 t;
        short = inl (subst (λ (bytes : List ℕ). AreFirstOf bytes t.items) split (first_of (taken ++ take at piece) (drop at piece) t.items left1 t.hands), refl);
        told = refl;
      },
)

-- ---- a request has bytes

head_long : (head : RequestHead) → 0 < length (print_request head)
head_long head =
    let tail = head.target ++ 32 ∷ (print_version head.minor ++ (print_end head.line_end ++ (print_section head.fields head.last ++ []))) in
    let all : print_request head ++ [] ≡ print_blank head.blank ++ (head.method ++ 32 ∷ tail) = print_request-append head [] in
    omega (
      arith,
      ap (λ (bytes : List ℕ). length bytes) all,
      length-append (print_request head) [],
      length-append (print_blank head.blank) (head.method ++ 32 ∷ tail),
      length-append head.method (32 ∷ tail),
    )

begins_long : (bytes : List ℕ) (asked : Asked) (rest : List ℕ) → Begins bytes asked rest → length rest < length bytes
begins_long bytes asked rest begins = omega (
  arith,
  ap (λ (l : List ℕ). length l) begins.2.reads.1,
  head_long begins.0,
  length-append (print_request begins.0) (begins.1 ++ rest),
  length-append begins.1 rest,
)

left_count : (asked : Asked) (rest : List ℕ) (n : ℕ) → length rest < n → waiting_count (left_behind asked rest) < n + 1
left_count asked rest n long = count asked.is_last
  where
    count : (last : Bool) → waiting_count (cond last None (Some rest)) < n + 1
    count true = omega arith
    count false = omega (arith, long)

-- fewer bytes wait behind a request that was handed out
pub waits_less : (old new : Reading) → HandsNext (Some out.Request) old new → waiting_count new.left < waiting_count old.left
waits_less old new hands =
    subst (λ (l : Option (List ℕ)). waiting_count new.left < waiting_count l) (sym hands.3)
    (subst (λ (r : Reading). waiting_count r.left < length hands.0 + 1) (sym hands.5)
    (left_count hands.1 hands.2 (length hands.0) (begins_long hands.0 hands.1 hands.2 hands.4)))

-- the same of what was handed out and served
pub waits_fewer : (w : Origin) (handed : Handed) (old new : Reading) (mid to : At) → HandsNext (Some handed) old new → ServesHanded w handed new.current mid to → waiting_count new.left < waiting_count old.left
waits_fewer w out.Request old new mid to hands serves = waits_less old new hands
waits_fewer w (out.Refused why) old new mid to hands serves = absurd serves

-- ---- one request

-- its reply was not written whole
pub fails_request : (w : Origin) (reason : HttpEnd) (asked : Asked) (o : Outcome) (from to : At) → HasRoom from.caller.pass → ComesOf w asked o from.caller to.caller
    → FailsToReply reason (reply_to (Request asked) o) from.written to.written → StopsRequest w reason asked from to
fails_request w end.WriteFault asked o from to room comes fails = record { outcome = o; comes = (room, comes); wrote = fails }
fails_request w end.NoMemory asked o from to room comes fails = ((room, inr (o, comes)), fails)
fails_request w end.Closed asked o from to room comes fails = absurd fails
fails_request w (end.Refused code) asked o from to room comes fails = absurd fails
fails_request w end.ReadFault asked o from to room comes fails = absurd fails
fails_request w end.LinkLimit asked o from to room comes fails = absurd fails
fails_request w end.Spent asked o from to room comes fails = absurd fails

-- nor that to a refusal
pub fails_refused : (reason : HttpEnd) (why : Refusal) (before after : Option (List ℕ)) → FailsToReply reason (refusal_reply why) before after → StopsRefused reason why before after
fails_refused end.WriteFault why before after fails = fails
fails_refused end.NoMemory why before after fails = fails
fails_refused end.Closed why before after fails = absurd fails
fails_refused (end.Refused code) why before after fails = absurd fails
fails_refused end.ReadFault why before after fails = absurd fails
fails_refused end.LinkLimit why before after fails = absurd fails
fails_refused end.Spent why before after fails = absurd fails
