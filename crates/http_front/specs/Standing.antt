-- Where the service of a link stands in the middle of it.
use Rattle.std.specs.Prelude.{◌≡◌, ◌≢◌, ℕ, Bool, true, false, List, ◌++◌, Option, Some, None, length, ◌+◌, map, ⊤}
use Rattle.std.specs.Option.{ForSome}
use Rattle.std.specs.Io.KnownBytes.{Appends, Consumes}
use Rattle.outside_io.specs.Sink.{AppendsFront}
use Rattle.shared_store.specs.Passes.{IsSpent}
use Rattle.http_wire.specs.Answers.{KeepLink, ends_link_with}
use Rattle.http_wire.specs.Codes.{code_of}
use Rattle.http_wire.specs.Cuts.{Awaits}
use Rattle.http_wire.specs.Reading.{HandsOut, HasRoom, Reading}
use Rattle.http_wire.specs.Requests.{Asked, Item, Request, Refused}
use Rattle.http_wire.specs.declared.reader.Handed.{Handed}
use Rattle.http_wire.specs.declared.reader.Handed.TheVariants as handed
use Rattle.http_wire.specs.declared.refusal.Refusal.{Refusal}
use Rattle.http_front.specs.Origin.{At, Origin}
use Rattle.http_front.specs.Outcomes.{answer_of, replies_to, reply_to}
use Rattle.http_front.specs.Links.{AreRequests, ComesOfAll, ComesOfItem, EndsAs, RunsShortAt}
use Rattle.http_front.specs.declared.ends.HttpEnd.{HttpEnd}
use Rattle.http_front.specs.declared.ends.HttpEnd.TheVariants as end
use Rattle.http_front.specs.declared.outcome.Outcome.{Outcome}
use Rattle.http_front.specs.declared.outcome.Outcome.TheVariants as outcome

-- a reader has room for more, and what it holds awaits more
pub record IsOpen (left : Option (List ℕ)) : Type 0 where
  pub room : HasRoom left
  pub waits : ForSome left Awaits

-- ---- one item

-- why a reply was not written whole
abbrev pub FailsToReply : HttpEnd → List ℕ → Option (List ℕ) → Option (List ℕ) → Type 0
FailsToReply end.WriteFault reply before after = AppendsFront before after reply
FailsToReply end.NoMemory reply before after = after ≡ before
FailsToReply reason reply before after = ⊥

-- An item had its outcome and its reply, after which the link ends or not.
pub record ServesItem (w : Origin) (item : Item) (ends : Bool) (from to : At) : Type 0 where
  pub outcome : Outcome
  pub comes : ComesOfItem w item outcome from.caller to.caller
  pub ending : ends_link_with item (answer_of outcome) ≡ ends
  pub wrote : Appends from.written to.written (reply_to item outcome)

-- it had its outcome, and only a front of its reply
pub record FailsItem (w : Origin) (item : Item) (from to : At) : Type 0 where
  pub outcome : Outcome
  pub comes : ComesOfItem w item outcome from.caller to.caller
  pub wrote : AppendsFront from.written to.written (reply_to item outcome)

-- the same of a request
abbrev pub ServesRequest : Origin → Asked → Bool → At → At → Type 0
ServesRequest w asked ends from to = ServesItem w (Request asked) ends from to

-- The link ends with a request.
abbrev pub StopsRequest : Origin → HttpEnd → Asked → At → At → Type 0
StopsRequest w end.Closed asked from to = ServesRequest w asked true from to
StopsRequest w end.WriteFault asked from to = FailsItem w (Request asked) from to
StopsRequest w end.Spent asked from to = (to ≡ from) × IsSpent to.caller.pass
StopsRequest w end.NoMemory asked from to =
    RunsShortAt w (Request asked) from.caller to.caller × (to.written ≡ from.written)
StopsRequest w reason asked from to = ⊥

-- the reply to a refusal
abbrev pub refusal_reply : Refusal → List ℕ
refusal_reply why = reply_to (Refused why) (outcome.Refused why)

-- it ends with a refusal, which enters nothing
abbrev pub StopsRefused : HttpEnd → Refusal → Option (List ℕ) → Option (List ℕ) → Type 0
StopsRefused (end.Refused code) why before after = (code ≡ code_of why) × Appends before after (refusal_reply why)
StopsRefused end.WriteFault why before after = AppendsFront before after (refusal_reply why)
StopsRefused end.NoMemory why before after = after ≡ before
StopsRefused reason why before after = ⊥

-- or where its bytes end, with a refusal or none
abbrev pub EndsThere : HttpEnd → Option Refusal → Option (List ℕ) → Option (List ℕ) → Type 0
EndsThere reason (Some why) before after = StopsRefused reason why before after
EndsThere end.Closed None before after = after ≡ before
EndsThere reason None before after = ⊥

-- ---- what was handed out

-- a request that was handed out can be read
abbrev pub IsHandedOut : Handed → Reading → Type 0
IsHandedOut handed.Request reading = reading.current ≢ None
IsHandedOut (handed.Refused why) reading = ⊤

-- what was handed out is a request, which was served
abbrev pub ServesHanded : Origin → Handed → Option Asked → At → At → Type 0
ServesHanded w handed.Request current from to =
    (asked : Asked) × ((current ≡ Some asked) × ServesRequest w asked false from to)
ServesHanded w (handed.Refused why) current from to = ⊥

-- the link ends with what was handed out
abbrev pub StopsHanded : Origin → HttpEnd → Handed → Option Asked → At → At → Type 0
StopsHanded w reason handed.Request current from to =
    (asked : Asked) × ((current ≡ Some asked) × StopsRequest w reason asked from to)
StopsHanded w reason (handed.Refused why) current from to =
    (to.caller ≡ from.caller) × StopsRefused reason why from.written to.written

-- ---- whole pieces

-- All requests that were handed out of the bytes `taken` were served, and the link goes on with what is left.
pub record Served (w : Origin) (from : At) (taken : List ℕ) (left : Option (List ℕ)) (to : At) : Type 0 where
  pub items : List Item
  pub outcomes : List Outcome
  pub hands : HandsOut items taken left
  pub requests : AreRequests items
  pub comes : ComesOfAll w from.caller items outcomes to.caller
  pub keeps : KeepLink items (map answer_of outcomes)
  pub wrote : Appends from.written to.written (replies_to items outcomes)

-- whatever was taken before, what waited was served
abbrev pub Proceeds : Origin → Option (List ℕ) → At → Option (List ℕ) → At → Type 0
Proceeds w left mid left' to = (from : At) (taken : List ℕ) → Served w from taken left mid → Served w from taken left' to

-- the same of a piece that came
abbrev pub TakesPiece : Origin → Option (List ℕ) → At → List ℕ → Option (List ℕ) → At → Type 0
TakesPiece w left mid piece left' to = (from : At) (taken : List ℕ) → Served w from taken left mid → Served w from (taken ++ piece) left' to

-- nothing is told yet where memory ran out
abbrev pub IsSilent : Option (List ℕ) → Option (List ℕ) → Type 0
IsSilent before after = after ≡ before

-- no read fails in a piece, and it is not the limit
abbrev pub IsPieceEnd : HttpEnd → Type 0
IsPieceEnd end.ReadFault = ⊥
IsPieceEnd end.LinkLimit = ⊥
IsPieceEnd reason = ⊤

-- Whatever was taken before, the link ends in a piece, which is taken whole.
abbrev pub BreaksOff : Origin → HttpEnd → Option (List ℕ) → At → List ℕ → At → Type 0
BreaksOff w reason left mid piece to =
    IsPieceEnd reason × ((from : At) (taken : List ℕ) (unread : Option (List ℕ)) → Served w from taken left mid
    → EndsAs w IsSilent reason (taken ++ piece) unread from to)

-- Whatever was taken before, and of a piece behind it, the link ends with what waited.
abbrev pub BreaksHere : Origin → HttpEnd → Option (List ℕ) → At → At → Type 0
BreaksHere w reason left mid to =
    IsPieceEnd reason × ((from : At) (taken behind : List ℕ) (unread : Option (List ℕ)) → Served w from taken left mid
    → EndsAs w IsSilent reason (taken ++ behind) unread from to)

-- ---- the link

-- So many bytes were taken of what was left, and all requests in them were served.
pub record Reached (w : Origin) (left : Option (List ℕ)) (from : At) (count : ℕ) (left' : Option (List ℕ)) (open_bytes : Option (List ℕ)) (to : At) : Type 0 where
  pub taken : List ℕ
  pub consumed : Consumes left left' taken
  pub counted : length taken ≡ count
  pub served : Served w from taken open_bytes to

-- how many bytes wait at most
abbrev pub waiting_count : Option (List ℕ) → ℕ
waiting_count None = 0
waiting_count (Some held) = length held + 1
