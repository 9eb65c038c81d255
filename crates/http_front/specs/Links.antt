-- What the service of a link comes to.
use Rattle.std.specs.Prelude.{◌≡◌, ◌⊎◌, ◌<◌, ◌^◌, ℕ, List, [], ◌∷◌, ◌++◌, Option, length, ⊤}
use Rattle.std.specs.Io.KnownBytes.{Appends, Consumes, IsAtEnd}
use Rattle.std.specs.Option.{ForSome}
use Rattle.outside_io.specs.Sink.{AppendsFront}
use Rattle.shared_history.specs.Parts.{PassValue}
use Rattle.shared_store.specs.Passes.{HasRoom, IsSpent}
use Rattle.http_wire.specs.Codes.{code_of}
use Rattle.http_wire.specs.Cuts.{Awaits}
use Rattle.http_wire.specs.Reading.{HandsOut}
use Rattle.http_wire.specs.Requests.{Asked, HasItems, Item, Request, Refused}
use Rattle.http_wire.specs.declared.refusal.Refusal.{Refusal}
use Rattle.http_front.specs.Origin.{At, Caller, Origin}
use Rattle.http_front.specs.Outcomes.{replies_to, reply_to, unavailable_reply}
use Rattle.http_front.specs.Requests.{ComesOf, IsRefused, ShortOf}
use Rattle.http_front.specs.declared.ends.HttpEnd.{HttpEnd}
use Rattle.http_front.specs.declared.ends.HttpEnd.TheVariants as end
use Rattle.http_front.specs.declared.outcome.Outcome.{Outcome}

-- ---- the items of a link

-- What comes of an item: a refusal is its own outcome, and a request comes by a pass that has room for what it may enter.
abbrev pub ComesOfItem : Origin → Item → Outcome → Caller → Caller → Type 0
ComesOfItem w (Refused why) outcome old new = IsRefused why outcome old new
ComesOfItem w (Request asked) outcome old new = HasRoom old.pass × ComesOf w asked outcome old new

-- The same of items one after the other. Between them nothing is entered, and the clock is not read.
abbrev pub ComesOfAll : Origin → Caller → List Item → List Outcome → Caller → Type 0
ComesOfAll w old [] [] new = new ≡ old
ComesOfAll w old (item ∷ items) (outcome ∷ outcomes) new =
    (mid : Caller) × (ComesOfItem w item outcome old mid × ComesOfAll w mid items outcomes new)
ComesOfAll w old items outcomes new = ⊥

-- Each of these items had its outcome and its reply; nothing else was entered or written.
pub record Serves (w : Origin) (items : List Item) (from to : At) : Type 0 where
  pub outcomes : List Outcome
  pub comes : ComesOfAll w from.caller items outcomes to.caller
  pub wrote : Appends from.written to.written (replies_to items outcomes)

-- The same of all but the last item, of whose reply only a front was written.
pub record ServesPart (w : Origin) (items : List Item) (item : Item) (from to : At) : Type 0 where
  pub mid : At
  pub serves : Serves w items from mid
  pub outcome : Outcome
  pub comes : ComesOfItem w item outcome mid.caller to.caller
  pub wrote : AppendsFront mid.written to.written (reply_to item outcome)

-- ---- which items they are

abbrev pub AreRequests : List Item → Type 0
AreRequests [] = ⊤
AreRequests (Request asked ∷ items) = AreRequests items
AreRequests (Refused why ∷ items) = ⊥

-- the link was read to its end, before its limit
pub record IsReadOut (taken : List ℕ) (left : Option (List ℕ)) : Type 0 where
  pub ended : IsAtEnd left
  pub short : length taken < 2 ^ 40

-- All of the link's bytes, of which these were taken, come to these items: whatever follows, or as nothing does.
abbrev pub AreAllOf : List ℕ → Option (List ℕ) → List Item → Type 0
AreAllOf taken left items =
    ((more : List ℕ) → HasItems (taken ++ more) items) ⊎ (HasItems taken items × IsReadOut taken left)

-- These are the items that are whole in the bytes, of which nothing more can be said before others follow.
abbrev pub AreWholeIn : List ℕ → List Item → Type 0
AreWholeIn taken items = (waiting : Option (List ℕ)) × (HandsOut items taken waiting × ForSome waiting Awaits)

-- What a link comes to begins with these items, whatever follows: they are in a front of the bytes that were taken.
pub record AreFirstOf (taken : List ℕ) (items : List Item) : Type 0 where
  pub front : List ℕ
  pub behind : List ℕ
  pub split : taken ≡ front ++ behind
  pub waiting : Option (List ℕ)
  pub hands : HandsOut items front waiting

-- the same, or all that it comes to as nothing follows
abbrev pub BeginWith : List ℕ → Option (List ℕ) → List Item → Type 0
BeginWith taken left items = AreFirstOf taken items ⊎ (HasItems taken items × IsReadOut taken left)

-- ---- its ends

-- Memory ran out at an item: before anything came of it, or for its reply.
abbrev pub RunsShortAt : Origin → Item → Caller → Caller → Type 0
RunsShortAt w (Refused why) old new = new ≡ old
RunsShortAt w (Request asked) old new =
    HasRoom old.pass × (ShortOf w asked old new ⊎ ((outcome : Outcome) × ComesOf w asked outcome old new))

-- The first items were served, and memory ran out between two items, or at the one that follows.
abbrev pub RunsShort : Origin → List ℕ → Option (List ℕ) → List Item → Caller → Caller → Type 0
RunsShort w taken left items old new =
    (AreFirstOf taken items × (new ≡ old))
    ⊎ ((item : Item) × (BeginWith taken left (items ++ item ∷ []) × RunsShortAt w item old new))

-- They had their replies, and this was told then.
pub record ServesShort (w : Origin) (tells : Option (List ℕ) → Option (List ℕ) → Type 0) (taken : List ℕ) (left : Option (List ℕ)) (from to : At) : Type 0 where
  pub items : List Item
  pub mid : At
  pub serves : Serves w items from mid
  pub short : RunsShort w taken left items mid.caller to.caller
  pub told : tells mid.written to.written

-- The link is told that memory ran out, unless that write fails.
abbrev pub TellsShort : Type 0 → Option (List ℕ) → Option (List ℕ) → Type 0
TellsShort failed before after = Appends before after unavailable_reply ⊎ (AppendsFront before after unavailable_reply × failed)

-- What stands at each end of a link, of which the bytes `taken` were read. A link that is closed came to its end between two requests, or ends after
-- a request. At a failed read, which comes before the limit, and at the limit all requests are answered that are whole in what was taken. At a failed
-- write and where the pass is spent those before an item are.
abbrev pub EndsAs : Origin → (Option (List ℕ) → Option (List ℕ) → Type 0) → HttpEnd → List ℕ → Option (List ℕ) → At → At → Type 0
EndsAs w tells end.Closed taken left from to =
    (items : List Item) × (AreAllOf taken left items × (AreRequests items × Serves w items from to))
EndsAs w tells (end.Refused code) taken left from to =
    (items : List Item) × (why : Refusal) × (AreAllOf taken left (items ++ Refused why ∷ [])
    × ((code ≡ code_of why) × Serves w (items ++ Refused why ∷ []) from to))
EndsAs w tells end.ReadFault taken left from to =
    (items : List Item) × (AreWholeIn taken items × (Serves w items from to × (length taken < 2 ^ 40)))
EndsAs w tells end.LinkLimit taken left from to =
    (items : List Item) × (AreWholeIn taken items × (Serves w items from to × (length taken ≡ 2 ^ 40)))
EndsAs w tells end.WriteFault taken left from to =
    (items : List Item) × (item : Item) × (BeginWith taken left (items ++ item ∷ []) × ServesPart w items item from to)
EndsAs w tells end.Spent taken left from to =
    (items : List Item) × (asked : Asked) × (BeginWith taken left (items ++ Request asked ∷ [])
    × (Serves w items from to × IsSpent to.caller.pass))
EndsAs w tells end.NoMemory taken left from to = ServesShort w tells taken left from to

-- What the service of a link came to, of which so much was left before and after.
pub record Ends (w : Origin) (tells : Option (List ℕ) → Option (List ℕ) → Type 0) (reason : HttpEnd) (left left' : Option (List ℕ)) (from to : At) : Type 0 where
  pub taken : List ℕ
  pub consumed : Consumes left left' taken
  pub ends : EndsAs w tells reason taken left' from to

-- why a link is not served at all
abbrev pub CannotBegin : HttpEnd → PassValue → Type 0
CannotBegin end.Spent pass = IsSpent pass
CannotBegin end.NoMemory pass = ⊤
CannotBegin reason pass = ⊥

-- Nothing was read, written or entered.
pub record IsNotBegun (reason : HttpEnd) (left left' : Option (List ℕ)) (from to : At) : Type 0 where
  pub unread : left' ≡ left
  pub same : to ≡ from
  pub why : CannotBegin reason to.caller.pass

-- What came of a link; `failed` says that a write failed in the call.
abbrev pub ServesLink : Origin → Type 0 → HttpEnd → Option (List ℕ) → Option (List ℕ) → At → At → Type 0
ServesLink w failed reason left left' from to =
    IsNotBegun reason left left' from to ⊎ Ends w (TellsShort failed) reason left left' from to
