-- A reader of requests, and what its calls do.
use Rattle.std.specs.Prelude.{◌≡◌, ℕ, ◌-◌, ◌≤◌, ◌<◌, ◌==◌, min, Bool, List, [], ◌∷◌, ◌++◌, length, take, drop, Option, Some, None, if◌then◌else◌}
use Rattle.std.specs.Option.{ForSome, option_map}
use Rattle.http_wire.specs.Cuts.{Awaits, IsHeadOf, IsPlaced, IsRefused, asked_at, most_open_bytes}
use Rattle.http_wire.specs.Requests.{Asked, Begins, HasItems, Item, Request, Refused}
use Rattle.http_wire.specs.declared.cut.Place.{Place}
use Rattle.http_wire.specs.declared.head.HeadSpans.{HeadSpans}
use Rattle.http_wire.specs.declared.refusal.Refusal.{Refusal}
use Rattle.http_wire.specs.declared.refusal.Refusal.TheVariants.{BadRequest}
use Rattle.http_wire.specs.declared.reader.Handed.{Handed}
use Rattle.http_wire.specs.declared.reader.Handed.TheVariants as handed
use Rattle.http_wire.specs.declared.reader.Request.{Request as RequestParts}

-- What a reader holds: the bytes that have come and belong to nothing that was handed out, where the link
-- goes on; and the request that was handed out last, while it can be read.
pub record Reading : Type 0 where
  pub left : Option (List ℕ)
  pub current : Option Asked

-- the bytes from a place on, where the link goes on
abbrev pub left_of : List ℕ → ℕ → Bool → Option (List ℕ)
left_of buffer at is_over = if is_over then None else Some (drop at buffer)

-- what a caller sees of a buffer: what was handed out before `at`, and the request that begins at `start`
abbrev pub reading_of : List ℕ → ℕ → Bool → ℕ → Option Place → Reading
reading_of buffer at is_over start current = record {
  left = left_of buffer at is_over;
  current = option_map (asked_at (drop start buffer)) current;
}

-- The places are those of a reader, and it has no more bytes than a head and a body have. A head that was
-- read stands at the front of what was not handed out.
pub record IsLaidOut (buffer : List ℕ) (at : ℕ) (head : Option HeadSpans) (start : ℕ) (current : Option Place) : Type 0 where
  pub within : at ≤ length buffer
  pub headed : ForSome head (IsHeadOf (drop at buffer))
  pub started : start ≤ length buffer
  pub placed : ForSome current (IsPlaced (drop start buffer))
  pub few : length buffer ≤ most_open_bytes

-- A front of the piece is put behind what is open, as much of it as there is room for. Where the link is
-- over the whole piece is passed over.
abbrev pub Takes : Option (List ℕ) → List ℕ → ℕ → Option (List ℕ) → Type 0
Takes None piece count left = (count ≡ length piece) × (left ≡ None)
Takes (Some held) piece count left =
    (count ≡ min (length piece) (most_open_bytes - length held)) × (left ≡ Some (held ++ take count piece))

-- Of what waits, no more bytes are kept than a head and a body have.
abbrev pub IsKept : Option (List ℕ) → Type 0
IsKept left = ForSome left (λ held. length held ≤ most_open_bytes)

-- At least one more byte may be fed.
abbrev pub HasRoom : Option (List ℕ) → Type 0
HasRoom left = ForSome left (λ held. length held < most_open_bytes)

-- what is left behind a request
abbrev pub left_behind : Asked → List ℕ → Option (List ℕ)
left_behind asked rest = if asked.is_last then None else Some rest

-- The request that the open bytes begin with is handed out, or the refusal that ends the link. Nothing is
-- handed out where that wants more bytes, or the link is over.
abbrev pub HandsNext : Option Handed → Reading → Reading → Type 0
HandsNext None old new =
    (new ≡ record { left = old.left; current = None }) × ForSome old.left Awaits
HandsNext (Some handed.Request) old new =
    (held : List ℕ) × (asked : Asked) × (rest : List ℕ) × (old.left ≡ Some held) × Begins held asked rest
    × (new ≡ record { left = left_behind asked rest; current = Some asked })
HandsNext (Some (handed.Refused why)) old new =
    (held : List ℕ) × (old.left ≡ Some held) × IsRefused held why
    × (new ≡ record { left = None; current = None })

-- What a link ends with where nothing more waits to be handed out: nothing where it is closed, and a refusal
-- where it ends inside a request.
abbrev pub end_of : Option (List ℕ) → Option Refusal
end_of None = None
end_of (Some held) = if length held == 0 then None else Some BadRequest

-- a request as its reader gets it
abbrev pub seen : RequestParts → Asked
seen request = record {
  method = request.method.now;
  target = request.target.now;
  minor = request.minor;
  is_last = request.is_last;
  body = request.body.now;
}

-- what the bytes of a link come to behind those that are left
abbrev pub GoesOn : Option (List ℕ) → List ℕ → List Item → Type 0
GoesOn None more items = items ≡ []
GoesOn (Some held) more items = HasItems (held ++ more) items

-- Of a link of which the bytes `taken` have come, in any pieces, the items `handed` were handed out: whatever
-- follows, they come first, and the others are those of what is left.
abbrev pub HandsOut : List Item → List ℕ → Option (List ℕ) → Type 0
HandsOut handed taken left =
    (more : List ℕ) (items : List Item) → GoesOn left more items → HasItems (taken ++ more) (handed ++ items)

-- what was handed out, as an item
abbrev pub handed_items : Option Handed → Option Asked → List Item
handed_items (Some handed.Request) (Some asked) = Request asked ∷ []
handed_items (Some (handed.Refused why)) asked = Refused why ∷ []
handed_items handed asked = []

-- the same of the end
abbrev pub end_items : Option Refusal → List Item
end_items None = []
end_items (Some why) = Refused why ∷ []
