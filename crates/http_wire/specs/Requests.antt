-- The requests that the bytes of a link come to.
use Rattle.std.specs.Prelude.{◌≡◌, ◌≢◌, ◌⊎◌, ◌<◌, ◌≤◌, ℕ, Bool, true, false, List, [], ◌∷◌, ◌++◌, length, map, Result, Ok, Err}
use Rattle.httparse.specs.Grammar.{ReadsRequest, RequestHead, print_request}
use Rattle.httparse.specs.Spans.{name_and_value}
use Rattle.http_wire.specs.Fields.{Field, body_length, ends_link}
use Rattle.http_wire.specs.declared.refusal.Refusal.{Refusal}
use Rattle.http_wire.specs.declared.refusal.Refusal.TheVariants.{BadRequest}

-- the most bytes and fields of a head
abbrev pub most_head_bytes : ℕ
most_head_bytes = 16384

abbrev pub most_fields : ℕ
most_fields = 64

-- a request: what it asks, by which method and minor version, whether the link ends after it, and its body
pub record Asked : Type 0 where
  pub method : List ℕ
  pub target : List ℕ
  pub minor : ℕ
  pub is_last : Bool
  pub body : List ℕ

-- what is cut from a link: a request, or a refusal that ends the link
pub data Item : Type 0 where
  Request : Asked → Item
  Refused : Refusal → Item

-- The bytes begin with this head, which is no longer than a head may be and has no more fields.
pub record HeadAt (bytes : List ℕ) (head : RequestHead) (behind : List ℕ) : Type 0 where
  pub reads : ReadsRequest bytes head behind
  pub short : length (print_request head) ≤ most_head_bytes
  pub few : length head.fields ≤ most_fields

-- no front of the bytes is a head
abbrev pub HasNoHead : List ℕ → Type 0
HasNoHead bytes = (head : RequestHead) (behind : List ℕ) → ¬ (HeadAt bytes head behind)

abbrev pub fields_of : RequestHead → List Field
fields_of head = map name_and_value head.fields

-- how long the body behind a head is, or why the request is refused
abbrev pub body_length_of : RequestHead → Result ℕ Refusal
body_length_of head = body_length head.method (fields_of head)

-- a head and a body are this request
abbrev pub asked_by : RequestHead → List ℕ → Asked
asked_by head body = record {
  method = head.method;
  target = head.target;
  minor = head.minor;
  is_last = ends_link head.minor (fields_of head);
  body = body;
}

-- The bytes begin with a whole request: a head, and as long a body as the head says.
abbrev pub Begins : List ℕ → Asked → List ℕ → Type 0
Begins bytes asked rest =
    (head : RequestHead) × (body : List ℕ) × HeadAt bytes head (body ++ rest)
    × (body_length_of head ≡ Ok (length body)) × (asked ≡ asked_by head body)

-- A link that ends with these bytes ends inside a request: before its head is whole, or inside its body.
abbrev pub IsOpen : List ℕ → Type 0
IsOpen bytes =
    HasNoHead bytes
    ⊎ ((head : RequestHead) × (behind : List ℕ) × (count : ℕ) × HeadAt bytes head behind
    × (body_length_of head ≡ Ok count) × (length behind < count))

-- The bytes begin with a head that is refused.
abbrev pub HeadRefused : List ℕ → Refusal → Type 0
HeadRefused bytes why =
    (head : RequestHead) × (behind : List ℕ) × HeadAt bytes head behind × (body_length_of head ≡ Err why)

-- A link that ends with these bytes, of which there are some, begins with no request but with this refusal.
abbrev pub Refuses : List ℕ → Refusal → Type 0
Refuses bytes why = (bytes ≢ []) × (HeadRefused bytes why ⊎ (IsOpen bytes × (why ≡ BadRequest)))

-- nothing follows where the link ends, and else this
abbrev pub Follows : Bool → List Item → Type 0 → Type 0
Follows true items more = items ≡ []
Follows false items more = more

-- What the whole bytes of a link come to. With no byte left the link is closed. A refusal is the last item,
-- and so is a request after which the link ends.
abbrev pub HasItems : List ℕ → List Item → Type 0
HasItems bytes [] = bytes ≡ []
HasItems bytes (Refused why ∷ items) = Refuses bytes why × (items ≡ [])
HasItems bytes (Request asked ∷ items) =
    (rest : List ℕ) × Begins bytes asked rest × Follows asked.is_last items (HasItems rest items)
