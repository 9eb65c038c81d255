-- What the bytes that have come on a link begin with, while more may follow.
use Rattle.std.specs.Prelude.{◌≡◌, ◌⊎◌, ◌+◌, ◌<◌, ◌≤◌, ℕ, List, [], ◌++◌, length, drop, slice_range, Ok}
use Rattle.httparse.specs.Grammar.{HasNoRequest, MayBecomeRequest, ReadsRequest, RequestHead, print_request}
use Rattle.httparse.specs.Spans.{IsWithin, RequestOverflows, span_bytes}
use Rattle.http_wire.specs.Fields.{ends_link, most_body_bytes}
use Rattle.http_wire.specs.Requests.{Asked, Begins, HasNoHead, HeadAt, Refuses, body_length_of, fields_of, most_fields, most_head_bytes}
use Rattle.http_wire.specs.declared.refusal.Refusal.{Refusal}
use Rattle.http_wire.specs.declared.head.HeadSpans.{HeadSpans}
use Rattle.http_wire.specs.declared.head.HeadRead.{HeadRead}
use Rattle.http_wire.specs.declared.head.HeadRead.TheVariants as head
use Rattle.http_wire.specs.declared.cut.Place.{Place}
use Rattle.http_wire.specs.declared.cut.Cut.{Cut}
use Rattle.http_wire.specs.declared.cut.Cut.TheVariants as cut

-- the most bytes that stay open: those of a head and a body
abbrev pub most_open_bytes : ℕ
most_open_bytes = most_head_bytes + most_body_bytes

-- whatever follows, the bytes are refused
abbrev pub IsRefused : List ℕ → Refusal → Type 0
IsRefused bytes why = (more : List ℕ) → Refuses (bytes ++ more) why

-- no head is whole yet, fewer bytes have come than a head may have, and more may make one
abbrev pub AwaitsHead : List ℕ → Type 0
AwaitsHead bytes = HasNoHead bytes × (length bytes < most_head_bytes) × MayBecomeRequest bytes

-- a head is whole, and its body is not yet
abbrev pub AwaitsBody : List ℕ → Type 0
AwaitsBody bytes =
    (head : RequestHead) × (behind : List ℕ) × (count : ℕ) × HeadAt bytes head behind
    × (body_length_of head ≡ Ok count) × (length behind < count)

-- Nothing can be said of the bytes before more come.
abbrev pub Awaits : List ℕ → Type 0
Awaits bytes = (bytes ≡ []) ⊎ (AwaitsHead bytes ⊎ AwaitsBody bytes)

-- the spans of a head lie in it, and it in the bytes
pub record AreWithin (bytes : List ℕ) (spans : HeadSpans) : Type 0 where
  pub len : spans.len ≤ length bytes
  pub method : IsWithin spans.len spans.method
  pub target : IsWithin spans.len spans.target

-- the bytes begin with this head, and the spans and numbers are those of its parts
pub record AreOf (bytes : List ℕ) (spans : HeadSpans) (head : RequestHead) : Type 0 where
  pub reads : ReadsRequest bytes head (drop spans.len bytes)
  pub len : spans.len ≡ length (print_request head)
  pub few : length head.fields ≤ most_fields
  pub method : span_bytes bytes spans.method ≡ head.method
  pub target : span_bytes bytes spans.target ≡ head.target
  pub minor : spans.minor ≡ head.minor
  pub is_last : spans.is_last ≡ ends_link head.minor (fields_of head)
  pub body : spans.body ≡ body_length_of head

-- what is read of bytes as a head of at most 64 fields
abbrev pub ReadsHead : List ℕ → HeadRead → Type 0
ReadsHead bytes head.Partial = HasNoRequest bytes × MayBecomeRequest bytes
ReadsHead bytes head.Invalid = RequestOverflows most_fields bytes
ReadsHead bytes (head.Whole spans) = AreWithin bytes spans × ((head : RequestHead) × AreOf bytes spans head)

-- the bytes begin with a head that is no longer than a head may be, and the spans are its
abbrev pub IsHeadOf : List ℕ → HeadSpans → Type 0
IsHeadOf bytes spans =
    (0 < length bytes) × AreWithin bytes spans × (spans.len ≤ most_head_bytes) × ((head : RequestHead) × AreOf bytes spans head)

-- the request whose parts lie at these places
abbrev pub asked_at : List ℕ → Place → Asked
asked_at bytes place = record {
  method = span_bytes bytes place.method;
  target = span_bytes bytes place.target;
  minor = place.minor;
  is_last = place.is_last;
  body = slice_range bytes place.head_len place.len;
}

-- these places lie in the bytes
pub record IsPlaced (bytes : List ℕ) (place : Place) : Type 0 where
  pub method : IsWithin (length bytes) place.method
  pub target : IsWithin (length bytes) place.target
  pub body : place.head_len ≤ place.len
  pub len : place.len ≤ length bytes

-- what the bytes begin with
abbrev pub Cuts : List ℕ → Cut → Type 0
Cuts bytes cut.Open = Awaits bytes
Cuts bytes (cut.OpenBody spans) = Awaits bytes × IsHeadOf bytes spans
Cuts bytes (cut.Refused why) = IsRefused bytes why
Cuts bytes (cut.Whole place) = IsPlaced bytes place × Begins bytes (asked_at bytes place) (drop place.len bytes)
