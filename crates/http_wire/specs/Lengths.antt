-- How long the body of a request is, and what is refused, in the words of RFC 9112, section 6.3.
use Rattle.std.specs.Prelude.{◌≡◌, ◌⊎◌, ◌<◌, ◌≤◌, ℕ, true, false, List, Some, Result, Ok, Err}
use Rattle.std.specs.List.{All, Any}
use Rattle.http_wire.specs.Fields.{Field, content_length, is_named, length_in, most_body_bytes, transfer_encoding}
use Rattle.http_wire.specs.Routes.{is_post}
use Rattle.http_wire.specs.declared.refusal.Refusal.{Refusal}
use Rattle.http_wire.specs.declared.refusal.Refusal.TheVariants.{BadRequest, ContentTooLarge, LengthRequired, NotImplemented}

-- some field has this name
abbrev pub HasField : List ℕ → List Field → Type 0
HasField name fields = Any (λ field. is_named name field ≡ true) fields

-- each Content-Length says this length
abbrev pub EachSays : ℕ → List Field → Type 0
EachSays n fields =
    All (λ field. is_named content_length field ≡ true → length_in field.1 ≡ Some n) fields

-- there are some, and each says this length
abbrev pub SaysLength : ℕ → List Field → Type 0
SaysLength n fields = HasField content_length fields × EachSays n fields

-- a request other than a POST has no body where no length is said
abbrev pub HasNoBody : List ℕ → List Field → Type 0
HasNoBody method fields = ¬ (HasField content_length fields) × (is_post method ≡ false)

-- How long the body is where no transfer coding is said, or why the request is refused. Lengths that agree
-- hold, up to the greatest; a body needs a length, where the method is POST; any other lengths are refused.
abbrev pub SaidLengthIs : List ℕ → List Field → Result ℕ Refusal → Type 0
SaidLengthIs method fields (Ok n) =
    (SaysLength n fields × (n ≤ most_body_bytes)) ⊎ (HasNoBody method fields × (n ≡ 0))
SaidLengthIs method fields (Err ContentTooLarge) =
    (n : ℕ) × SaysLength n fields × (most_body_bytes < n)
SaidLengthIs method fields (Err LengthRequired) =
    ¬ (HasField content_length fields) × (is_post method ≡ true)
SaidLengthIs method fields (Err BadRequest) =
    HasField content_length fields × ((n : ℕ) → ¬ (EachSays n fields))
SaidLengthIs method fields (Err why) = ⊥

-- The same of any request: one with a transfer coding is not implemented, whatever else it says.
abbrev pub LengthIs : List ℕ → List Field → Result ℕ Refusal → Type 0
LengthIs method fields (Err NotImplemented) = HasField transfer_encoding fields
LengthIs method fields result =
    ¬ (HasField transfer_encoding fields) × SaidLengthIs method fields result
