-- What the fields of a request's head say.
use Rattle.std.specs.Prelude.{ℕ, ◌-◌, ◌==◌, nat_le, nat_lt, Bool, ◌&&◌, ◌||◌, not, false, List, length, take, drop, codes, Option, Some, None, Result, Ok, Err, if◌then◌else◌}
use Rattle.std.specs.Char.{is_ascii_whitespace}
use Rattle.std.specs.List.{find, list_all, list_any, prefix_len, slice_split, suffix_len}
use Rattle.std.specs.Option.{option_map, option_map_or}
use Rattle.std.specs.Str.{str_eq_ignore_ascii_case}
use Rattle.fixed_num.specs.Whole.{whole_number}
use Rattle.http_wire.specs.Routes.{is_post}
use Rattle.http_wire.specs.declared.refusal.Refusal.{Refusal}
use Rattle.http_wire.specs.declared.refusal.Refusal.TheVariants.{BadRequest, ContentTooLarge, LengthRequired, NotImplemented}

-- a field: its name, and its value without the blanks around it
abbrev pub Field : Type 0
Field = List ℕ × List ℕ

-- the most bytes of a body
abbrev pub most_body_bytes : ℕ
most_body_bytes = 1048576

-- whether a field has a name, in any case
abbrev pub is_named : List ℕ → Field → Bool
is_named name field = str_eq_ignore_ascii_case field.0 name

unfoldable pub transfer_encoding : List ℕ
transfer_encoding = codes "Transfer-Encoding"

unfoldable pub content_length : List ℕ
content_length = codes "Content-Length"

unfoldable pub connection : List ℕ
connection = codes "Connection"

-- the value of the first field of a name
abbrev pub first_value : List ℕ → List Field → Option (List ℕ)
first_value name fields = option_map (λ field. field.1) (find (is_named name) fields)

-- the length that a value says: 1 to 18 digits
unfoldable pub length_in : List ℕ → Option ℕ
length_in value = if nat_le (length value) 18 then whole_number value else None

-- whether a value says this length
unfoldable pub says_length : ℕ → List ℕ → Bool
says_length n value = option_map_or (λ said. said == n) (length_in value) false

-- whether a field says this length, or nothing of the length
abbrev pub agrees : ℕ → Field → Bool
agrees n field = not (is_named content_length field) || says_length n field.1

-- how long the body is where the first field says so
abbrev pub agreed_length : List Field → Option ℕ → Result ℕ Refusal
agreed_length fields None = Err BadRequest
agreed_length fields (Some n) =
    if not (list_all (agrees n) fields) then Err BadRequest else
    (if nat_lt most_body_bytes n then Err ContentTooLarge else Ok n)

-- the same, where the first field may be missing
abbrev pub length_by : List ℕ → List Field → Option (List ℕ) → Result ℕ Refusal
length_by method fields None = if is_post method then Err LengthRequired else Ok 0
length_by method fields (Some value) = agreed_length fields (length_in value)

-- How long the body of a request is, or why it is refused. A transfer coding comes first. Then each
-- Content-Length must be a number, and all of them the same. One that is too great is refused, and a POST
-- without one; any other request without one has no body.
unfoldable pub body_length : List ℕ → List Field → Result ℕ Refusal
body_length method fields =
    if list_any (is_named transfer_encoding) fields then Err NotImplemented
    else length_by method fields (first_value content_length fields)

-- a text without the blanks at both ends; in the value of a field these are spaces and tabs
abbrev pub without_first_blanks : List ℕ → List ℕ
without_first_blanks text = drop (prefix_len is_ascii_whitespace text) text

abbrev pub trimmed : List ℕ → List ℕ
trimmed text =
    take (length (without_first_blanks text) - suffix_len is_ascii_whitespace (without_first_blanks text))
    (without_first_blanks text)

abbrev pub is_comma : ℕ → Bool
is_comma b = b == 44

-- whether a token is `close`, in any case
unfoldable pub is_close : List ℕ → Bool
is_close token = str_eq_ignore_ascii_case (trimmed token) (codes "close")

-- whether a list of tokens has `close`
abbrev pub has_close : List ℕ → Bool
has_close value = list_any is_close (slice_split is_comma value)

-- whether a field says that the link ends
abbrev pub says_close : Field → Bool
says_close field = is_named connection field && has_close field.1

-- Whether the link ends after a request: it is one of HTTP/1.0, or some Connection has the token `close`.
abbrev pub ends_link : ℕ → List Field → Bool
ends_link minor fields = minor == 0 || list_any says_close fields
