-- The bytes of a reply (RFC 9112, section 4): the status line, the fields, an empty line, the body.
use Rattle.std.specs.Prelude.{ℕ, Bool, List, [], ◌∷◌, ◌++◌, length, codes, decimal, if◌then◌else◌}
use Rattle.http_wire.specs.declared.refusal.Refusal.{Refusal}
use Rattle.http_wire.specs.declared.refusal.Refusal.TheVariants as refusal
use Rattle.http_wire.specs.declared.reply.MediaType.{MediaType}
use Rattle.http_wire.specs.declared.reply.MediaType.TheVariants as media
use Rattle.http_wire.specs.declared.reply.Reply.{Reply}
use Rattle.http_wire.specs.declared.reply.Reply.TheVariants as reply

-- the status line of a refusal
unfoldable pub refusal_line : Refusal → List ℕ
refusal_line refusal.BadRequest = codes "HTTP/1.1 400 Bad Request\r\n"
refusal_line refusal.NotFound = codes "HTTP/1.1 404 Not Found\r\n"
refusal_line refusal.MethodNotAllowed = codes "HTTP/1.1 405 Method Not Allowed\r\nAllow: GET, POST\r\n"
refusal_line refusal.LengthRequired = codes "HTTP/1.1 411 Length Required\r\n"
refusal_line refusal.ContentTooLarge = codes "HTTP/1.1 413 Content Too Large\r\n"
refusal_line refusal.ServerError = codes "HTTP/1.1 500 Internal Server Error\r\n"
refusal_line refusal.NotImplemented = codes "HTTP/1.1 501 Not Implemented\r\n"
refusal_line refusal.Unavailable = codes "HTTP/1.1 503 Service Unavailable\r\n"

-- the status line of a 200 and the field that says what its body is
unfoldable pub found_line : MediaType → List ℕ
found_line media.Json = codes "HTTP/1.1 200 OK\r\nContent-Type: application/json\r\n"
found_line media.Plain = codes "HTTP/1.1 200 OK\r\nContent-Type: text/plain\r\n"
found_line media.Csv = codes "HTTP/1.1 200 OK\r\nContent-Type: text/csv\r\n"

-- the same of a 400 with a text
unfoldable pub text_line : List ℕ
text_line = codes "HTTP/1.1 400 Bad Request\r\nContent-Type: text/plain\r\n"

-- What a reply begins with: its status line, what its body is, and the methods that are allowed.
abbrev pub first_lines : Reply → List ℕ
first_lines (reply.Found media body) = found_line media
first_lines (reply.Text text) = text_line
first_lines (reply.Refused why) = refusal_line why

-- the body of a reply: of a text it is the text and a line feed
abbrev pub body_of : Reply → List ℕ
body_of (reply.Found media body) = body.now
body_of (reply.Text text) = text.now ++ 10 ∷ []
body_of (reply.Refused why) = []

unfoldable pub length_name : List ℕ
length_name = codes "Content-Length: "

-- the end of the fields, with one that says that the link ends where it does
unfoldable pub last_lines : Bool → List ℕ
last_lines is_last = if is_last then codes "\r\nConnection: close\r\n\r\n" else codes "\r\n\r\n"

-- what stands before the body of a reply with so many bytes
abbrev pub head_of : List ℕ → ℕ → Bool → List ℕ
head_of first count is_last = first ++ (length_name ++ (decimal count ++ last_lines is_last))

-- The bytes of a reply; `is_last` where the link ends after it.
unfoldable pub reply_bytes : Reply → Bool → List ℕ
reply_bytes reply is_last = head_of (first_lines reply) (length (body_of reply)) is_last ++ body_of reply

-- the same without its body
unfoldable pub reply_head : Reply → Bool → List ℕ
reply_head reply is_last = head_of (first_lines reply) (length (body_of reply)) is_last
