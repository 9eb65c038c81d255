-- What the items of a link are answered, and the bytes of all replies.
use Rattle.std.specs.Prelude.{◌≡◌, ⊤, Bool, true, false, ◌||◌, List, [], ◌∷◌, ◌++◌, ℕ, if◌then◌else◌}
use Rattle.http_wire.specs.Reading.{seen}
use Rattle.http_wire.specs.Replies.{body_of, reply_bytes, reply_head}
use Rattle.http_wire.specs.Requests.{Item, Request, Refused}
use Rattle.http_wire.specs.declared.answer.Answer.{Answer}
use Rattle.http_wire.specs.declared.answer.Answer.TheVariants as given
use Rattle.http_wire.specs.declared.answer.Item.{Item as ItemParts}
use Rattle.http_wire.specs.declared.answer.Item.TheVariants as parts
use Rattle.http_wire.specs.declared.refusal.Refusal.TheVariants.{ServerError, Unavailable}
use Rattle.http_wire.specs.declared.reply.Reply.{Reply}
use Rattle.http_wire.specs.declared.reply.Reply.TheVariants as reply

-- an item as its reader hands it out
abbrev pub item_of : ItemParts → Item
item_of (parts.Request request) = Request (seen request)
item_of (parts.Refused why) = Refused why

-- The reply that an answer is: 200 with a body, 400 with a text, a refusal, 500 where a disk failed, and 503
-- where memory ran out.
abbrev pub reply_of : Answer → Reply
reply_of (given.Found kind body) = reply.Found kind body
reply_of (given.Unanswerable text) = reply.Text text
reply_of (given.Refused why) = reply.Refused why
reply_of given.DiskFault = reply.Refused ServerError
reply_of given.NoMemory = reply.Refused Unavailable

abbrev pub is_no_memory : Answer → Bool
is_no_memory given.NoMemory = true
is_no_memory answer = false

-- Whether the link ends after an item that is answered so: after a refusal that is an item, after a request
-- that ends it, and where memory ran out. A 404, a 405, a text and a disk's failure do not end it.
abbrev pub ends_link_with : Item → Answer → Bool
ends_link_with (Refused why) answer = true
ends_link_with (Request asked) answer = asked.is_last || is_no_memory answer

-- the bytes of the reply to an item
unfoldable pub response_of : Item → Answer → List ℕ
response_of item answer = reply_bytes (reply_of answer) (ends_link_with item answer)

-- the same up to the body, and the body
unfoldable pub head_to : Item → Answer → List ℕ
head_to item answer = reply_head (reply_of answer) (ends_link_with item answer)

abbrev pub body_in : Answer → List ℕ
body_in answer = body_of (reply_of answer)

-- The bytes of the replies to the items of a link, each of which has its answer. Nothing follows a reply
-- after which the link ends, and an item that has no answer yet has no reply.
abbrev pub responses_of : List Item → List Answer → List ℕ
responses_of (item ∷ items) (answer ∷ answers) =
    response_of item answer
    ++ (if ends_link_with item answer then [] else responses_of items answers)
responses_of items answers = []

-- Each of these items has an answer, and the link goes on after all of them.
abbrev pub KeepLink : List Item → List Answer → Type 0
KeepLink [] [] = ⊤
KeepLink (item ∷ items) (answer ∷ answers) =
    (ends_link_with item answer ≡ false) × KeepLink items answers
KeepLink items answers = ⊥
