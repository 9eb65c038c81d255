-- What comes of requests, and the bytes of the replies.
use Rattle.std.specs.Prelude.{◌≡◌, ℕ, true, List, map}
use Rattle.http_wire.specs.Answers.{response_of, responses_of}
use Rattle.http_wire.specs.Replies.{reply_bytes}
use Rattle.http_wire.specs.Requests.{Item}
use Rattle.http_wire.specs.declared.answer.Answer.{Answer}
use Rattle.http_wire.specs.declared.answer.Answer.TheVariants as given
use Rattle.http_wire.specs.declared.refusal.Refusal.TheVariants.{Unavailable}
use Rattle.http_wire.specs.declared.reply.MediaType.{MediaType}
use Rattle.http_wire.specs.declared.reply.MediaType.TheVariants as media
use Rattle.http_wire.specs.declared.reply.Reply.TheVariants as reply
use Rattle.render_answer.specs.Answer.{refusal_text}
use Rattle.render_answer.specs.declared.answer.Answer.{Answer as QueryAnswer}
use Rattle.render_answer.specs.declared.answer.Answer.TheVariants as answered
use Rattle.render_plan.specs.declared.settings.Format.{Format}
use Rattle.render_plan.specs.declared.settings.Format.TheVariants as format
use Rattle.http_front.specs.declared.outcome.Outcome.{Outcome}
use Rattle.http_front.specs.declared.outcome.Outcome.TheVariants.{Found, Unanswerable, Refused, DiskFault}

-- what the body of an answer is
abbrev pub media_of : Format → MediaType
media_of format.Json = media.Json
media_of format.Raw = media.Plain
media_of format.Csv = media.Csv

-- What comes of a query that has this answer.
abbrev pub outcome_of : QueryAnswer → Outcome
outcome_of (answered.Body form text) = Found (media_of form) text
outcome_of (answered.Refused why) = Unanswerable (refusal_text why)

-- The answer that is replied. Where its bytes lie says nothing.
abbrev pub answer_of : Outcome → Answer
answer_of (Found kind body) = given.Found kind (record { ref_ptr = (0, 0); now = body })
answer_of (Unanswerable text) = given.Unanswerable (record { ref_ptr = (0, 0); now = text })
answer_of (Refused why) = given.Refused why
answer_of DiskFault = given.DiskFault

-- the same, wherever its bytes lie
abbrev pub Borrows : Outcome → Answer → Type 0
Borrows (Found kind body) (given.Found kind' body') = (kind' ≡ kind) × (body'.now ≡ body)
Borrows (Unanswerable text) (given.Unanswerable text') = text'.now ≡ text
Borrows (Refused why) answer = answer ≡ given.Refused why
Borrows DiskFault answer = answer ≡ given.DiskFault
Borrows outcome answer = ⊥

-- the bytes of the reply to an item
abbrev pub reply_to : Item → Outcome → List ℕ
reply_to item outcome = response_of item (answer_of outcome)

-- the bytes of the replies to items, of which each has its outcome
abbrev pub replies_to : List Item → List Outcome → List ℕ
replies_to items outcomes = responses_of items (map answer_of outcomes)

-- the reply where memory ran out, with which a link ends
unfoldable pub unavailable_reply : List ℕ
unavailable_reply = reply_bytes (reply.Refused Unavailable) true
