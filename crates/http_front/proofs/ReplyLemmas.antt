-- The bytes of a reply do not depend on where the bytes of its body lie.
use Rattle.std.proofs.Common.{◌≡◌, ℕ, ◌+◌, Bool, List, [], ◌∷◌, ◌++◌, length, take, Option, Result, Ok, Err, IfOk, OnOk, OnErr, refl, sym, ap, ap₂, ◌∙◌, subst, arith, length-append}
use Rattle.std.proofs.Math.Seq.{take-append-add}
use Rattle.std.proofs.lemmas.List.{take-append-le}
use Rattle.std.specs.Prelude.{IfErr}
use Rattle.std.specs.Io.KnownBytes.{Appends}
use Rattle.outside_io.specs.Sink.{AppendsFront}
use Rattle.outside_io.proofs.Known.{Appends-more}
use Rattle.http_wire.specs.Answers.{body_in, ends_link_with, head_to, response_of}
use Rattle.http_wire.proofs.AnswerLemmas.{head_and_body}
use Rattle.http_wire.specs.Replies.{found_line, head_of, reply_bytes, text_line}
use Rattle.http_wire.specs.Requests.{Item, Request, Refused}
use Rattle.http_wire.specs.declared.answer.Answer.{Answer}
use Rattle.http_wire.specs.declared.answer.Answer.TheVariants as given
use Rattle.http_front.specs.Outcomes.{Borrows, answer_of, reply_to}
use Rattle.http_front.specs.Standing.{FailsToReply}
use Rattle.http_front.specs.declared.ends.HttpEnd.{HttpEnd}
use Rattle.http_front.specs.declared.outcome.Outcome.{Outcome}
use Rattle.http_front.specs.declared.outcome.Outcome.TheVariants as outcome

-- whether the link ends
pub same_end : (item : Item) (o : Outcome) (a : Answer) → Borrows o a → ends_link_with item a ≡ ends_link_with item (answer_of o)
same_end (Refused why) o a borrows = refl
same_end (Request asked) (outcome.Found kind body) (given.Found kind' body') borrows = refl
same_end (Request asked) (outcome.Unanswerable text) (given.Unanswerable text') borrows = refl
same_end (Request asked) (outcome.Refused why) a borrows = ap (λ (x : Answer). ends_link_with (Request asked) x) borrows
same_end (Request asked) outcome.DiskFault a borrows = ap (λ (x : Answer). ends_link_with (Request asked) x) borrows
same_end (Request asked) (outcome.Found kind body) (given.Unanswerable text) borrows = absurd borrows
same_end (Request asked) (outcome.Found kind body) (given.Refused why) borrows = absurd borrows
same_end (Request asked) (outcome.Found kind body) given.DiskFault borrows = absurd borrows
same_end (Request asked) (outcome.Found kind body) given.NoMemory borrows = absurd borrows
same_end (Request asked) (outcome.Unanswerable text) (given.Found kind body) borrows = absurd borrows
same_end (Request asked) (outcome.Unanswerable text) (given.Refused why) borrows = absurd borrows
same_end (Request asked) (outcome.Unanswerable text) given.DiskFault borrows = absurd borrows
same_end (Request asked) (outcome.Unanswerable text) given.NoMemory borrows = absurd borrows

-- and the bytes
pub same_reply : (item : Item) (o : Outcome) (a : Answer) → Borrows o a → response_of item a ≡ reply_to item o
unfolding response_of reply_bytes
same_reply item (outcome.Found kind body) (given.Found kind' body') borrows =
    let ends = same_end item (outcome.Found kind body) (given.Found kind' body') borrows in
    λ i. head_of (found_line (borrows.0 i)) (length (borrows.1 i)) (ends i) ++ borrows.1 i
same_reply item (outcome.Unanswerable text) (given.Unanswerable text') borrows =
    let ends = same_end item (outcome.Unanswerable text) (given.Unanswerable text') borrows in
    λ i. head_of text_line (length (borrows i ++ 10 ∷ [])) (ends i) ++ (borrows i ++ 10 ∷ [])
same_reply item (outcome.Refused why) a borrows = ap (λ (x : Answer). response_of item x) borrows
same_reply item outcome.DiskFault a borrows = ap (λ (x : Answer). response_of item x) borrows
same_reply item (outcome.Found kind body) (given.Unanswerable text) borrows = absurd borrows
same_reply item (outcome.Found kind body) (given.Refused why) borrows = absurd borrows
same_reply item (outcome.Found kind body) given.DiskFault borrows = absurd borrows
same_reply item (outcome.Found kind body) given.NoMemory borrows = absurd borrows
same_reply item (outcome.Unanswerable text) (given.Found kind body) borrows = absurd borrows
same_reply item (outcome.Unanswerable text) (given.Refused why) borrows = absurd borrows
same_reply item (outcome.Unanswerable text) given.DiskFault borrows = absurd borrows
same_reply item (outcome.Unanswerable text) given.NoMemory borrows = absurd borrows

-- so what was written of an answer was written of the reply
pub ends_as : (item : Item) (o : Outcome) (a : Answer) (r : Result Bool HttpEnd) → Borrows o a → IfOk r (λ ends. ends ≡ ends_link_with item a) → IfOk r (λ ends. ends ≡ ends_link_with item (answer_of o))
ends_as item o a r borrows = subst (λ (last : Bool). IfOk r (λ ends. ends ≡ last)) (same_end item o a borrows)

pub replies_as : (item : Item) (o : Outcome) (a : Answer) (r : Result Bool HttpEnd) (before after : Option (List ℕ)) → Borrows o a → OnOk r (Appends before after (response_of item a)) → OnOk r (Appends before after (reply_to item o))
replies_as item o a r before after borrows = subst (λ (bytes : List ℕ). OnOk r (Appends before after bytes)) (same_reply item o a borrows)

pub fails_as : (item : Item) (o : Outcome) (a : Answer) (r : Result Bool HttpEnd) (before after : Option (List ℕ)) → Borrows o a
    → IfErr r (λ why. FailsToReply why (response_of item a) before after) → IfErr r (λ why. FailsToReply why (reply_to item o) before after)
fails_as item o a r before after borrows = subst (λ (bytes : List ℕ). IfErr r (λ why. FailsToReply why bytes before after)) (same_reply item o a borrows)

-- what was put into an empty buffer is all that it has
pub written_as : (piece items front reply : List ℕ) → piece ≡ items → items ≡ front ++ reply → front ≡ [] → piece ≡ reply
written_as piece items front reply same is none = same ∙ is ∙ ap (λ (xs : List ℕ). xs ++ reply) none

-- a head and a body are a reply
pub both_as : (item : Item) (a : Answer) (head body : List ℕ) → head ≡ head_to item a → body ≡ body_in a → head ++ body ≡ response_of item a
both_as item a head body is same = ap₂ (λ (xs ys : List ℕ). xs ++ ys) is same ∙ sym (head_and_body item a)

-- a front of the first of two texts
pub front_first : (a b : Option (List ℕ)) (x y : List ℕ) → AppendsFront a b x → AppendsFront a b (x ++ y)
front_first a b x y front = (front.0, omega (arith, front.1, length-append x y), subst (λ (t : List ℕ). Appends a b t) (sym (take-append-le front.0 x y front.1)) front.2)

-- the first, and a front of what stands behind it
pub front_next : (a b c : Option (List ℕ)) (x y : List ℕ) → Appends a b x → AppendsFront b c y → AppendsFront a c (x ++ y)
front_next a b c x y first front = (
  length x + front.0,
  omega (arith, front.1, length-append x y),
  subst (λ (t : List ℕ). Appends a c t) (sym (take-append-add x y front.0)) (Appends-more a b c x (take front.0 y) first front.2),
)

-- what holds anyhow holds where there is an error
pub err_anyhow : {T E : Type 0} (r : Result T E) (P : Type 0) → P → OnErr r P
err_anyhow (Ok x) P holds = tt
err_anyhow (Err e) P holds = holds
