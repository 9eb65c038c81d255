-- Lemmas on the replies to the items of a link.
use Rattle.std.proofs.Common.{◌≡◌, ℕ, Bool, true, false, cond, List, [], ◌∷◌, ◌++◌, refl, sym, ap, ◌∙◌, append_assoc, append-nil}
use Rattle.http_wire.specs.Answers.{KeepLink, body_in, ends_link_with, head_to, response_of, responses_of}
use Rattle.http_wire.specs.Replies.{reply_bytes, reply_head}
use Rattle.http_wire.specs.Requests.{Item}
use Rattle.http_wire.specs.declared.answer.Answer.{Answer}

nothing_behind : (ends : Bool) → ◌≡◌ {A = List ℕ} (cond ends [] []) []
nothing_behind true = refl
nothing_behind false = refl

-- a reply more stands behind those before it
pub replies_more : (items : List Item) (answers : List Answer) (item : Item) (answer : Answer) → KeepLink items answers
    → responses_of (items ++ item ∷ []) (answers ++ answer ∷ []) ≡ responses_of items answers ++ response_of item answer
replies_more [] [] item answer all =
    ap (λ (l : List ℕ). response_of item answer ++ l) (nothing_behind (ends_link_with item answer)) ∙ append-nil (response_of item answer)
replies_more (first ∷ items) (given ∷ answers) item answer all =
    let more = responses_of (items ++ item ∷ []) (answers ++ answer ∷ []) in
    let before = responses_of items answers in
    ap (λ (b : Bool). response_of first given ++ cond b [] more) all.0
    ∙ ap (λ (l : List ℕ). response_of first given ++ l) (replies_more items answers item answer all.1)
    ∙ sym (append_assoc (response_of first given) before (response_of item answer))
    ∙ ap (λ (b : Bool). (response_of first given ++ cond b [] before) ++ response_of item answer) (sym all.0)
replies_more [] (given ∷ answers) item answer all = absurd all
replies_more (first ∷ items) [] item answer all = absurd all

-- a reply is its head and its body
pub head_and_body : (item : Item) (answer : Answer) → response_of item answer ≡ head_to item answer ++ body_in answer
unfolding response_of head_to reply_bytes reply_head
head_and_body item answer = refl
