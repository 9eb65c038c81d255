-- Items that come one after the other.
use Rattle.std.proofs.Common.{◌≡◌, ℕ, Bool, false, List, [], ◌∷◌, ◌++◌, map, Option, refl, sym, ap, ◌∙◌, subst}
use Rattle.std.proofs.lemmas.List.{map-append}
use Rattle.std.specs.Io.KnownBytes.{Appends}
use Rattle.outside_io.proofs.Known.{Appends-more}
use Rattle.http_wire.specs.Answers.{KeepLink, ends_link_with, responses_of}
use Rattle.http_wire.specs.Requests.{Asked, Item, Request, Refused}
use Rattle.http_wire.specs.declared.answer.Answer.{Answer}
use Rattle.http_wire.proofs.AnswerLemmas.{replies_more}
use Rattle.http_front.specs.Links.{AreRequests, ComesOfAll, ComesOfItem, Serves}
use Rattle.http_front.specs.Origin.{At, Caller, Origin}
use Rattle.http_front.specs.Outcomes.{answer_of, replies_to, reply_to}
use Rattle.http_front.specs.Standing.{ServesItem}
use Rattle.http_front.specs.declared.outcome.Outcome.{Outcome}

-- one more item comes to something
pub comes_more : (w : Origin) (a : Caller) (items : List Item) (outcomes : List Outcome) (b : Caller) (item : Item) (outcome : Outcome) (c : Caller)
    → ComesOfAll w a items outcomes b → ComesOfItem w item outcome b c → ComesOfAll w a (items ++ item ∷ []) (outcomes ++ outcome ∷ []) c
comes_more w a [] [] b item outcome c all comes = (c, (subst (λ (p : Caller). ComesOfItem w item outcome p c) all comes, refl))
comes_more w a (first ∷ items) (one ∷ outcomes) b item outcome c all comes =
    (all.0, (all.1.0, comes_more w all.0 items outcomes b item outcome c all.1.1 comes))
comes_more w a [] (one ∷ outcomes) b item outcome c all comes = absurd all
comes_more w a (first ∷ items) [] b item outcome c all comes = absurd all

-- one more request after which the link goes on
pub keeps_more : (items : List Item) (answers : List Answer) (item : Item) (answer : Answer) → KeepLink items answers → ends_link_with item answer ≡ false
    → KeepLink (items ++ item ∷ []) (answers ++ answer ∷ [])
keeps_more [] [] item answer keeps goes = (goes, tt)
keeps_more (first ∷ items) (one ∷ answers) item answer keeps goes = (keeps.0, keeps_more items answers item answer keeps.1 goes)
keeps_more [] (one ∷ answers) item answer keeps goes = absurd keeps
keeps_more (first ∷ items) [] item answer keeps goes = absurd keeps

pub requests_more : (items : List Item) (asked : Asked) → AreRequests items → AreRequests (items ++ Request asked ∷ [])
requests_more [] asked all = tt
requests_more (Request first ∷ items) asked all = requests_more items asked all
requests_more (Refused why ∷ items) asked all = absurd all

-- the answers of one outcome more
pub answers_more : (outcomes : List Outcome) (outcome : Outcome) → map answer_of (outcomes ++ outcome ∷ []) ≡ map answer_of outcomes ++ answer_of outcome ∷ []
answers_more outcomes outcome = map-append answer_of outcomes (outcome ∷ [])

-- the reply to an item stands behind those before it
pub replies_more_to : (items : List Item) (outcomes : List Outcome) (item : Item) (outcome : Outcome) → KeepLink items (map answer_of outcomes)
    → replies_to (items ++ item ∷ []) (outcomes ++ outcome ∷ []) ≡ replies_to items outcomes ++ reply_to item outcome
replies_more_to items outcomes item outcome keeps =
    ap (λ (answers : List Answer). responses_of (items ++ item ∷ []) answers) (answers_more outcomes outcome)
    ∙ replies_more items (map answer_of outcomes) item (answer_of outcome) keeps

-- one more reply was written
pub wrote_more : (a b c : Option (List ℕ)) (items : List Item) (outcomes : List Outcome) (item : Item) (outcome : Outcome) → KeepLink items (map answer_of outcomes)
    → Appends a b (replies_to items outcomes) → Appends b c (reply_to item outcome) → Appends a c (replies_to (items ++ item ∷ []) (outcomes ++ outcome ∷ []))
wrote_more a b c items outcomes item outcome keeps before more =
    subst (Appends a c) (sym (replies_more_to items outcomes item outcome keeps))
    (Appends-more a b c (replies_to items outcomes) (reply_to item outcome) before more)

-- one more item was served, with which the link may end
pub serves_more : (w : Origin) (from mid to : At) (items : List Item) (outcomes : List Outcome) (item : Item) (ends : Bool) → ComesOfAll w from.caller items outcomes mid.caller
    → KeepLink items (map answer_of outcomes) → Appends from.written mid.written (replies_to items outcomes) → ServesItem w item ends mid to → Serves w (items ++ item ∷ []) from to
serves_more w from mid to items outcomes item ends comes keeps wrote one = record {
  outcomes = outcomes ++ one.outcome ∷ [];
  comes = comes_more w from.caller items outcomes mid.caller item one.outcome to.caller comes one.comes;
  wrote = wrote_more from.written mid.written to.written items outcomes item one.outcome keeps wrote one.wrote;
}
