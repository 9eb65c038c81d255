-- Lemmas on the requests of a link: there is one list of them, and the bytes that follow only add behind.
use Rattle.std.proofs.Common.{◌≡◌, ◌≢◌, ◌⊎◌, ℕ, ◌+◌, ◌==◌, ◌<◌, Bool, true, false, cond, List, [], ◌∷◌, ◌++◌, length, take, drop, Option, Some, None, Result, Ok, Err, refl, inl, inr, sym, ap, ap₂, ◌∙◌, subst, arith, append_assoc, append-nil, eqb-true, length-append}
use Rattle.std.proofs.lemmas.Bool.{false_from_ne_true}
use Rattle.std.proofs.Math.Seq.{drop-append-add, take-append-add}
use Rattle.std.specs.Option.{ForSome}
use Rattle.httparse.specs.Grammar.{RequestHead, print_blank, print_end, print_section, print_version}
use Rattle.httparse.proofs.GrammarLemmas.{print_request-append, request_unique}
use Rattle.http_wire.specs.Requests.{Asked, Begins, Follows, HasItems, HeadAt, HeadRefused, IsOpen, Item, Refuses, Request, Refused, asked_by, body_length_of}
use Rattle.http_wire.specs.Cuts.{Awaits}
use Rattle.http_wire.specs.Reading.{GoesOn, HandsNext, HandsOut, Reading, Takes, end_items, end_of, handed_items, left_behind}
use Rattle.http_wire.specs.declared.reader.Handed.{Handed}
use Rattle.http_wire.specs.declared.reader.Handed.TheVariants as out
use Rattle.http_wire.specs.declared.refusal.Refusal.{Refusal}
use Rattle.http_wire.specs.declared.refusal.Refusal.TheVariants.{BadRequest}
use Rattle.http_wire.proofs.CutLemmas.{HeadAt-append}

-- a whole request stays where bytes follow
pub Begins-append : (bytes : List ℕ) (asked : Asked) (rest more : List ℕ) → Begins bytes asked rest → Begins (bytes ++ more) asked (rest ++ more)
Begins-append bytes asked rest more b =
    (b.0, b.1, subst (HeadAt (bytes ++ more) b.0) (append_assoc b.1 rest more) (HeadAt-append bytes b.0 (b.1 ++ rest) more b.2), b.3, b.4)

follows : (is_last : Bool) (rest more : List ℕ) (items : List Item) → GoesOn (cond is_last None (Some rest)) more items → Follows is_last items (HasItems (rest ++ more) items)
follows true rest more items goes = goes
follows false rest more items goes = goes

pub hands_start : HandsOut [] [] (Some [])
hands_start more items goes = goes

pub hands_feed : (handed : List Item) (taken piece : List ℕ) (count : ℕ) (left left' : Option (List ℕ)) → HandsOut handed taken left → Takes left piece count left'
    → HandsOut handed (taken ++ take count piece) left'
hands_feed handed taken piece count None left' hands takes more items goes =
    subst (λ (l : List ℕ). HasItems l (handed ++ items)) (sym (append_assoc taken (take count piece) more))
    (hands (take count piece ++ more) items (subst (λ (l : Option (List ℕ)). GoesOn l more items) takes.1 goes))
hands_feed handed taken piece count (Some front) left' hands takes more items goes =
    let goes' : HasItems ((front ++ take count piece) ++ more) items = subst (λ (l : Option (List ℕ)). GoesOn l more items) takes.1 goes in
    subst (λ (l : List ℕ). HasItems l (handed ++ items)) (sym (append_assoc taken (take count piece) more))
    (hands (take count piece ++ more) items (subst (λ (l : List ℕ). HasItems l items) (append_assoc front (take count piece) more) goes'))

hands_asked : (handed : List Item) (taken front : List ℕ) (asked : Asked) (rest : List ℕ) → HandsOut handed taken (Some front) → Begins front asked rest
    → HandsOut (handed ++ Request asked ∷ []) taken (left_behind asked rest)
hands_asked handed taken front asked rest hands begins more items goes =
    subst (HasItems (taken ++ more)) (sym (append_assoc handed (Request asked ∷ []) items))
    (hands more (Request asked ∷ items) (rest ++ more, Begins-append front asked rest more begins, follows asked.is_last rest more items goes))

hands_refused : (handed : List Item) (taken front : List ℕ) (why : Refusal) → HandsOut handed taken (Some front) → ((more : List ℕ) → Refuses (front ++ more) why)
    → HandsOut (handed ++ Refused why ∷ []) taken None
hands_refused handed taken front why hands refused more items goes =
    subst (HasItems (taken ++ more)) (sym (append_assoc handed (Refused why ∷ []) items))
    (hands more (Refused why ∷ items) (refused more, goes))

pub hands_next : (handed : List Item) (taken : List ℕ) (result : Option Handed) (old new : Reading) → HandsOut handed taken old.left → HandsNext result old new
    → HandsOut (handed ++ handed_items result new.current) taken new.left
hands_next handed taken None old new hands next =
    subst (λ (r : Reading). HandsOut (handed ++ []) taken r.left) (sym next.0) (subst (λ (l : List Item). HandsOut l taken old.left) (sym (append-nil handed)) hands)
hands_next handed taken (Some out.Request) old new hands next =
    subst (λ (r : Reading). HandsOut (handed ++ handed_items (Some out.Request) r.current) taken r.left) (sym next.5)
    (hands_asked handed taken next.0 next.1 next.2 (subst (HandsOut handed taken) next.3 hands) next.4)
hands_next handed taken (Some (out.Refused why)) old new hands next =
    subst (λ (r : Reading). HandsOut (handed ++ Refused why ∷ []) taken r.left) (sym next.3)
    (hands_refused handed taken next.0 why (subst (HandsOut handed taken) next.1 hands) next.2)

pub ruleset hands = (hands_start, hands_feed, hands_next)

-- where a link ends while nothing can be said of what is left, it ends inside a request
refuses_open : (bytes : List ℕ) → bytes ≢ [] → Awaits bytes → Refuses bytes BadRequest
refuses_open bytes some (inl none) = absurd (some none)
refuses_open bytes some (inr (inl head)) = (some, inr (inl head.0, refl))
refuses_open bytes some (inr (inr body)) = (some, inr (inr body, refl))

pub hands_end : (handed : List Item) (taken : List ℕ) (left : Option (List ℕ)) → HandsOut handed taken left → ForSome left Awaits → HasItems taken (handed ++ end_items (end_of left))
hands_end handed taken None hands awaits = subst (λ (l : List ℕ). HasItems l (handed ++ [])) (append-nil taken) (hands [] [] refl)
hands_end handed taken (Some []) hands awaits = subst (λ (l : List ℕ). HasItems l (handed ++ [])) (append-nil taken) (hands [] [] refl)
hands_end handed taken (Some (b ∷ bytes)) hands awaits =
    let refused : Refuses (b ∷ bytes) BadRequest = refuses_open (b ∷ bytes) (λ e. cc) (awaits (b ∷ bytes) refl) in
    let some : (length (b ∷ bytes) == 0) ≡ false =
    false_from_ne_true (length (b ∷ bytes) == 0) (λ e. let none : length (b ∷ bytes) ≡ 0 = eqb-true (length (b ∷ bytes)) 0 e in omega arith) in
    subst (λ (x : Bool). HasItems taken (handed ++ end_items (cond x None (Some BadRequest)))) (sym some)
    (subst (λ (l : List ℕ). HasItems l (handed ++ Refused BadRequest ∷ [])) (append-nil taken)
    (hands [] (Refused BadRequest ∷ []) (subst (λ (l : List ℕ). Refuses l BadRequest) (sym (append-nil (b ∷ bytes))) refused, refl)))

-- ---- one list of items

append_same : (a b r q : List ℕ) → length a ≡ length b → a ++ r ≡ b ++ q → (a ≡ b) × (r ≡ q)
append_same a b r q len same = (
  sym (append-nil a) ∙ sym (take-append-add a r 0) ∙ ap₂ (λ (n : ℕ) (l : List ℕ). take (n + 0) l) len same ∙ take-append-add b q 0 ∙ append-nil b,
  sym (drop-append-add a r 0) ∙ ap₂ (λ (n : ℕ) (l : List ℕ). drop (n + 0) l) len same ∙ drop-append-add b q 0,
)

same_head : (bytes : List ℕ) (h k : RequestHead) (b c : List ℕ) → HeadAt bytes h b → HeadAt bytes k c → (h ≡ k) × (b ≡ c)
same_head bytes h k b c x y = request_unique bytes h k b c x.reads y.reads

begins_unique : (bytes : List ℕ) (a b : Asked) (r q : List ℕ) → Begins bytes a r → Begins bytes b q → (a ≡ b) × (r ≡ q)
begins_unique bytes a b r q x y =
    let u = same_head bytes x.0 y.0 (x.1 ++ r) (y.1 ++ q) x.2 y.2 in
    let said : ◌≡◌ {A = Result ℕ Refusal} (Ok (length x.1)) (Ok (length y.1)) = sym x.3 ∙ ap body_length_of u.0 ∙ y.3 in
    let len : length x.1 ≡ length y.1 = cc in
    let parts = append_same x.1 y.1 r q len u.1 in
    (x.4 ∙ ap₂ asked_by u.0 parts.0 ∙ sym y.4, parts.1)

-- a head that is refused is no open one
open_not_refused : (bytes : List ℕ) (why : Refusal) → IsOpen bytes → HeadRefused bytes why → ⊥
open_not_refused bytes why (inl nowhere) refused = nowhere refused.0 refused.1 refused.2
open_not_refused bytes why (inr body) refused =
    let u = same_head bytes body.0 refused.0 body.1 refused.1 body.3 refused.2 in
    let said : ◌≡◌ {A = Result ℕ Refusal} (Ok body.2) (Err why) = sym body.4 ∙ ap body_length_of u.0 ∙ refused.3 in
    cc

begins_not_refused : (bytes : List ℕ) (a : Asked) (r : List ℕ) (why : Refusal) → Begins bytes a r → Refuses bytes why → ⊥
begins_not_refused bytes a r why x y = by_case y.1
  where
    by_case : HeadRefused bytes why ⊎ (IsOpen bytes × (why ≡ BadRequest)) → ⊥
    by_case (inl refused) =
        let u = same_head bytes x.0 refused.0 (x.1 ++ r) refused.1 x.2 refused.2 in
        let said : ◌≡◌ {A = Result ℕ Refusal} (Ok (length x.1)) (Err why) = sym x.3 ∙ ap body_length_of u.0 ∙ refused.3 in
        cc
    by_case (inr (inl nowhere, is)) = nowhere x.0 (x.1 ++ r) x.2
    by_case (inr (inr body, is)) =
        let u = same_head bytes x.0 body.0 (x.1 ++ r) body.1 x.2 body.3 in
        let said : ◌≡◌ {A = Result ℕ Refusal} (Ok (length x.1)) (Ok body.2) = sym x.3 ∙ ap body_length_of u.0 ∙ body.4 in
        let count : length x.1 ≡ body.2 = cc in
        let behind : length (x.1 ++ r) ≡ length body.1 = ap length u.1 in
        absurd (omega (arith, count, behind, body.5, length-append x.1 r))

refusal_unique : (bytes : List ℕ) (why other : Refusal) → HeadRefused bytes why ⊎ (IsOpen bytes × (why ≡ BadRequest)) → HeadRefused bytes other ⊎ (IsOpen bytes × (other ≡ BadRequest)) → why ≡ other
refusal_unique bytes why other (inl a) (inl b) =
    let u = same_head bytes a.0 b.0 a.1 b.1 a.2 b.2 in
    let said : ◌≡◌ {A = Result ℕ Refusal} (Err why) (Err other) = sym a.3 ∙ ap body_length_of u.0 ∙ b.3 in
    cc
refusal_unique bytes why other (inl a) (inr b) = absurd (open_not_refused bytes why b.0 a)
refusal_unique bytes why other (inr a) (inl b) = absurd (open_not_refused bytes other a.0 b)
refusal_unique bytes why other (inr a) (inr b) = a.1 ∙ sym b.1

-- a head has bytes
head_some : (bytes : List ℕ) (head : RequestHead) (behind : List ℕ) → HeadAt bytes head behind → 0 < length bytes
head_some bytes head behind at =
    let method = at.reads.0.method.0 in
    let tail = head.target ++ 32 ∷ (print_version head.minor ++ (print_end head.line_end ++ (print_section head.fields head.last ++ behind))) in
    let all : bytes ≡ print_blank head.blank ++ (head.method ++ 32 ∷ tail) = at.reads.1 ∙ print_request-append head behind in
    let long : length bytes ≡ length (print_blank head.blank ++ (head.method ++ 32 ∷ tail)) = ap length all in
    omega (arith, long, method, length-append (print_blank head.blank) (head.method ++ 32 ∷ tail), length-append head.method (32 ∷ tail))

tails : (is_last : Bool) (rest : List ℕ) (xs ys : List Item) → (HasItems rest xs → HasItems rest ys → xs ≡ ys)
    → Follows is_last xs (HasItems rest xs) → Follows is_last ys (HasItems rest ys) → xs ≡ ys
tails true rest xs ys there x y = x ∙ sym y
tails false rest xs ys there x y = there x y

pub items_unique : (bytes : List ℕ) (xs ys : List Item) → HasItems bytes xs → HasItems bytes ys → xs ≡ ys
items_unique bytes [] [] x y = refl
items_unique bytes [] (Refused why ∷ ys) x y = absurd (y.0.0 x)
items_unique bytes [] (Request asked ∷ ys) x y =
    let none : length bytes ≡ 0 = ap length x in absurd (omega (arith, none, head_some bytes y.1.0 (y.1.1 ++ y.0) y.1.2))
items_unique bytes (Refused why ∷ xs) [] x y = absurd (x.0.0 y)
items_unique bytes (Refused why ∷ xs) (Refused other ∷ ys) x y =
    ap₂ (λ (w : Refusal) (l : List Item). Refused w ∷ l) (refusal_unique bytes why other x.0.1 y.0.1) (x.1 ∙ sym y.1)
items_unique bytes (Refused why ∷ xs) (Request asked ∷ ys) x y = absurd (begins_not_refused bytes asked y.0 why y.1 x.0)
items_unique bytes (Request asked ∷ xs) [] x y =
    let none : length bytes ≡ 0 = ap length y in absurd (omega (arith, none, head_some bytes x.1.0 (x.1.1 ++ x.0) x.1.2))
items_unique bytes (Request asked ∷ xs) (Refused why ∷ ys) x y = absurd (begins_not_refused bytes asked x.0 why x.1 y.0)
items_unique bytes (Request asked ∷ xs) (Request other ∷ ys) x y =
    let u = begins_unique bytes asked other x.0 y.0 x.1 y.1 in
    let y' : Follows asked.is_last ys (HasItems x.0 ys) =
    subst (λ (b : Bool). Follows b ys (HasItems x.0 ys)) (sym (ap (λ (a : Asked). a.is_last) u.0)) (subst (λ (r : List ℕ). Follows other.is_last ys (HasItems r ys)) (sym u.1) y.2) in
    ap₂ (λ (a : Asked) (l : List Item). Request a ∷ l) u.0 (tails asked.is_last x.0 xs ys (λ hx hy. items_unique x.0 xs ys hx hy) x.2 y')
