-- Lemmas on heads at the front of bytes, while more may follow.
use Rattle.std.proofs.Common.{◌≡◌, ◌≢◌, ℕ, ◌+◌, ◌-◌, ◌<◌, ◌≤◌, Bool, true, false, cond, not, nat_lt, Option, Some, None, List, [], ◌++◌, length, take, drop, slice_range, Ok, Err, Result, refl, inl, inr, sym, ap, ap₂, ◌∙◌, subst, arith, append_assoc, length-append, length-take, length-drop, take-append-drop, min, ⊎_elim}
use Rattle.std.proofs.lemmas.Bool.{cases_lt}
use Rattle.std.proofs.lemmas.Bool.Decides.{nat_tests}
use Rattle.std.proofs.lemmas.List.{take-append-le, drop-append-le, drop-drop, take_all}
use Rattle.std.proofs.Math.Seq.{take-append-add}
use Rattle.httparse.specs.Grammar.{HasNoRequest, MayBecomeRequest, ReadsRequest, RequestHead, print_request}
use Rattle.httparse.specs.Spans.{RequestOverflows}
use Rattle.httparse.proofs.GrammarLemmas.{ReadsRequest-append}
use Rattle.http_wire.specs.Requests.{Asked, Begins, HasNoHead, HeadAt, fields_of, most_head_bytes}
use Rattle.http_wire.specs.Fields.{Field, agreed_length, agrees, body_length, content_length, first_value, is_named, length_by, length_in, most_body_bytes, transfer_encoding}
use Rattle.http_wire.specs.Routes.{is_post}
use Rattle.std.specs.List.{list_all, list_any}
use Rattle.http_wire.specs.Cuts.{AreOf, AreWithin, Awaits, IsHeadOf, IsPlaced, IsRefused, asked_at, most_open_bytes}
use Rattle.http_wire.specs.declared.cut.Place.{Place}
use Rattle.http_wire.specs.declared.head.HeadSpans.{HeadSpans}
use Rattle.http_wire.specs.declared.refusal.Refusal.{Refusal}
use Rattle.http_wire.specs.declared.refusal.Refusal.TheVariants.{BadRequest, ContentTooLarge, LengthRequired, NotImplemented}

-- bytes and what follows, from a front on
fronted : (n : ℕ) (bytes more : List ℕ) → bytes ++ more ≡ take n bytes ++ (drop n bytes ++ more)
fronted n bytes more =
    ap (λ (l : List ℕ). l ++ more) (sym (take-append-drop n bytes)) ∙ append_assoc (take n bytes) (drop n bytes) more

-- a head is as many bytes as it is long, and stands in each front that is no shorter
head_in_front : (n : ℕ) (bytes : List ℕ) (head : RequestHead) (behind : List ℕ) → ReadsRequest bytes head behind → length (print_request head) ≤ n
    → ReadsRequest (take n bytes) head (take (n - length (print_request head)) behind)
head_in_front n bytes head behind reads short =
    let count : n ≡ length (print_request head) + (n - length (print_request head)) = omega arith in
    (reads.0, ap (take n) reads.1 ∙ ap (λ (k : ℕ). take k (print_request head ++ behind)) count ∙ take-append-add (print_request head) behind (n - length (print_request head)))

-- where a front may be no head, whatever follows, the bytes have none
pub no_head_by_front : (n : ℕ) (bytes more : List ℕ) → RequestOverflows 64 (take n bytes) → HasNoHead (bytes ++ more)
no_head_by_front n bytes more overflows head behind stands =
    let many : 64 < length head.fields = overflows (drop n bytes ++ more) head behind (subst (λ (l : List ℕ). ReadsRequest l head behind) (fronted n bytes more) stands.reads) in
    omega (arith, many, stands.few)

-- where as many bytes as a head may have hold none, there is none, whatever follows
pub no_head_by_length : (bytes more : List ℕ) → HasNoRequest (take most_head_bytes bytes) → most_head_bytes ≤ length bytes → HasNoHead (bytes ++ more)
no_head_by_length bytes more nowhere long head behind stands =
    let inside = head_in_front most_head_bytes (bytes ++ more) head behind stands.reads stands.short in
    nowhere head (take (most_head_bytes - length (print_request head)) behind)
    (subst (λ (l : List ℕ). ReadsRequest l head (take (most_head_bytes - length (print_request head)) behind)) (take-append-le most_head_bytes bytes more long) inside)

-- a front of at most so many bytes
pub front_is : (n k : ℕ) (bytes : List ℕ) → k ≡ min (length bytes) n → take k bytes ≡ take n bytes
front_is n k bytes is =
    ⊎_elim
    (λ short. take_all k bytes (omega arith) ∙ sym (take_all n bytes (omega arith)))
    (λ long. ap (λ (j : ℕ). take j bytes) (omega arith))
    (cases_lt (length bytes) n)

-- fewer bytes than a head may have are their own front
pub no_head_of_short : (bytes : List ℕ) → HasNoRequest (take most_head_bytes bytes) → length bytes < most_head_bytes → HasNoHead bytes
no_head_of_short bytes nowhere short head behind stands =
    nowhere head behind (subst (λ (l : List ℕ). ReadsRequest l head behind) (sym (take_all most_head_bytes bytes (omega arith))) stands.reads)

some_more : (bytes more : List ℕ) → 0 < length bytes → bytes ++ more ≢ []
some_more bytes more some = λ e. let none : length (bytes ++ more) ≡ 0 = ap length e in absurd (omega (arith, some, none, length-append bytes more))

-- bytes that have no head, whatever follows, are refused
pub refused_without_head : (bytes : List ℕ) → 0 < length bytes → ((more : List ℕ) → HasNoHead (bytes ++ more)) → IsRefused bytes BadRequest
refused_without_head bytes some nowhere more = (some_more bytes more some, inr (inl (nowhere more), refl))

-- no head is whole in fewer bytes than a head may have
pub awaits_head : (bytes : List ℕ) → HasNoRequest (take most_head_bytes bytes) → MayBecomeRequest (take most_head_bytes bytes) → length bytes < most_head_bytes → Awaits bytes
awaits_head bytes nowhere unfinished short =
    inr (inl (no_head_of_short bytes nowhere short, short, subst MayBecomeRequest (take_all most_head_bytes bytes (omega arith)) unfinished))

-- no head is whole in as many
pub refused_by_length : (bytes : List ℕ) → 0 < length bytes → HasNoRequest (take most_head_bytes bytes) → most_head_bytes ≤ length bytes → IsRefused bytes BadRequest
refused_by_length bytes some nowhere long = refused_without_head bytes some (λ more. no_head_by_length bytes more nowhere long)

-- no head can come
pub refused_by_front : (n : ℕ) (bytes : List ℕ) → 0 < length bytes → RequestOverflows 64 (take n bytes) → IsRefused bytes BadRequest
refused_by_front n bytes some overflows = refused_without_head bytes some (λ more. no_head_by_front n bytes more overflows)

slice_range-append : (xs ys : List ℕ) (from to : ℕ) → from ≤ to → to ≤ length xs → slice_range (xs ++ ys) from to ≡ slice_range xs from to
slice_range-append xs ys from to ordered within =
    ap (take (to - from)) (drop-append-le from xs ys (omega arith)) ∙ take-append-le (to - from) (drop from xs) ys (omega (arith, length-drop from xs))

-- what is read of a front is read of the bytes
of_front : (front rest : List ℕ) (spans : HeadSpans) → 0 < length front → spans.len ≤ most_head_bytes → AreWithin front spans → ((head : RequestHead) × AreOf front spans head)
    → IsHeadOf (front ++ rest) spans
of_front front rest spans some short within of =
    let head = of.0 in
    let o = of.1 in
    let reads : ReadsRequest (front ++ rest) head (drop spans.len (front ++ rest)) =
    subst (λ (l : List ℕ). ReadsRequest (front ++ rest) head l) (sym (drop-append-le spans.len front rest within.len)) (ReadsRequest-append front head (drop spans.len front) rest o.reads) in (
      omega (arith, some, length-append front rest),
      record { len = omega (arith, within.len, length-append front rest); method = within.method; target = within.target },
      short,
      (
        head,
        record {
          reads = reads;
          len = o.len;
          few = o.few;
          method = slice_range-append front rest spans.method.start spans.method.end within.method.0 (omega (arith, within.method.1, within.len)) ∙ o.method;
          target = slice_range-append front rest spans.target.start spans.target.end within.target.0 (omega (arith, within.target.1, within.len)) ∙ o.target;
          minor = o.minor;
          is_last = o.is_last;
          body = o.body;
        },
      ),
    )

pub IsHeadOf-from_front : (n : ℕ) (bytes : List ℕ) (spans : HeadSpans) → 0 < length (take n bytes) → n ≤ most_head_bytes → AreWithin (take n bytes) spans
    → ((head : RequestHead) × AreOf (take n bytes) spans head) → IsHeadOf bytes spans
IsHeadOf-from_front n bytes spans some short within of =
    subst (λ (l : List ℕ). IsHeadOf l spans) (take-append-drop n bytes)
    (of_front (take n bytes) (drop n bytes) spans some (omega (arith, within.len, short, length-take n bytes)) within of)

head_at : (bytes : List ℕ) (spans : HeadSpans) → (h : IsHeadOf bytes spans) → HeadAt bytes h.3.0 (drop spans.len bytes)
head_at bytes spans h = record { reads = h.3.1.reads; short = omega (arith, h.2, h.3.1.len); few = h.3.1.few }

pub HeadAt-append : (bytes : List ℕ) (head : RequestHead) (behind more : List ℕ) → HeadAt bytes head behind → HeadAt (bytes ++ more) head (behind ++ more)
HeadAt-append bytes head behind more at = record { reads = ReadsRequest-append bytes head behind more at.reads; short = at.short; few = at.few }

-- a head whose body is refused
pub refused_by_head : (bytes : List ℕ) (spans : HeadSpans) (why : Refusal) → IsHeadOf bytes spans → spans.body ≡ Err why → IsRefused bytes why
refused_by_head bytes spans why h is more = (
  some_more bytes more h.0,
  inl (h.3.0, drop spans.len bytes ++ more, HeadAt-append bytes h.3.0 (drop spans.len bytes) more (head_at bytes spans h), sym h.3.1.body ∙ is),
)

-- a head whose body is not whole yet
pub awaits_body : (bytes : List ℕ) (spans : HeadSpans) (count : ℕ) → IsHeadOf bytes spans → spans.body ≡ Ok count → length bytes - spans.len < count → Awaits bytes
awaits_body bytes spans count h is few =
    inr (inr (h.3.0, drop spans.len bytes, count, head_at bytes spans h, sym h.3.1.body ∙ is, omega (arith, few, length-drop spans.len bytes)))

by_size : (too_large : Bool) (said count : ℕ) → nat_lt most_body_bytes said ≡ too_large → ◌≡◌ {A = Result ℕ Refusal} (cond too_large (Err ContentTooLarge) (Ok said)) (Ok count)
    → count ≤ most_body_bytes
by_size true said count is answer = absurd cc
by_size false said count is answer =
    let same : said ≡ count = cc in
    rw (← same) (grind (arith, nat_tests))

by_agreement : (agree : Bool) (said count : ℕ)
    → ◌≡◌ {A = Result ℕ Refusal} (cond (not agree) (Err BadRequest) (cond (nat_lt most_body_bytes said) (Err ContentTooLarge) (Ok said))) (Ok count) → count ≤ most_body_bytes
by_agreement true said count answer = by_size (nat_lt most_body_bytes said) said count refl answer
by_agreement false said count answer = absurd cc

agreed_within : (fields : List Field) (first : Option ℕ) (count : ℕ) → agreed_length fields first ≡ Ok count → count ≤ most_body_bytes
agreed_within fields None count answer = absurd cc
agreed_within fields (Some said) count answer = by_agreement (list_all (agrees said) fields) said count answer

by_post : (post : Bool) (count : ℕ) → ◌≡◌ {A = Result ℕ Refusal} (cond post (Err LengthRequired) (Ok 0)) (Ok count) → count ≤ most_body_bytes
by_post true count answer = absurd cc
by_post false count answer = let same : 0 ≡ count = cc in omega (arith, same)

by_first : (method : List ℕ) (fields : List Field) (first : Option (List ℕ)) (count : ℕ) → length_by method fields first ≡ Ok count → count ≤ most_body_bytes
by_first method fields None count answer = by_post (is_post method) count answer
by_first method fields (Some value) count answer = agreed_within fields (length_in value) count answer

by_coding : (coded : Bool) (method : List ℕ) (fields : List Field) (first : Option (List ℕ)) (count : ℕ)
    → ◌≡◌ {A = Result ℕ Refusal} (cond coded (Err NotImplemented) (length_by method fields first)) (Ok count) → count ≤ most_body_bytes
by_coding true method fields first count answer = absurd cc
by_coding false method fields first count answer = by_first method fields first count answer

-- a body that is not refused is no longer than a body may be
body_within : (method : List ℕ) (fields : List Field) (count : ℕ) → body_length method fields ≡ Ok count → count ≤ most_body_bytes
unfolding body_length
body_within method fields count answer =
    by_coding (list_any (is_named transfer_encoding) fields) method fields (first_value content_length fields) count answer

-- bytes of which nothing can be said are fewer than those of a head and a body
pub awaits_room : (bytes : List ℕ) → Awaits bytes → length bytes < most_open_bytes
awaits_room bytes (inl none) = let zero : length bytes ≡ 0 = ap length none in omega (arith, zero)
awaits_room bytes (inr (inl head)) = let short : length bytes < most_head_bytes = head.1 in omega (arith, short)
awaits_room bytes (inr (inr body)) =
    let at = body.3 in
    let long : length bytes ≡ length (print_request body.0 ++ body.1) = ap length at.reads.1 in
    let within : body.2 ≤ most_body_bytes = body_within body.0.method (fields_of body.0) body.2 body.4 in
    omega (arith, long, at.short, body.5, within, length-append (print_request body.0) body.1)

same_asked : (m m' t t' b : List ℕ) (n n' : ℕ) (l l' : Bool) → m ≡ m' → t ≡ t' → n ≡ n' → l ≡ l'
    → ◌≡◌ {A = Asked} (record { method = m; target = t; minor = n; is_last = l; body = b }) (record { method = m'; target = t'; minor = n'; is_last = l'; body = b })
same_asked m m' t t' b n n' l l' em et en el = λ i. record { method = em i; target = et i; minor = en i; is_last = el i; body = b }

-- a head whose body is whole
pub begins_whole : (bytes : List ℕ) (place : Place) (spans : HeadSpans) (count : ℕ) → IsHeadOf bytes spans → spans.body ≡ Ok count → count ≤ length bytes - spans.len
    → place ≡ record { method = spans.method; target = spans.target; minor = spans.minor; is_last = spans.is_last; head_len = spans.len; len = spans.len + count }
    → IsPlaced bytes place × Begins bytes (asked_at bytes place) (drop place.len bytes)
begins_whole bytes place spans count h is many at =
    let o = h.3.1 in
    let body = slice_range bytes spans.len (spans.len + count) in
    let parts : drop spans.len bytes ≡ body ++ drop (spans.len + count) bytes =
    sym (take-append-drop count (drop spans.len bytes))
    ∙ ap₂ (λ (n : ℕ) (l : List ℕ). take n (drop spans.len bytes) ++ l) (omega arith) (drop-drop count spans.len bytes ∙ ap (λ (n : ℕ). drop n bytes) (omega arith)) in
    let long : length body ≡ count = omega (arith, many, h.1.len, length-take (spans.len + count - spans.len) (drop spans.len bytes), length-drop spans.len bytes) in
    rw at (
      record {
        method = (h.1.method.0, omega (arith, h.1.method.1, h.1.len));
        target = (h.1.target.0, omega (arith, h.1.target.1, h.1.len));
        body = omega arith;
        len = omega (arith, many, h.1.len);
      },
      (
        h.3.0,
        body,
        subst (HeadAt bytes h.3.0) parts (head_at bytes spans h),
        sym o.body ∙ is ∙ ap Ok (sym long),
        same_asked _ _ _ _ body _ _ _ _ o.method o.target o.minor o.is_last,
      ),
    )
