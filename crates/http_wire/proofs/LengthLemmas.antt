-- Lemmas on the length of a body: the definition by steps is what the fields say.
use Rattle.std.proofs.Common.{◌≡◌, ℕ, ◌==◌, ◌<◌, ◌≤◌, Bool, true, false, cond, not, nat_lt, ◌||◌, List, [], ◌∷◌, suc, slice_index_or, Option, Some, None, Result, Ok, Err, refl, inl, inr, sym, ap, ◌∙◌, subst, arith, eqb-true}
use Rattle.std.proofs.lemmas.Bool.{false_from_ne_true, true≢false}
use Rattle.std.proofs.lemmas.Bool.Decides.{nat_tests}
use Rattle.std.proofs.lemmas.List.Folds.{Any-from_list_any, list_any-from_Any}
use Rattle.std.proofs.lemmas.List.Sums.{AllPass-from_list_all, list_all-from_AllPass}
use Rattle.std.specs.List.{find, list_all, list_any}
use Rattle.std.specs.Option.{option_map, option_map_or}
use Rattle.http_wire.specs.Fields.{Field, agreed_length, agrees, body_length, content_length, first_value, is_named, length_by, length_in, most_body_bytes, says_length, transfer_encoding}
use Rattle.http_wire.specs.Lengths.{EachSays, HasField, LengthIs, SaidLengthIs, SaysLength}
use Rattle.http_wire.specs.Routes.{is_post}
use Rattle.http_wire.specs.declared.refusal.Refusal.{Refusal}
use Rattle.http_wire.specs.declared.refusal.Refusal.TheVariants.{BadRequest, NotFound, MethodNotAllowed, LengthRequired, ContentTooLarge, ServerError, NotImplemented, Unavailable}

-- ---- one field

said_is : (n : ℕ) (said : Option ℕ) → option_map_or (λ (s : ℕ). s == n) said false ≡ true → said ≡ Some n
said_is n None is = absurd (true≢false (sym is))
said_is n (Some s) is = ap Some (eqb-true s n is)

is_said : (n : ℕ) (said : Option ℕ) → said ≡ Some n → option_map_or (λ (s : ℕ). s == n) said false ≡ true
is_said n said is = rw is (grind (arith, nat_tests))

says : (n : ℕ) (value : List ℕ) → says_length n value ≡ true → length_in value ≡ Some n
unfolding says_length
says n value is = said_is n (length_in value) is

says_back : (n : ℕ) (value : List ℕ) → length_in value ≡ Some n → says_length n value ≡ true
unfolding says_length
says_back n value is = is_said n (length_in value) is

where_named : (named agrees : Bool) → (not named || agrees) ≡ true → named ≡ true → agrees ≡ true
where_named true agrees is named = is
where_named false agrees is named = absurd (true≢false (sym named))

if_named : (named agrees : Bool) → (named ≡ true → agrees ≡ true) → (not named || agrees) ≡ true
if_named true agrees is = is refl
if_named false agrees is = refl

-- ---- all fields

each_says : (n : ℕ) (fields : List Field) → list_all (agrees n) fields ≡ true → EachSays n fields
each_says n fields all k d within named =
    let field = slice_index_or fields k d in
    says n field.1 (where_named (is_named content_length field) (says_length n field.1) (AllPass-from_list_all (agrees n) fields all k d within) named)

all_agree : (n : ℕ) (fields : List Field) → EachSays n fields → list_all (agrees n) fields ≡ true
all_agree n fields each =
    list_all-from_AllPass (agrees n) fields
    (λ k d within.
    let field = slice_index_or fields k d in
    if_named (is_named content_length field) (says_length n field.1) (λ named. says_back n field.1 (each k d within named)))

-- what the first Content-Length tells of all
abbrev FirstTells : Option Field → List Field → Type 0
FirstTells None fields = list_any (is_named content_length) fields ≡ false
FirstTells (Some first) fields =
    (list_any (is_named content_length) fields ≡ true) × ((n : ℕ) → EachSays n fields → length_in first.1 ≡ Some n)

first_later : (field : Field) (fields : List Field) (found : Option Field) → is_named content_length field ≡ false → FirstTells found fields → FirstTells found (field ∷ fields)
first_later field fields None is rest = ap (λ (b : Bool). b || list_any (is_named content_length) fields) is ∙ rest
first_later field fields (Some first) is rest = (
  ap (λ (b : Bool). b || list_any (is_named content_length) fields) is ∙ rest.0,
  λ n each. rest.1 n (λ k d within. each (suc k) d (omega arith)),
)

first_more : (field : Field) (fields : List Field) (named : Bool) → is_named content_length field ≡ named → FirstTells (find (is_named content_length) fields) fields
    → FirstTells (cond named (Some field) (find (is_named content_length) fields)) (field ∷ fields)
first_more field fields true is rest = (
  ap (λ (b : Bool). b || list_any (is_named content_length) fields) is,
  λ n each. each 0 field (omega arith) is,
)
first_more field fields false is rest = first_later field fields (find (is_named content_length) fields) is rest

first_tells : (fields : List Field) → FirstTells (find (is_named content_length) fields) fields
first_tells [] = refl
first_tells (field ∷ fields) = first_more field fields (is_named content_length field) refl (first_tells fields)

has_none : (name : List ℕ) (fields : List Field) → list_any (is_named name) fields ≡ false → ¬ (HasField name fields)
has_none name fields none some = true≢false (sym (list_any-from_Any (is_named name) fields some) ∙ none)

-- ---- the length

by_size : (method : List ℕ) (fields : List Field) (n : ℕ) (too_large : Bool) → SaysLength n fields → nat_lt most_body_bytes n ≡ too_large
    → SaidLengthIs method fields (cond too_large (Err ContentTooLarge) (Ok n))
by_size method fields n true said is = (n, said, grind (arith, nat_tests))
by_size method fields n false said is = inl (said, grind (arith, nat_tests))

by_agreement : (method : List ℕ) (fields : List Field) (n : ℕ) (agree : Bool) → HasField content_length fields → ((m : ℕ) → EachSays m fields → n ≡ m)
    → list_all (agrees n) fields ≡ agree
    → SaidLengthIs method fields (cond (not agree) (Err BadRequest) (cond (nat_lt most_body_bytes n) (Err ContentTooLarge) (Ok n)))
by_agreement method fields n true some one is = by_size method fields n (nat_lt most_body_bytes n) (some, each_says n fields is) refl
by_agreement method fields n false some one is = (
  some,
  λ m each. true≢false (sym (all_agree n fields (subst (λ (k : ℕ). EachSays k fields) (sym (one m each)) each)) ∙ is),
)

by_value : (method : List ℕ) (fields : List Field) (said : Option ℕ) → HasField content_length fields → ((m : ℕ) → EachSays m fields → said ≡ Some m)
    → SaidLengthIs method fields (agreed_length fields said)
by_value method fields None some one = (some, λ m each. let same : ◌≡◌ {A = Option ℕ} None (Some m) = one m each in absurd cc)
by_value method fields (Some n) some one =
    by_agreement method fields n (list_all (agrees n) fields) some (λ m each. let is : ◌≡◌ {A = Option ℕ} (Some n) (Some m) = one m each in cc) refl

by_post : (method : List ℕ) (fields : List Field) (post : Bool) → ¬ (HasField content_length fields) → is_post method ≡ post
    → SaidLengthIs method fields (cond post (Err LengthRequired) (Ok 0))
by_post method fields true none is = (none, is)
by_post method fields false none is = inr ((none, is), refl)

by_first : (method : List ℕ) (fields : List Field) (found : Option Field) → FirstTells found fields
    → SaidLengthIs method fields (length_by method fields (option_map (λ (f : Field). f.1) found))
by_first method fields None tells = by_post method fields (is_post method) (has_none content_length fields tells) refl
by_first method fields (Some first) tells = by_value method fields (length_in first.1) (Any-from_list_any (is_named content_length) fields tells.0) tells.1

uncoded : (method : List ℕ) (fields : List Field) (result : Result ℕ Refusal) → ¬ (HasField transfer_encoding fields) → SaidLengthIs method fields result
    → LengthIs method fields result
uncoded method fields (Ok n) none said = (none, said)
uncoded method fields (Err BadRequest) none said = (none, said)
uncoded method fields (Err NotFound) none said = (none, said)
uncoded method fields (Err MethodNotAllowed) none said = (none, said)
uncoded method fields (Err LengthRequired) none said = (none, said)
uncoded method fields (Err ContentTooLarge) none said = (none, said)
uncoded method fields (Err ServerError) none said = (none, said)
uncoded method fields (Err NotImplemented) none said = absurd said
uncoded method fields (Err Unavailable) none said = (none, said)

by_coding : (method : List ℕ) (fields : List Field) (coded : Bool) → list_any (is_named transfer_encoding) fields ≡ coded
    → LengthIs method fields (cond coded (Err NotImplemented) (length_by method fields (first_value content_length fields)))
by_coding method fields true is = Any-from_list_any (is_named transfer_encoding) fields is
by_coding method fields false is =
    uncoded method fields (length_by method fields (first_value content_length fields)) (has_none transfer_encoding fields is)
    (by_first method fields (find (is_named content_length) fields) (first_tells fields))

pub length_is : (method : List ℕ) (fields : List Field) → LengthIs method fields (body_length method fields)
unfolding body_length
length_is method fields = by_coding method fields (list_any (is_named transfer_encoding) fields) refl

-- ---- what the fields say gives the length

agreed_is : (fields : List Field) (n : ℕ) → EachSays n fields → agreed_length fields (Some n) ≡ cond (nat_lt most_body_bytes n) (Err ContentTooLarge) (Ok n)
agreed_is fields n each =
    ap (λ (b : Bool). cond (not b) (Err BadRequest) (cond (nat_lt most_body_bytes n) (Err ContentTooLarge) (Ok n))) (all_agree n fields each)

kept : (n : ℕ) → n ≤ most_body_bytes → ◌≡◌ {A = Result ℕ Refusal} (cond (nat_lt most_body_bytes n) (Err ContentTooLarge) (Ok n)) (Ok n)
kept n within =
    let small : nat_lt most_body_bytes n ≡ false = grind (arith, nat_tests) in
    ap (λ (b : Bool). cond b (Err ContentTooLarge) (Ok n)) small

too_large : (n : ℕ) → most_body_bytes < n → ◌≡◌ {A = Result ℕ Refusal} (cond (nat_lt most_body_bytes n) (Err ContentTooLarge) (Ok n)) (Err ContentTooLarge)
too_large n beyond =
    let large : nat_lt most_body_bytes n ≡ true = grind (arith, nat_tests) in
    ap (λ (b : Bool). cond b (Err ContentTooLarge) (Ok n)) large

differ_by : (fields : List Field) (n : ℕ) (agree : Bool) → ¬ (EachSays n fields) → list_all (agrees n) fields ≡ agree
    → cond (not agree) (Err BadRequest) (cond (nat_lt most_body_bytes n) (Err ContentTooLarge) (Ok n)) ≡ Err BadRequest
differ_by fields n true none is = absurd (none (each_says n fields is))
differ_by fields n false none is = refl

differ : (fields : List Field) (said : Option ℕ) → ((n : ℕ) → ¬ (EachSays n fields)) → agreed_length fields said ≡ Err BadRequest
differ fields None none = refl
differ fields (Some n) none = differ_by fields n (list_all (agrees n) fields) (none n) refl

first_gives : (method : List ℕ) (fields : List Field) (found : Option Field) (result : Result ℕ Refusal) → FirstTells found fields → SaidLengthIs method fields result
    → length_by method fields (option_map (λ (f : Field). f.1) found) ≡ result
first_gives method fields None (Ok n) tells (inl x) = absurd (has_none content_length fields tells x.0.0)
first_gives method fields None (Ok n) tells (inr x) =
    ap (λ (b : Bool). cond b (Err LengthRequired) (Ok 0)) x.0.1 ∙ ap Ok (sym x.1)
first_gives method fields None (Err ContentTooLarge) tells x = absurd (has_none content_length fields tells x.1.0)
first_gives method fields None (Err LengthRequired) tells x = ap (λ (b : Bool). cond b (Err LengthRequired) (Ok 0)) x.1
first_gives method fields None (Err BadRequest) tells x = absurd (has_none content_length fields tells x.0)
first_gives method fields (Some first) (Ok n) tells (inl x) = ap (agreed_length fields) (tells.1 n x.0.1) ∙ agreed_is fields n x.0.1 ∙ kept n x.1
first_gives method fields (Some first) (Ok n) tells (inr x) = absurd (x.0.0 (Any-from_list_any (is_named content_length) fields tells.0))
first_gives method fields (Some first) (Err ContentTooLarge) tells x =
    ap (agreed_length fields) (tells.1 x.0 x.1.1) ∙ agreed_is fields x.0 x.1.1 ∙ too_large x.0 x.2
first_gives method fields (Some first) (Err LengthRequired) tells x = absurd (x.0 (Any-from_list_any (is_named content_length) fields tells.0))
first_gives method fields (Some first) (Err BadRequest) tells x = differ fields (length_in first.1) x.1
first_gives method fields found (Err NotFound) tells x = absurd x
first_gives method fields found (Err MethodNotAllowed) tells x = absurd x
first_gives method fields found (Err ServerError) tells x = absurd x
first_gives method fields found (Err NotImplemented) tells x = absurd x
first_gives method fields found (Err Unavailable) tells x = absurd x

coding_gives : (method : List ℕ) (fields : List Field) (result : Result ℕ Refusal) → ¬ (HasField transfer_encoding fields) → SaidLengthIs method fields result
    → cond (list_any (is_named transfer_encoding) fields) (Err NotImplemented) (length_by method fields (first_value content_length fields)) ≡ result
coding_gives method fields result none said =
    let uncoded : list_any (is_named transfer_encoding) fields ≡ false =
    false_from_ne_true (list_any (is_named transfer_encoding) fields) (λ e. none (Any-from_list_any (is_named transfer_encoding) fields e)) in
    ap (λ (b : Bool). cond b (Err NotImplemented) (length_by method fields (first_value content_length fields))) uncoded
    ∙ first_gives method fields (find (is_named content_length) fields) result (first_tells fields) said

pub length_from : (method : List ℕ) (fields : List Field) (result : Result ℕ Refusal) → LengthIs method fields result → body_length method fields ≡ result
unfolding body_length
length_from method fields (Err NotImplemented) is =
    ap (λ (b : Bool). cond b (Err NotImplemented) (length_by method fields (first_value content_length fields)))
    (list_any-from_Any (is_named transfer_encoding) fields is)
length_from method fields (Ok n) is = coding_gives method fields (Ok n) is.0 is.1
length_from method fields (Err BadRequest) is = coding_gives method fields (Err BadRequest) is.0 is.1
length_from method fields (Err LengthRequired) is = coding_gives method fields (Err LengthRequired) is.0 is.1
length_from method fields (Err ContentTooLarge) is = coding_gives method fields (Err ContentTooLarge) is.0 is.1
length_from method fields (Err NotFound) is = absurd is.1
length_from method fields (Err MethodNotAllowed) is = absurd is.1
length_from method fields (Err ServerError) is = absurd is.1
length_from method fields (Err Unavailable) is = absurd is.1

pub ruleset lengths = (length_is, length_from)
