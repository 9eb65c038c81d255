-- Texts of spans, cut into these spans again.
use Rattle.std.proofs.Common.{cond, ◌≡◌, ℕ, ◌+◌, ◌*◌, ◌<◌, Bool, true, false, not, ◌||◌, ◌==◌, List, [], ◌∷◌, ◌++◌, length, map, length-append, append_assoc, codes, All, Option, Some, None, option_map, option_and_then, refl, sym, ap, subst, ◌∙◌, arith}
use Rattle.std.specs.Char.{is_ascii_digit}
use Rattle.std.specs.List.{list_all, position_or_len, sum_by}
use Rattle.std.specs.Option.{IsSome, unwrap_or}
use Rattle.std.specs.Str.{bytes_eq}
use Rattle.std.specs.Str.Parse.{digits_value}
use Rattle.std.proofs.lemmas.Bool.{and_parts}
use Rattle.std.proofs.lemmas.Bool.Decides.{nat_tests}
use Rattle.std.proofs.lemmas.List.{drop_at, take_at, take-append-drop}
use Rattle.std.proofs.lemmas.List.Elements.{All-cons, All-head, All-nil, All-tail}
use Rattle.std.proofs.lemmas.List.Sorted.{All-permutation, length_permutation, sum_by-IsPermutation}
use Rattle.std.proofs.lemmas.List.Sums.{sum_by-cons}
use Rattle.std.proofs.lemmas.Slice.Eq.{bytes_eq-Decides}
use Rattle.time_range.specs.SpanLaws.{AddsUp, AddsUpInAnyOrder, AreParts, IsOfSpansAlone, IsPart, Part, part_seconds, written}
use Rattle.time_range.specs.Spans.{digits_of, ends_span, in_front, is_no_digit, seconds_of, span_seconds, spans_of, total_of, unit_of}
use Rattle.time_range.specs.TimeUnits.{is_day, is_hour, is_minute, is_month, is_second, is_week, is_year, unit_seconds}
use Rattle.time_range.proofs.SpanLemmas.{digits_are_digits}

-- ---- units have letters alone

-- at least one byte, and no digit
abbrev IsWord : List ℕ → Type 0
IsWord unit = (0 < length unit) × (list_all is_no_digit unit ≡ true)

named : (unit name : List ℕ) → IsWord name → bytes_eq unit name ≡ true → IsWord unit
named unit name word e = subst IsWord (sym ((bytes_eq-Decides unit name).0 e)) word

one_of : {P : Type 0} (a b : Bool) → (a || b) ≡ true → (a ≡ true → P) → (b ≡ true → P) → P
one_of true b e first second = first refl
one_of false b e first second = second e

three : (unit a b c : List ℕ) → IsWord a → IsWord b → IsWord c → (bytes_eq unit a || (bytes_eq unit b || bytes_eq unit c)) ≡ true → IsWord unit
three unit a b c x y z e =
    one_of (bytes_eq unit a) _ e (named unit a x) (λ more. one_of (bytes_eq unit b) (bytes_eq unit c) more (named unit b y) (named unit c z))

second_word : (unit : List ℕ) → is_second unit ≡ true → IsWord unit
unfolding is_second
second_word unit e =
    one_of (bytes_eq unit (codes "s")) _ e (named unit (codes "s") (omega arith, refl)) (three unit (codes "sec") (codes "second") (codes "seconds") (omega arith, refl) (omega arith, refl) (omega arith, refl))

minute_word : (unit : List ℕ) → is_minute unit ≡ true → IsWord unit
unfolding is_minute
minute_word unit e = three unit (codes "min") (codes "minute") (codes "minutes") (omega arith, refl) (omega arith, refl) (omega arith, refl) e

hour_word : (unit : List ℕ) → is_hour unit ≡ true → IsWord unit
unfolding is_hour
hour_word unit e = three unit (codes "h") (codes "hour") (codes "hours") (omega arith, refl) (omega arith, refl) (omega arith, refl) e

day_word : (unit : List ℕ) → is_day unit ≡ true → IsWord unit
unfolding is_day
day_word unit e = three unit (codes "d") (codes "day") (codes "days") (omega arith, refl) (omega arith, refl) (omega arith, refl) e

week_word : (unit : List ℕ) → is_week unit ≡ true → IsWord unit
unfolding is_week
week_word unit e = three unit (codes "w") (codes "week") (codes "weeks") (omega arith, refl) (omega arith, refl) (omega arith, refl) e

month_word : (unit : List ℕ) → is_month unit ≡ true → IsWord unit
unfolding is_month
month_word unit e = three unit (codes "mon") (codes "month") (codes "months") (omega arith, refl) (omega arith, refl) (omega arith, refl) e

year_word : (unit : List ℕ) → is_year unit ≡ true → IsWord unit
unfolding is_year
year_word unit e = three unit (codes "y") (codes "year") (codes "years") (omega arith, refl) (omega arith, refl) (omega arith, refl) e

found : {P : Type 0} (s m h d w n y : Bool) → (s ≡ true → P) → (m ≡ true → P) → (h ≡ true → P) → (d ≡ true → P) → (w ≡ true → P) → (n ≡ true → P) → (y ≡ true → P)
    → IsSome {T = ℕ} (cond s (Some 1) (cond m (Some 60) (cond h (Some 3600) (cond d (Some 86400) (cond w (Some 604800) (cond n (Some 2592000) (cond y (Some 31536000) None))))))) → P
found true m h d w n y ps pm ph pd pw pn py e = ps refl
found false true h d w n y ps pm ph pd pw pn py e = pm refl
found false false true d w n y ps pm ph pd pw pn py e = ph refl
found false false false true w n y ps pm ph pd pw pn py e = pd refl
found false false false false true n y ps pm ph pd pw pn py e = pw refl
found false false false false false true y ps pm ph pd pw pn py e = pn refl
found false false false false false false true ps pm ph pd pw pn py e = py refl
found false false false false false false false ps pm ph pd pw pn py e = absurd cc

unit_word : (unit : List ℕ) → IsSome (unit_seconds unit) → IsWord unit
unfolding unit_seconds
unit_word unit e =
    found (is_second unit) (is_minute unit) (is_hour unit) (is_day unit) (is_week unit) (is_month unit) (is_year unit) (second_word unit) (minute_word unit) (hour_word unit) (day_word unit) (week_word unit) (month_word unit) (year_word unit) e

-- ---- a text of spans is cut into them

-- what may stand behind a span: nothing, or a digit
abbrev MayFollow : List ℕ → Type 0
MayFollow [] = Unit {0}
MayFollow (b ∷ bs) = is_ascii_digit b ≡ true

digit_is_no_other : (b : ℕ) → is_ascii_digit b ≡ true → is_no_digit b ≡ false
digit_is_no_other b e = rw e refl

other_is_no_digit : (b : Bool) → not b ≡ true → b ≡ false
other_is_no_digit true e = absurd cc
other_is_no_digit false e = refl

unit_cut : (b : ℕ) (unit rest : List ℕ) → is_no_digit b ≡ true → list_all is_no_digit unit ≡ true → MayFollow rest → spans_of ((b ∷ unit) ++ rest) ≡ (b ∷ unit) ∷ spans_of rest
unfolding spans_of
unit_cut b [] [] here more follow = refl
unit_cut b [] (c ∷ rest) here more follow = rw (here, follow) refl
unit_cut b (c ∷ unit) rest here more follow =
    let parts = and_parts (is_no_digit c) (list_all is_no_digit unit) more in
    let other : is_ascii_digit c ≡ false = other_is_no_digit (is_ascii_digit c) parts.0 in
    rw (here, other, unit_cut c unit rest parts.0 parts.1 follow) refl

digits_cut : (digits text span : List ℕ) (spans : List (List ℕ)) → list_all is_ascii_digit digits ≡ true → spans_of text ≡ span ∷ spans → spans_of (digits ++ text) ≡ (digits ++ span) ∷ spans
unfolding spans_of
digits_cut [] text span spans digits e = e
digits_cut (d ∷ ds) text span spans digits e =
    let parts = and_parts (is_ascii_digit d) (list_all is_ascii_digit ds) digits in
    digit_first d (ds ++ text) (ds ++ span) spans parts.0 (digits_cut ds text span spans parts.1 e)
  where
    digit_first : (d : ℕ) (text span : List ℕ) (spans : List (List ℕ)) → is_ascii_digit d ≡ true → spans_of text ≡ span ∷ spans → spans_of (d ∷ text) ≡ (d ∷ span) ∷ spans
    digit_first d [] span spans digit e = absurd cc
    digit_first d (c ∷ cs) span spans digit e = rw digit (rw e refl)

word_cut : (unit rest : List ℕ) → IsWord unit → MayFollow rest → spans_of (unit ++ rest) ≡ unit ∷ spans_of rest
word_cut [] rest (some, letters) follow = absurd (omega arith)
word_cut (b ∷ bs) rest (some, letters) follow =
    let parts = and_parts (is_no_digit b) (list_all is_no_digit bs) letters in
    unit_cut b bs rest parts.0 parts.1 follow

part_cut : (part : Part) (rest : List ℕ) → IsPart part → MayFollow rest → spans_of (part.digits ++ (part.unit ++ rest)) ≡ (part.digits ++ part.unit) ∷ spans_of rest
part_cut part rest is follow = digits_cut part.digits (part.unit ++ rest) part.unit (spans_of rest) is.number (word_cut part.unit rest (unit_word part.unit is.known) follow)

begins : (digits rest : List ℕ) → 0 < length digits → list_all is_ascii_digit digits ≡ true → MayFollow (digits ++ rest)
begins [] rest some digits = absurd (omega arith)
begins (d ∷ ds) rest some digits = (and_parts (is_ascii_digit d) (list_all is_ascii_digit ds) digits).0

follows : (parts : List Part) → All IsPart parts → MayFollow (written parts)
unfolding written
follows [] all = tt
follows (part ∷ parts) all =
    let is = All-head IsPart part parts all in
    begins part.digits (part.unit ++ written parts) is.some is.number

-- ---- the seconds of a span that is written

place_behind : (digits unit : List ℕ) → list_all is_ascii_digit digits ≡ true → IsWord unit → position_or_len is_no_digit (digits ++ unit) ≡ length digits
place_behind [] [] digits (some, letters) = absurd (omega arith)
place_behind [] (b ∷ bs) digits (some, letters) = rw (and_parts (is_no_digit b) (list_all is_no_digit bs) letters).0 refl
place_behind (d ∷ ds) unit digits word =
    let parts = and_parts (is_ascii_digit d) (list_all is_ascii_digit ds) digits in
    rw (parts.0, place_behind ds unit parts.1 word) (omega arith)

by_unit : (n : ℕ) (unit : Option ℕ) → IsSome unit → option_map (λ u. n * u) unit ≡ Some (n * unwrap_or unit 0)
by_unit n None e = absurd cc
by_unit n (Some u) e = refl

part_span : (part : Part) → IsPart part → span_seconds (part.digits ++ part.unit) ≡ Some (part_seconds part)
unfolding span_seconds
part_span part is =
    let at = place_behind part.digits part.unit is.number (unit_word part.unit is.known) in
    let some : (length part.digits == 0) ≡ false = grind (arith, nat_tests, is.some) in
    rw (at, take_at part.digits part.unit (length part.digits) refl, drop_at part.digits part.unit (length part.digits) refl, some) (by_unit (digits_value 10 part.digits) (unit_seconds part.unit) is.known)

-- ---- the seconds of all of them

adds : (parts : List Part) → All IsPart parts → total_of (spans_of (written parts)) ≡ Some (sum_by part_seconds parts)
unfolding written spans_of total_of
adds [] all = refl
adds (part ∷ parts) all =
    let is = All-head IsPart part parts all in
    let others = All-tail IsPart part parts all in
    ap total_of (part_cut part (written parts) is (follows parts others))
    ∙ rw (part_span part is, adds parts others) (ap (λ (n : ℕ). Some n) (sym (sum_by-cons part_seconds part parts)))

some_text : (parts : List Part) → AreParts parts → (length (written parts) == 0) ≡ false
unfolding written
some_text [] (some, all) = absurd (omega arith)
some_text (part ∷ parts) (some, all) =
    let is = All-head IsPart part parts all in
    grind (arith, nat_tests, length-append part.digits (part.unit ++ written parts), is.some)

pub adds_up : AddsUp
unfolding seconds_of
adds_up parts are = rw (some_text parts are) (adds parts are.1)

pub adds_up_in_any_order : AddsUpInAnyOrder
adds_up_in_any_order parts others are same =
    adds_up others (omega (arith, length_permutation parts others same, are.0), All-permutation IsPart parts others same are.1)
    ∙ (ap (λ (n : ℕ). Some n) (sum_by-IsPermutation part_seconds parts others same) ∙ sym (adds_up parts are))

-- ---- each text that has seconds is one of spans

abbrev part_of : List ℕ → Part
part_of span = record { digits = digits_of span; unit = unit_of span }

abbrev joined : List (List ℕ) → List ℕ
joined [] = []
joined (span ∷ spans) = span ++ joined spans

rejoined : (spans : List (List ℕ)) → written (map part_of spans) ≡ joined spans
unfolding written
rejoined [] = refl
rejoined (span ∷ spans) =
    sym (append_assoc (digits_of span) (unit_of span) (written (map part_of spans)))
    ∙ rw (take-append-drop (position_or_len is_no_digit span) span, rejoined spans) refl

joined_front : (b : ℕ) (spans : List (List ℕ)) → joined (in_front b spans) ≡ b ∷ joined spans
joined_front b [] = refl
joined_front b (span ∷ spans) = refl

spans_joined : (text : List ℕ) → joined (spans_of text) ≡ text
unfolding spans_of
spans_joined [] = refl
spans_joined (b ∷ bs) = by (ends_span b bs) ∙ ap (λ (rest : List ℕ). b ∷ rest) (spans_joined bs)
  where
    by : (t : Bool) → joined (cond t ((b ∷ []) ∷ spans_of bs) (in_front b (spans_of bs))) ≡ b ∷ joined (spans_of bs)
    by true = refl
    by false = joined_front b (spans_of bs)

known_by : (none : Bool) (n : ℕ) (unit : Option ℕ) → IsSome (cond none None (option_map (λ u. n * u) unit)) → (none ≡ false) × IsSome unit
known_by true n unit e = absurd cc
known_by false n None e = absurd cc
known_by false n (Some u) e = (refl, refl)

span_part : (span : List ℕ) → IsSome (span_seconds span) → IsPart (part_of span)
unfolding span_seconds
span_part span e =
    let known = known_by (length (digits_of span) == 0) (digits_value 10 (digits_of span)) (unit_seconds (unit_of span)) e in
    record { some = grind (arith, nat_tests, known.0); number = digits_are_digits span; known = known.1 }

both_known : (own others : Option ℕ) → IsSome (option_and_then (λ seconds. option_map (λ more. seconds + more) others) own) → IsSome own × IsSome others
both_known None others e = absurd cc
both_known (Some n) None e = absurd cc
both_known (Some n) (Some m) e = (refl, refl)

all_parts : (spans : List (List ℕ)) → IsSome (total_of spans) → All IsPart (map part_of spans)
unfolding total_of
all_parts [] e = All-nil IsPart
all_parts (span ∷ spans) e =
    let known = both_known (span_seconds span) (total_of spans) e in
    All-cons IsPart (part_of span) (map part_of spans) (span_part span known.0) (all_parts spans known.1)

some_spans : (spans : List (List ℕ)) → 0 < length (joined spans) → 0 < length (map part_of spans)
some_spans [] some = absurd (omega arith)
some_spans (span ∷ spans) some = omega arith

known_total : (none : Bool) (total : Option ℕ) → IsSome (cond none None total) → (none ≡ false) × IsSome total
known_total true total e = absurd cc
known_total false total e = (refl, e)

pub of_spans_alone : IsOfSpansAlone
unfolding seconds_of
of_spans_alone text e =
    let known = known_total (length text == 0) (total_of (spans_of text)) e in
    let some : 0 < length text = grind (arith, nat_tests, known.0) in
    (map part_of (spans_of text), (some_spans (spans_of text) (rw (spans_joined text) some), all_parts (spans_of text) known.1), sym (rejoined (spans_of text) ∙ spans_joined text))
