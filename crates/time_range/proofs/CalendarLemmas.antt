-- The moments of dates.
use Rattle.std.proofs.Common.{◌≡◌, ℕ, ◌+◌, ◌*◌, ◌<◌, ◌≤◌, Bool, true, false, ◌==◌, nat_lt, inl, inr, ℤ, pos, ◌+ℤ◌, ◌*ℤ◌, List, [], ◌∷◌, length, codes, Option, Some, None, option_map, option_and_then, refl, ap, ◌∙◌, arith}
use Rattle.std.proofs.lemmas.Int.{ints}
use Rattle.std.specs.Char.{is_ascii_digit}
use Rattle.std.specs.List.{list_all, position_or_len}
use Rattle.std.specs.Str.Parse.{digits_value}
use Rattle.std.proofs.lemmas.Bool.{and_parts, lt-ltb}
use Rattle.std.proofs.lemmas.Bool.Decides.{nat_tests}
use Rattle.std.proofs.lemmas.List.{drop_all, take_all}
use Rattle.std.proofs.lemmas.Slice.Eq.{bytes_eq-Decides}
use Rattle.jiff_core.specs.Calendar.{days_from_civil}
use Rattle.jiff_core.proofs.DateLemmas.{days_from_civil-day, days_from_civil-next_month, days_from_civil-next_year}
use Rattle.jiff_core.proofs.StandardFacts.{known_days}
use Rattle.time_range.specs.CalendarLaws.{BeginsWithTheEpoch, DaysFollow, HoursFollow, IsDay, IsDayBehind, IsTimeOfDay, clock_text}
use Rattle.time_range.specs.Dates.{clock_second, date_in, date_second, day_in, is_date, is_meant_as_date, month_in, number_below, time_of_day, year_in}
use Rattle.time_range.specs.TimeOf.{is_count, is_now, is_sign, moment_of, moment_of_parts, moved, named_second, offset_of, reference_second}

-- ---- a text of digits is a reference with no offset

no_sign : (b : ℕ) → is_ascii_digit b ≡ true → is_sign b ≡ false
no_sign b e = grind (arith, nat_tests)

no_sign_in : (text : List ℕ) → list_all is_ascii_digit text ≡ true → position_or_len is_sign text ≡ length text
no_sign_in [] digits = refl
no_sign_in (b ∷ bs) digits =
    let parts = and_parts (is_ascii_digit b) (list_all is_ascii_digit bs) digits in
    rw (no_sign b parts.0, no_sign_in bs parts.1) (omega arith)

plain_moment : (text : List ℕ) (now : ℕ) → position_or_len is_sign text ≡ length text → 0 < length text → moment_of text now ≡ option_map (λ from. from +ℤ pos 0) (reference_second text now)
unfolding moment_of_parts offset_of
plain_moment text now plain some =
    let none : (length text == 0) ≡ false = grind (arith, nat_tests, some) in
    rw (plain, take_all (length text) text (omega arith), drop_all (length text) text (omega arith), none) (by (reference_second text now))
  where
    by : (found : Option ℤ) → option_and_then (λ from. moved from []) found ≡ option_map (λ from. from +ℤ pos 0) found
    by None = refl
    by (Some from) = refl

-- ---- a date's moment

abbrev number_of_day : List ℕ → ℤ
number_of_day date = days_from_civil (pos (year_in date)) (month_in date) (day_in date)

is_no_now : (text : List ℕ) → 3 < length text → is_now text ≡ false
is_no_now text long = by (is_now text) refl
  where
    by : (t : Bool) → is_now text ≡ t → is_now text ≡ false
    by true e =
        let three : length text ≡ 3 = ap length ((bytes_eq-Decides text (codes "now")).0 e) in
        absurd (omega (arith, three, long))
    by false e = e

meant : (date : List ℕ) → IsDay date → is_meant_as_date date ≡ true
unfolding is_meant_as_date
meant date is = grind (arith, nat_tests, is.eight, is.late, is.real)

day_moment : (date : List ℕ) (now : ℕ) → IsDay date
    → moment_of date now ≡ Some (number_of_day date *ℤ pos 86400 +ℤ pos 0)
unfolding is_count named_second date_second
day_moment date now is =
    let some : nat_lt 0 (length date) ≡ true = grind (arith, nat_tests, is.eight) in
    plain_moment date now (no_sign_in date is.digits) (omega (arith, is.eight))
    ∙ rw (meant date is, is_no_now date (omega (arith, is.eight)), some, is.digits, is.real) refl

-- ---- the next day

later : (d e : ℤ) → e ≡ d +ℤ pos 1 → e *ℤ pos 86400 +ℤ pos 0 ≡ (d *ℤ pos 86400 +ℤ pos 0) +ℤ pos 86400
later d e is = omega (arith, ints, is)

day_parts : (y m d : ℕ) → is_date y m d ≡ true → (1 ≤ m) × (1 ≤ d)
day_parts y m d e = (grind (arith, nat_tests, e), grind (arith, nat_tests, e))

next_in_month : (y m d : ℕ) → 1 ≤ d → days_from_civil (pos y) m (d + 1) ≡ days_from_civil (pos y) m d +ℤ pos 1
next_in_month y m d some =
    let same = days_from_civil-day (pos y) m (d + 1) d (omega arith) some in
    omega (arith, ints, same)

next_day : (date next : List ℕ) → IsDay date → IsDayBehind date next
    → number_of_day next ≡ number_of_day date +ℤ pos 1
next_day date next is (inl same) =
    rw (same.year, same.month, same.day) (next_in_month (year_in date) (month_in date) (day_in date) (day_parts (year_in date) (month_in date) (day_in date) is.real).1)
next_day date next is (inr (inl month)) =
    rw (month.year, month.month, month.day) (days_from_civil-next_month (pos (year_in date)) (month_in date) (day_in date) (day_parts (year_in date) (month_in date) (day_in date) is.real).0 month.last)
next_day date next is (inr (inr year)) =
    rw (year.year, year.january, year.day, year.december, year.last) (days_from_civil-next_year (pos (year_in date)) (pos (year_in date + 1)) (omega (arith, ints)) (omega (arith, ints)))

pub days_follow : DaysFollow
days_follow date next now is is_next behind = (
  number_of_day date *ℤ pos 86400 +ℤ pos 0,
  day_moment date now is,
  day_moment next now is_next ∙ ap (λ (z : ℤ). Some z) (later (number_of_day date) (number_of_day next) (next_day date next is behind)),
)

pub begins_with_the_epoch : BeginsWithTheEpoch
begins_with_the_epoch now =
    day_moment (codes "19700101") now (record { eight = refl; digits = refl; late = omega arith; real = refl })
    ∙ ap (λ (z : ℤ). Some (z *ℤ pos 86400 +ℤ pos 0)) known_days.0

-- ---- a time of day

clock_is : (a b c d : ℕ) (date : List ℕ) → length date ≡ 8 → clock_second (a ∷ b ∷ 58 ∷ c ∷ d ∷ 95 ∷ date) ≡ time_of_day (a ∷ b ∷ []) (c ∷ d ∷ []) date
unfolding clock_second
clock_is a b c d date eight =
    let long : (length (a ∷ b ∷ 58 ∷ c ∷ d ∷ 95 ∷ date) == 14) ≡ true = grind (arith, nat_tests, eight) in
    rw long refl

day_time : (hour minute date : List ℕ) → IsTimeOfDay hour minute → IsDay date
    → time_of_day hour minute date ≡ Some (number_of_day date *ℤ pos 86400 +ℤ pos (digits_value 10 hour * 3600 + digits_value 10 minute * 60))
unfolding time_of_day number_below date_in date_second
day_time hour minute date at is =
    rw (at.hour_digits, lt-ltb (digits_value 10 hour) 24 at.hour_below, at.minute_digits, lt-ltb (digits_value 10 minute) 60 at.minute_below, is.digits, is.real) refl

clock_plain : (a b c d : ℕ) (date : List ℕ) → is_ascii_digit a ≡ true → is_ascii_digit b ≡ true → is_ascii_digit c ≡ true → is_ascii_digit d ≡ true → list_all is_ascii_digit date ≡ true
    → position_or_len is_sign (a ∷ b ∷ 58 ∷ c ∷ d ∷ 95 ∷ date) ≡ length (a ∷ b ∷ 58 ∷ c ∷ d ∷ 95 ∷ date)
clock_plain a b c d date p q r s digits = rw (no_sign a p, no_sign b q, no_sign c r, no_sign d s, no_sign_in date digits) (omega arith)

both_digits : (a b : ℕ) → list_all is_ascii_digit (a ∷ b ∷ []) ≡ true → (is_ascii_digit a ≡ true) × (is_ascii_digit b ≡ true)
both_digits a b e =
    let parts = and_parts (is_ascii_digit a) _ e in
    (parts.0, (and_parts (is_ascii_digit b) true parts.1).0)

clock_reference : (a b c d : ℕ) (date : List ℕ) (now : ℕ) → is_ascii_digit a ≡ true → is_ascii_digit b ≡ true → length date ≡ 8
    → reference_second (a ∷ b ∷ 58 ∷ c ∷ d ∷ 95 ∷ date) now ≡ time_of_day (a ∷ b ∷ []) (c ∷ d ∷ []) date
unfolding is_count named_second
clock_reference a b c d date now p q eight =
    let some : nat_lt 0 (length (a ∷ b ∷ 58 ∷ c ∷ d ∷ 95 ∷ date)) ≡ true = grind (arith, nat_tests) in
    rw (is_no_now (a ∷ b ∷ 58 ∷ c ∷ d ∷ 95 ∷ date) (omega arith), some, p, q) (clock_is a b c d date eight)

by_clock : (a b c d : ℕ) (date : List ℕ) (now : ℕ) → IsTimeOfDay (a ∷ b ∷ []) (c ∷ d ∷ []) → IsDay date
    → moment_of (a ∷ b ∷ 58 ∷ c ∷ d ∷ 95 ∷ date) now
    ≡ option_map (λ second. second +ℤ pos (digits_value 10 (a ∷ b ∷ []) * 3600 + digits_value 10 (c ∷ d ∷ []) * 60)) (moment_of date now)
by_clock a b c d date now at is =
    let hour = both_digits a b at.hour_digits in
    let minute = both_digits c d at.minute_digits in
    let text = a ∷ b ∷ 58 ∷ c ∷ d ∷ 95 ∷ date in
    plain_moment text now (clock_plain a b c d date hour.0 hour.1 minute.0 minute.1 is.digits) (omega arith)
    ∙ (ap (λ (found : Option ℤ). option_map (λ from. from +ℤ pos 0) found) (clock_reference a b c d date now hour.0 hour.1 is.eight ∙ day_time (a ∷ b ∷ []) (c ∷ d ∷ []) date at is)
    ∙ rw (day_moment date now is) (ap (λ (z : ℤ). Some z) (moved_by (number_of_day date *ℤ pos 86400) (digits_value 10 (a ∷ b ∷ []) * 3600 + digits_value 10 (c ∷ d ∷ []) * 60))))
  where
    moved_by : (z : ℤ) (n : ℕ) → (z +ℤ pos n) +ℤ pos 0 ≡ (z +ℤ pos 0) +ℤ pos n
    moved_by z n = omega (arith, ints)

pub hours_follow : HoursFollow
hours_follow hour minute date now at is = by_lists hour minute at.hour_length at.minute_length at
  where
    by_lists : (hour minute : List ℕ) → length hour ≡ 2 → length minute ≡ 2 → IsTimeOfDay hour minute
        → moment_of (clock_text hour minute date) now ≡ option_map (λ second. second +ℤ pos (digits_value 10 hour * 3600 + digits_value 10 minute * 60)) (moment_of date now)
    by_lists (a ∷ b ∷ []) (c ∷ d ∷ []) e f at = by_clock a b c d date now at is
    by_lists [] minute e f at = absurd (omega arith)
    by_lists (a ∷ []) minute e f at = absurd (omega arith)
    by_lists (a ∷ b ∷ x ∷ xs) minute e f at = absurd (omega arith)
    by_lists (a ∷ b ∷ []) [] e f at = absurd (omega arith)
    by_lists (a ∷ b ∷ []) (c ∷ []) e f at = absurd (omega arith)
    by_lists (a ∷ b ∷ []) (c ∷ d ∷ x ∷ xs) e f at = absurd (omega arith)
