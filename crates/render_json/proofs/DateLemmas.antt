-- The date of a day, as the number YYYYMMDD.
use Rattle.std.proofs.Common.{◌≡◌, ℕ, zero, suc, ◌+◌, ◌*◌, ◌/◌, ◌%◌, ◌<◌, ◌≤◌, ◌==◌, ◌&&◌, Bool, true, false, ℤ, pos, negsuc, unsigned_abs, ◌<ℤ◌, Option, Some, refl, ap, ◌∙◌, subst, rules, arith, ⊎_elim}
use Rattle.std.specs.List.{find, range_with_len}
use Rattle.std.specs.Option.{unwrap_or}
use Rattle.std.proofs.lemmas.Bool.{and_parts, cases_lt, eqb-true, eq-eqb}
use Rattle.std.proofs.lemmas.Bool.Decides.{nat_tests}
use Rattle.jiff_core.specs.declared.civil.date.Date.{Date}
use Rattle.jiff_core.specs.Calendar.{IsYear, day_count, days_in_month}
use Rattle.jiff_core.specs.Date.{epoch_day}
use Rattle.jiff_core.proofs.SignedLemmas.{signed_arith}
use Rattle.jiff_core.proofs.CalendarLemmas.{days_from_civil-day_count, days_in_month_bounds, day_count-lt_year}
use Rattle.jiff_core.proofs.DateLemmas.{civil, epoch_day_injective}
use Rattle.jiff_core.proofs.StandardFacts.{known_days}
use Rattle.render_json.specs.Csv.{date_number, is_date, is_date_of}

-- ---- the only number below a bound that passes a test is found

not_true : (b : Bool) → (b ≡ true → ⊥) → b ≡ false
not_true true h = absurd (h refl)
not_true false h = refl

find_only : (p : ℕ → Bool) (len from top n : ℕ) → p n ≡ true → ((m : ℕ) → m < top → p m ≡ true → m ≡ n) → from ≤ n → n < top → from + len ≡ top → find p (range_with_len from len) ≡ Some n
find_only p zero from top n is only low high ends = absurd (omega (arith, low, high, ends))
find_only p (suc len) from top n is only low high ends =
    ⊎_elim
    (λ below.
    let passed : p from ≡ false = not_true (p from) (λ so. let same = only from (omega (arith, below, high)) so in omega (arith, below, same)) in
    rw passed (find_only p len (from + 1) top n is only (omega (arith, below)) high (omega (arith, ends))))
    (λ ge.
    let here : from ≡ n = omega (arith, low, ge) in
    rw (ap p here ∙ is) (ap Some here))
    (cases_lt from n)

-- ---- days

epoch_count : day_count (pos 1970) 1 1 ≡ 4371953
epoch_count = omega (arith, signed_arith, known_days.0, days_from_civil-day_count (pos 1970) 1 1)

counted : (d : Date) (days : ℕ) → epoch_day d ≡ pos days → day_count d.year d.month d.day ≡ day_count (pos 1970) 1 1 + days
counted d days is = omega (arith, signed_arith, is, epoch_count, days_from_civil-day_count d.year d.month d.day)

not_before : (z : ℤ) → (z <ℤ pos 1970 → ⊥) → z ≡ pos (unsigned_abs z)
not_before (pos n) h = refl
not_before (negsuc n) h = absurd (h (search rules))

year_is : (d : Date) (days : ℕ) → epoch_day d ≡ pos days → d.year ≡ pos (unsigned_abs d.year)
year_is d days is =
    not_before d.year (λ early.
    omega (arith, counted d days is, day_count-lt_year d.year d.month d.day (pos 1970) 1 1 (civil d) (omega arith) early))

-- ---- the number

abbrev pub number_of : Date → ℕ
number_of d = unsigned_abs d.year * 10000 + d.month * 100 + d.day

both : (a b : Bool) → a ≡ true → b ≡ true → (a && b) ≡ true
both true true x y = refl
both true false x y = y
both false b x y = x

is_date_by : (y m d : ℕ) → 1 ≤ m → m ≤ 12 → 1 ≤ d → d ≤ days_in_month (pos y) m → is_date y m d ≡ true
is_date_by y m d m1 m12 d1 last = grind (arith, nat_tests, m1, m12, d1, last)

year_in : (y m d : ℕ) → m < 100 → d < 100 → (y * 10000 + m * 100 + d) / 10000 ≡ y
year_in y m d m100 d100 = omega (arith, m100, d100)

month_in : (y m d : ℕ) → m < 100 → d < 100 → (y * 10000 + m * 100 + d) / 100 % 100 ≡ m
month_in y m d m100 d100 = omega (arith, m100, d100)

day_in : (y m d : ℕ) → m < 100 → d < 100 → (y * 10000 + m * 100 + d) % 100 ≡ d
day_in y m d m100 d100 = omega (arith, m100, d100)

passes : (days y m d : ℕ) → m < 100 → d < 100 → is_date y m d ≡ true → day_count (pos y) m d ≡ day_count (pos 1970) 1 1 + days → is_date_of days (y * 10000 + m * 100 + d) ≡ true
passes days y m d m100 d100 date count =
    rw (year_in y m d m100 d100, month_in y m d m100 d100, day_in y m d m100 d100)
    (both (is_date y m d) (day_count (pos y) m d == day_count (pos 1970) 1 1 + days) date (eq-eqb _ _ count))

pub small : (z : ℤ) → IsYear z → unsigned_abs z ≤ 9999
small (pos n) h = omega (arith, signed_arith, h.1)
small (negsuc n) h = omega (arith, signed_arith, h.0)

bounds : (d : Date) → (unsigned_abs d.year ≤ 9999) × (d.month ≤ 12) × (d.day ≤ 31)
bounds d = (small d.year d.year_in, d.month_in.1, omega (arith, d.day_in.1, days_in_month_bounds d.year d.month))

pub number_short : (d : Date) → number_of d < 100000000
number_short d = omega (arith, (bounds d).0, (bounds d).1, (bounds d).2)

date_passes : (d : Date) (days : ℕ) → epoch_day d ≡ pos days → is_date_of days (number_of d) ≡ true
date_passes d days is =
    let year = year_is d days is in
    let last : d.day ≤ days_in_month (pos (unsigned_abs d.year)) d.month = subst (λ (z : ℤ). d.day ≤ days_in_month z d.month) year d.day_in.1 in
    let count : day_count (pos (unsigned_abs d.year)) d.month d.day ≡ day_count (pos 1970) 1 1 + days = subst (λ (z : ℤ). day_count z d.month d.day ≡ day_count (pos 1970) 1 1 + days) year (counted d days is) in
    passes days (unsigned_abs d.year) d.month d.day (omega (arith, (bounds d).1)) (omega (arith, (bounds d).2))
    (is_date_by (unsigned_abs d.year) d.month d.day d.month_in.0 d.month_in.1 d.day_in.0 last) count

real_parts : (y m d : ℕ) → is_date y m d ≡ true → (1 ≤ m) × (m ≤ 12) × (1 ≤ d) × (d ≤ days_in_month (pos y) m)
real_parts y m d e = (grind (arith, nat_tests, e), grind (arith, nat_tests, e), grind (arith, nat_tests, e), grind (arith, nat_tests, e))

-- a date by its parts
abbrev date_at : (y m d : ℕ) → y ≤ 9999 → (1 ≤ m) × (m ≤ 12) × (1 ≤ d) × (d ≤ days_in_month (pos y) m) → Date
date_at y m d early real = record {
  year = pos y;
  month = m;
  day = d;
  year_in = (omega (arith, signed_arith, early), omega (arith, signed_arith, early));
  month_in = (real.0, real.1);
  day_in = (real.2, real.3);
}

alike : (d : Date) (days y m i : ℕ) → epoch_day d ≡ pos days → y ≤ 9999 → is_date y m i ≡ true → day_count (pos y) m i ≡ day_count (pos 1970) 1 1 + days
    → (y ≡ unsigned_abs d.year) × (m ≡ d.month) × (i ≡ d.day)
alike d days y m i is early real count =
    let other = date_at y m i early (real_parts y m i real) in
    let day : epoch_day other ≡ epoch_day d = omega (arith, signed_arith, count, epoch_count, is, days_from_civil-day_count (pos y) m i) in
    let same = epoch_day_injective other d day in
    (ap unsigned_abs same.0, same.1, same.2)

only_date : (d : Date) (days n : ℕ) → epoch_day d ≡ pos days → n < 100000000 → is_date_of days n ≡ true → n ≡ number_of d
only_date d days n is high so =
    let parts = and_parts (is_date (n / 10000) (n / 100 % 100) (n % 100)) (day_count (pos (n / 10000)) (n / 100 % 100) (n % 100) == day_count (pos 1970) 1 1 + days) so in
    let same = alike d days (n / 10000) (n / 100 % 100) (n % 100) is (omega (arith, high)) parts.0 (eqb-true _ _ parts.1) in
    omega (arith, same.0, same.1, same.2)

-- the number of the date with this day number
pub number_is : (d : Date) (days : ℕ) → epoch_day d ≡ pos days → date_number days ≡ number_of d
unfolding date_number
number_is d days is =
    ap (λ (o : Option ℕ). unwrap_or o 0)
    (find_only (is_date_of days) 100000000 0 100000000 (number_of d) (date_passes d days is) (λ n high so. only_date d days n is high so) (omega arith) (number_short d) refl)
