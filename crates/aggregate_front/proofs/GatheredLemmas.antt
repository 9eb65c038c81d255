-- What becomes of an output by a point.
use Rattle.std.proofs.Common.{◌≡◌, ◌∙◌, inl, inr, ◌+◌, ◌<◌, ◌≤◌, ℕ, Bool, true, false, not, if◌then◌else◌, List, [], ◌∷◌, ◌++◌, None, Some, Result, Ok, Err, IfOk, insert, remove, length, refl, sym, ap, subst, arith}
use Rattle.std.proofs.lemmas.Bool.{and_parts, le-ltb, lt-ltb, cases_lt, leb-true, leb-false}
use Rattle.std.proofs.lemmas.List.{length_push}
use Rattle.std.proofs.lemmas.List.Edits.{length-insert}
use Rattle.std.specs.List.{AllByRecursion}
use Rattle.std.specs.Option.{IfSome}
use Rattle.fixed_num.specs.Moment.{is_moment}
use Rattle.aggregate_front.specs.declared.change.Change.{Change}
use Rattle.aggregate_front.specs.declared.change.Change.TheVariants.{Joined, Opened, Emitted}
use Rattle.aggregate_front.specs.declared.interval.Interval.{Interval}
use Rattle.aggregate_front.specs.declared.gathered.Gathered.{Gathered}
use Rattle.aggregate_front.specs.declared.timed_value.TimedValue.{TimedValue}
use Rattle.aggregate_front.specs.Intervals.{RisesAfter, is_open, is_start_at, joined, with_point}
use Rattle.aggregate_front.specs.Gathering.{Changes, IsSound, IsWhole, Opens, Taken, count_of, is_late, most_open, opens_sixth, points_open, settled, taken, undone}
use Rattle.aggregate_front.proofs.IntervalLemmas.{count_cons, count_in, count_with, length-joined, length_with, opened_at, parted_joined, place_for, placed, remove-insert, rises_with, whole_with}

pub if_ok_more : {T E : Type 0} (r : Result T E) (P Q : T → Type 0) → IfOk r P → ((x : T) → P x → Q x) → IfOk r Q
if_ok_more (Ok x) P Q holds more = more x holds
if_ok_more (Err e) P Q holds more = tt

pub settled_few : (g : Gathered) (held : List Interval) → length held ≤ most_open → settled g held ≡ record { gathered = record g { intervals = held }; emitted = None }
unfolding settled
settled_few g [] le = refl
settled_few g (first ∷ others) le = rw (lt-ltb (length others) most_open (omega arith)) refl

pub settled_more : (g : Gathered) (first : Interval) (others : List Interval) → most_open ≤ length others
    → settled g (first ∷ others) ≡ record { gathered = record g { intervals = others; last = first.start }; emitted = Some first }
unfolding settled
settled_more g first others le = rw (le-ltb (length others) most_open le) refl

-- ---- what is left

-- what is left of six intervals or fewer
pub record Left (g : Gathered) (held : List Interval) (t : Taken) : Type 0 where
  pub sound : IsSound t.gathered
  pub count : points_open t.gathered + count_of t.emitted ≡ count_in held
  pub emitted : IfSome t.emitted IsWhole
  pub some : most_open < length held → 0 < count_of t.emitted

left_few : (g : Gathered) (held : List Interval) → RisesAfter g.last held → AllByRecursion IsWhole held → length held ≤ most_open
    → Left g held (record { gathered = record g { intervals = held }; emitted = None })
left_few g held up whole le = record {
  sound = record { rising = up; few = le; whole = whole };
  count = omega arith;
  emitted = tt;
  some = λ lt. absurd (omega arith);
}

left_more : (g : Gathered) (first : Interval) (others : List Interval) → RisesAfter g.last (first ∷ others) → AllByRecursion IsWhole (first ∷ others)
    → length others ≡ most_open → Left g (first ∷ others) (record { gathered = record g { intervals = others; last = first.start }; emitted = Some first })
left_more g first others up whole five = record {
  sound = record { rising = up.1; few = omega (arith, five); whole = whole.1 };
  count = omega (arith, count_cons first others);
  emitted = whole.0;
  some = λ lt. whole.0.some;
}

pub left : (g : Gathered) (held : List Interval) → RisesAfter g.last held → AllByRecursion IsWhole held → length held ≤ most_open + 1 → Left g held (settled g held)
left g [] up whole le = subst (Left g []) (sym (settled_few g [] (omega arith))) (left_few g [] up whole (omega arith))
left g (first ∷ others) up whole le = elim (cases_lt (length others) most_open) [
  | inl lt ↦ subst (Left g (first ∷ others)) (sym (settled_few g (first ∷ others) (omega arith))) (left_few g (first ∷ others) up whole (omega arith))
  | inr ge ↦ subst (Left g (first ∷ others)) (sym (settled_more g first others ge)) (left_more g first others up whole (omega (arith, ge)))
]

own_whole : (t : ℕ) (p : TimedValue) → is_moment t ≡ true → (ps : List TimedValue) → IsWhole (record { start = t; points = ps ++ p ∷ [] })
own_whole t p moment ps = record { moment = moment; some = omega (arith, length_push ps p) }

-- what a point that is not late leaves
pub record Leaves (g : Gathered) (start : ℕ) (t : Taken) : Type 0 where
  pub sound : IsSound t.gathered
  pub count : points_open t.gathered + count_of t.emitted ≡ points_open g + 1
  pub emitted : IfSome t.emitted IsWhole
  pub some : opens_sixth g start ≡ true → 0 < count_of t.emitted

length_by : (b : Bool) (n m : ℕ) → m ≡ (if b then n else n + 1) → n ≤ most_open → (m ≤ most_open + 1) × (not b ≡ true → most_open ≤ n → most_open < m)
length_by true n m e le = (omega (arith, e), λ open_ more. absurd cc)
length_by false n m e le = (omega (arith, e), λ open_ more. omega (arith, e))

pub leaves : (g : Gathered) (start : ℕ) (p : TimedValue) → IsSound g → is_moment start ≡ true → is_late g start ≡ false → Leaves g start (taken g start p)
leaves g start p sound moment early =
    let len = length_by (is_open g.intervals start) (length g.intervals) _ (length_with g.intervals g.last start p sound.rising) sound.few in
    let rises = rises_with g.intervals g.last start p sound.rising (leb-false _ _ early) in
    let whole = whole_with IsWhole g.intervals g.last start p sound.rising (own_whole start p moment) sound.whole in
    let l = left g (with_point g.intervals start p) rises whole len.0 in
    record {
      sound = l.sound;
      count = l.count ∙ count_with g.intervals g.last start p sound.rising;
      emitted = l.emitted;
      some = λ sixth. let parts = and_parts _ _ sixth in l.some (len.1 parts.0 (leb-true _ _ parts.1));
    }

-- ---- what is done

-- a point joins its interval
pub join_changes : (g : Gathered) (start : ℕ) (p : TimedValue) → IsSound g → is_start_at g.intervals (place_for g.intervals start) start ≡ true
    → Changes g (record g { intervals = joined g.intervals (place_for g.intervals start) p }) start p (Joined (place_for g.intervals start))
unfolding undone
join_changes g start p sound here =
    let at = place_for g.intervals start in
    let pl = placed g.intervals g.last start sound.rising in
    let open_ : is_open g.intervals start ≡ true = sym pl.open_at ∙ here in
    let joins = pl.joins p open_ in
    let n : length (joined g.intervals at p) ≡ length g.intervals = length-joined g.intervals at p in
    record {
      is = sym (settled_few g (joined g.intervals at p) (omega (arith, n, sound.few))) ∙ ap (settled g) joins;
      before = ap (λ is. record g { intervals = is }) (parted_joined g.intervals at p);
      within = omega (arith, n, pl.there open_);
      other = refl;
    }

-- a point opens its interval
pub open_changes : (g new : Gathered) (start : ℕ) (p : TimedValue) (change : Change) → IsSound g → is_start_at g.intervals (place_for g.intervals start) start ≡ false
    → Opens g new (place_for g.intervals start) (opened_at start p) change → Changes g new start p change
open_changes g new start p change sound none done =
    let pl = placed g.intervals g.last start sound.rising in
    record { is = done.is ∙ ap (settled g) (pl.opens p (sym pl.open_at ∙ none)); before = done.before; within = done.within; other = done.other }

-- an interval is opened among four or fewer
pub insert_opens : (g : Gathered) (at : ℕ) (i : Interval) → at ≤ length g.intervals → length g.intervals < most_open
    → Opens g (record g { intervals = insert g.intervals at i }) at i (Opened at)
unfolding undone
insert_opens g at i le few = record {
  is = sym (settled_few g (insert g.intervals at i) (omega (arith, length-insert g.intervals at i le)));
  before = ap (λ is. record g { intervals = is }) (remove-insert g.intervals at i le);
  within = omega (arith, length-insert g.intervals at i le);
  other = refl;
}

-- an interval is opened among five
pub shift_opens : (g : Gathered) (at : ℕ) (i first : Interval) (others : List Interval) → at ≤ length g.intervals → length g.intervals ≡ most_open
    → first ∷ others ≡ insert g.intervals at i → Opens g (record g { intervals = others; last = first.start }) at i (Emitted at first g.last)
unfolding undone
shift_opens g at i first others le five same =
    let n : length (first ∷ others) ≡ length g.intervals + 1 = ap length same ∙ length-insert g.intervals at i le in
    record {
      is = sym (settled_more g first others (omega (arith, n, five))) ∙ ap (settled g) same;
      before = ap (λ is. record g { intervals = remove is at }) same ∙ ap (λ is. record g { intervals = is }) (remove-insert g.intervals at i le);
      within = omega (arith, n, le);
      other = refl;
    }
