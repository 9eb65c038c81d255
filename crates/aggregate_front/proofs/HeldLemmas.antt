-- What becomes of the outputs of a link by a point at one of them.
use Rattle.std.proofs.Common.{◌≡◌, ◌∙◌, inl, inr, ◌+◌, ◌-◌, ◌<◌, ◌≤◌, ℕ, zero, suc, Bool, true, false, true≢false, not, ◌&&◌, ◌||◌, nat_le, nat_lt, if◌then◌else◌, List, [], ◌∷◌, ◌++◌, Option, None, Some, Result, Ok, Err, OnErr, get_or, length, map, option_map, take, slice_get, is_some, refl, sym, ap, subst, arith}
use Rattle.std.proofs.lemmas.Bool.{and_parts, cases_lt, le-leb, lt-leb, lt-ltb, le-ltb, leb-true, leb-false, not-true}
use Rattle.std.proofs.lemmas.List.{append-nil, length_push, take_more}
use Rattle.std.proofs.lemmas.List.Concat.{flat_map-append}
use Rattle.std.proofs.lemmas.List.Sums.{fold_more, sum_by-cons, sum_by_push}
use Rattle.std.specs.List.{All, AllByRecursion}
use Rattle.std.specs.Map.{keys_of, lookup, values_of}
use Rattle.std.specs.Option.{IfSome, IsSome, MatchOption, option_to_list}
use Rattle.std.proofs.lemmas.List.Elements.{All-from_recursion}
use Rattle.std.specs.List.{position}
use Rattle.indexmap.specs.IndexMap.{insert_entry, set_value_at}
use Rattle.indexmap.proofs.MapLemmas.{Found-position, absent_from_lookup, insert_entry-absent, insert_entry-first}
use Rattle.fixed_num.specs.Moment.{is_moment}
use Rattle.metric_line.specs.Point.{Point}
use Rattle.metric_line.specs.Seen.{seen}
use Rattle.metric_line.specs.declared.datum.Datum.{Datum}
use Rattle.ring_format.specs.declared.archive.Method.{Method}
use Rattle.aggregate_front.specs.declared.change.Change.{Change}
use Rattle.aggregate_front.specs.declared.change.Change.TheVariants.{Made}
use Rattle.aggregate_front.specs.declared.deed.Deed.{Deed}
use Rattle.aggregate_front.specs.declared.gathered.Gathered.{Gathered}
use Rattle.aggregate_front.specs.declared.hit.OutputKey.{OutputKey}
use Rattle.aggregate_front.specs.declared.interval.Interval.{Interval}
use Rattle.aggregate_front.specs.declared.limits.Limits.{Limits}
use Rattle.aggregate_front.specs.declared.timed_value.TimedValue.{TimedValue}
use Rattle.aggregate_front.specs.Fitting.{HitValue}
use Rattle.aggregate_front.specs.Gathering.{Changes, IsSound, IsWhole, IsWithin, Taken, count_of, emitted_of, interval_of, is_late, is_made, new_gathered, opens_sixth, points_open, taken, undone}
use Rattle.aggregate_front.specs.Emitting.{AreSound, CanBeEmitted, ChangesAt, Did, Fed, FeedsAll, Held, IsDeedOf, Keeps, Outputs, at_end, at_output, before_deed, changed_at, gathered_of, is_key, is_taken, open_points, opening, points_held, points_of, takes_at, with_taken}
use Rattle.aggregate_front.specs.Intervals.{with_point}
use Rattle.aggregate_front.proofs.IntervalLemmas.{count_cons, count_in, opened_at, take_pushed}
use Rattle.aggregate_front.proofs.GatheredLemmas.{leaves, settled_few}

pub on_err_from : {T E : Type 0} (r : Result T E) (P : Type 0) → P → OnErr r P
on_err_from (Ok x) P holds = tt
on_err_from (Err e) P holds = holds

pub some_is_none : {X : Type 0} {x : X} → Some x ≡ None → ⊥
some_is_none e = true≢false (ap is_some e)

-- ---- values at a place

get_set : (es : Outputs) (i : ℕ) (g h : Gathered) → slice_get (values_of es) i ≡ Some g → slice_get (values_of (set_value_at es i h)) i ≡ Some h
get_set [] i g h at = absurd cc
get_set (e ∷ es) zero g h at = refl
get_set (e ∷ es) (suc i) g h at = get_set es i g h at

set_set : (es : Outputs) (i : ℕ) (g h : Gathered) → set_value_at (set_value_at es i g) i h ≡ set_value_at es i h
set_set [] i g h = refl
set_set (e ∷ es) zero g h = refl
set_set (e ∷ es) (suc i) g h = ap (λ l. e ∷ l) (set_set es i g h)

pub set_same : (es : Outputs) (i : ℕ) (g : Gathered) → slice_get (values_of es) i ≡ Some g → set_value_at es i g ≡ es
set_same [] i g at = refl
set_same (e ∷ es) zero g at = let same : e.1 ≡ g = cc in ap (λ x. (e.0, x) ∷ es) (sym same)
set_same (e ∷ es) (suc i) g at = ap (λ l. e ∷ l) (set_same es i g at)

pub held_cons : (o : OutputKey × Gathered) (es : Outputs) → points_held (o ∷ es) ≡ points_open o.1 + points_held es
held_cons o es = sum_by-cons (λ output. points_open output.1) o es

-- the points that are held with another thing open at a place
pub held_set : (es : Outputs) (i : ℕ) (g h : Gathered) → slice_get (values_of es) i ≡ Some g → points_held (set_value_at es i h) + points_open g ≡ points_held es + points_open h
held_set [] i g h at = absurd cc
held_set (e ∷ es) zero g h at =
    let same : e.1 ≡ g = cc in
    omega (arith, held_cons (e.0, h) es, held_cons e es, ap points_open same)
held_set (e ∷ es) (suc i) g h at = omega (arith, held_cons e (set_value_at es i h), held_cons e es, held_set es i g h at)

pub open_held : (es : Outputs) (i : ℕ) (g : Gathered) → slice_get (values_of es) i ≡ Some g → points_open g ≤ points_held es
open_held [] i g at = absurd cc
open_held (e ∷ es) zero g at = let same : e.1 ≡ g = cc in omega (arith, held_cons e es, ap points_open same)
open_held (e ∷ es) (suc i) g at = omega (arith, held_cons e es, open_held es i g at)

pub sound_at : (es : Outputs) (i : ℕ) (g : Gathered) → AreSound es → slice_get (values_of es) i ≡ Some g → IsSound g
sound_at [] i g all at = absurd cc
sound_at (e ∷ es) zero g all at = let same : e.1 ≡ g = cc in subst IsSound same all.0
sound_at (e ∷ es) (suc i) g all at = sound_at es i g all.1 at

sound_set : (es : Outputs) (i : ℕ) (g : Gathered) → AreSound es → IsSound g → AreSound (set_value_at es i g)
sound_set [] i g all one = tt
sound_set (e ∷ es) zero g all one = (one, all.1)
sound_set (e ∷ es) (suc i) g all one = (all.0, sound_set es i g all.1 one)

sound_push : (es : Outputs) (o : OutputKey × Gathered) → AreSound es → IsSound o.1 → AreSound (es ++ o ∷ [])
sound_push [] o all one = (one, tt)
sound_push (e ∷ es) o all one = (all.0, sound_push es o all.1 one)

-- ---- a point at an output

pub passed_over : (limits : Limits) (point : TimedValue) (fed : Fed) (hit : HitValue) → is_taken limits fed.outputs hit (interval_of hit.seconds point.time) ≡ false
    → at_output limits point fed hit ≡ fed
unfolding at_output
passed_over limits point fed hit none = rw none refl

pub went : (limits : Limits) (point : TimedValue) (fed : Fed) (hit : HitValue) → is_taken limits fed.outputs hit (interval_of hit.seconds point.time) ≡ true
    → at_output limits point fed hit ≡ with_taken fed hit (taken (gathered_of fed.outputs hit) (interval_of hit.seconds point.time) point)
unfolding at_output
went limits point fed hit takes_it = rw takes_it refl

-- what was emitted before stays in front
pub behind : (limits : Limits) (point : TimedValue) (outputs after : Outputs) (hit : HitValue) (before more : List Point)
    → at_output limits point (opening outputs) hit ≡ record { outputs = after; emitted = more }
    → at_output limits point (record { outputs = outputs; emitted = before }) hit ≡ record { outputs = after; emitted = before ++ more }
unfolding at_output
behind limits point outputs after hit before more e = by (is_taken limits outputs hit (interval_of hit.seconds point.time)) e
  where
    by : (b : Bool) → (if b then with_taken (opening outputs) hit (taken (gathered_of outputs hit) (interval_of hit.seconds point.time) point) else opening outputs)
        ≡ record { outputs = after; emitted = more }
        → (if b then with_taken (record { outputs = outputs; emitted = before }) hit (taken (gathered_of outputs hit) (interval_of hit.seconds point.time) point)
        else record { outputs = outputs; emitted = before })
        ≡ record { outputs = after; emitted = before ++ more }
    by true same = ap (λ (f : Fed). record { outputs = f.outputs; emitted = before ++ f.emitted }) same
    by false same = ap (λ (es : List Point). record { outputs = outputs; emitted = es }) (sym (append-nil before)) ∙ ap (λ (f : Fed). record { outputs = f.outputs; emitted = before ++ f.emitted }) same

-- ---- an output that appears

new_taken : (m : Method) (start : ℕ) (p : TimedValue) → taken (new_gathered m) start p ≡ record { gathered = record (new_gathered m) { intervals = opened_at start p ∷ [] }; emitted = None }
unfolding with_point
new_taken m start p = settled_few (new_gathered m) (opened_at start p ∷ []) (omega arith)

moment_some : (t : ℕ) → is_moment t ≡ true → 0 < t
moment_some t moment = let low : 31536000 ≤ t = leb-true 31536000 t (and_parts _ _ moment).0 in omega arith

-- the same at an interval with a name of its own
went_at : (limits : Limits) (point : TimedValue) (fed : Fed) (hit : HitValue) (start : ℕ) → start ≡ interval_of hit.seconds point.time → is_taken limits fed.outputs hit start ≡ true
    → at_output limits point fed hit ≡ with_taken fed hit (taken (gathered_of fed.outputs hit) start point)
went_at limits point fed hit start is takes_it =
    subst (λ (n : ℕ). is_taken limits fed.outputs hit n ≡ true → at_output limits point fed hit ≡ with_taken fed hit (taken (gathered_of fed.outputs hit) n point))
    (sym is) (went limits point fed hit) takes_it

pub passed_at : (limits : Limits) (point : TimedValue) (fed : Fed) (hit : HitValue) (start : ℕ) → start ≡ interval_of hit.seconds point.time
    → is_taken limits fed.outputs hit start ≡ false → at_output limits point fed hit ≡ fed
passed_at limits point fed hit start is none =
    subst (λ (n : ℕ). is_taken limits fed.outputs hit n ≡ false → at_output limits point fed hit ≡ fed) (sym is) (passed_over limits point fed hit) none

-- where the output has not appeared
pub is_taken_new : (limits : Limits) (outputs : Outputs) (hit : HitValue) (start : ℕ) → is_moment start ≡ true → lookup (is_key hit.key) outputs ≡ None
    → is_taken limits outputs hit start ≡ (nat_lt (points_held outputs) limits.points && nat_lt (length outputs) limits.outputs)
unfolding is_taken
is_taken_new limits outputs hit start moment absent = rw (moment, absent, lt-leb start 0 (moment_some start moment)) refl

-- where the interval is no moment
pub is_taken_never : (limits : Limits) (outputs : Outputs) (hit : HitValue) (start : ℕ) → is_moment start ≡ false → is_taken limits outputs hit start ≡ false
unfolding is_taken
is_taken_never limits outputs hit start moment = rw moment refl

pub keeps_own : (points : ℕ) (limits : Limits) (outputs : Outputs) → Keeps points limits outputs → Keeps (points_held outputs) limits outputs
keeps_own points limits outputs keeps = record { count = refl; few = omega (arith, keeps.count, keeps.few); most = keeps.most; sound = keeps.sound }

pub record Makes (old : Held) (hit : HitValue) (point : TimedValue) (place : ℕ) (g : Gathered) : Type 0 where
  pub fed : at_output old.limits point (opening old.outputs) hit ≡ record { outputs = insert_entry is_key old.outputs hit.key g; emitted = [] }
  pub did : Did old (record { limits = old.limits; outputs = insert_entry is_key old.outputs hit.key g }) (record { place = place; change = Made })
  pub kept : Keeps (points_held old.outputs + 1) old.limits (insert_entry is_key old.outputs hit.key g)

pub makes : (old : Held) (hit : HitValue) (point : TimedValue) (start place : ℕ) (g : Gathered) (change : Change) → Keeps (points_held old.outputs) old.limits old.outputs
    → start ≡ interval_of hit.seconds point.time → is_moment start ≡ true → lookup (is_key hit.key) old.outputs ≡ None
    → points_held old.outputs < old.limits.points → length old.outputs < old.limits.outputs → Changes (new_gathered hit.method) g start point change
    → Makes old hit point place g
unfolding before_deed
makes old hit point start place g change keeps is moment absent room few changes =
    let t = new_taken hit.method start point in
    let l = leaves (new_gathered hit.method) start point (record { rising = tt; few = omega arith; whole = tt }) moment (lt-leb start 0 (moment_some start moment)) in
    let same : g ≡ (taken (new_gathered hit.method) start point).gathered = ap (λ (x : Taken). x.gathered) changes.is in
    let none : (taken (new_gathered hit.method) start point).emitted ≡ None = ap (λ (x : Taken). x.emitted) t in
    let one : points_open g ≡ 1 = omega (arith, l.count, ap points_open same, ap count_of none) in
    let pushed : insert_entry is_key old.outputs hit.key g ≡ old.outputs ++ (hit.key, g) ∷ [] =
    insert_entry-absent is_key hit.key g old.outputs (absent_from_lookup (is_key hit.key) old.outputs absent) in
    let held : points_held (old.outputs ++ (hit.key, g) ∷ []) ≡ points_held old.outputs + points_open g = sum_by_push (λ (o : OutputKey × Gathered). points_open o.1) old.outputs (hit.key, g) in
    let takes_it : is_taken old.limits old.outputs hit start ≡ true = is_taken_new old.limits old.outputs hit start moment absent ∙ rw (lt-ltb _ _ room, lt-ltb _ _ few) refl in
    let news : gathered_of old.outputs hit ≡ new_gathered hit.method = rw absent refl in
    record {
      fed = went_at old.limits point (opening old.outputs) hit start is takes_it ∙ rw (news, none, ← same) refl;
      did = record {
        limits = refl;
        before = rw pushed (take_pushed old.outputs (hit.key, g));
        within = record { made = λ m. rw pushed (omega (arith, length_push old.outputs (hit.key, g))); other = λ o. absurd (true≢false o) };
        count = rw pushed (omega (arith, held, one));
        kept = keeps;
      };
      kept = rw pushed (record {
        count = omega (arith, held, one);
        few = omega (arith, room);
        most = keeps.most;
        sound = sound_push old.outputs (hit.key, g) keeps.sound (subst IsSound (sym same) l.sound);
      });
    }

-- ---- a change at a place

emittable : (o : Option Interval) → IfSome o IsWhole → count_of o ≤ 31536000 → IfSome o CanBeEmitted
emittable None whole le = tt
emittable (Some i) whole le = record { moment = whole.moment; few = le }

pub record Changed (old : Held) (place start : ℕ) (point : TimedValue) (h : Gathered) (change : Change) : Type 0 where
  pub at_place : ChangesAt old (record { limits = old.limits; outputs = set_value_at old.outputs place h }) place start point change
  pub kept : Keeps (points_held old.outputs + 1 - count_of (emitted_of change)) old.limits (set_value_at old.outputs place h)
  pub most : count_of (emitted_of change) ≤ points_held old.outputs + 1
  pub emitted : IfSome (emitted_of change) CanBeEmitted

few_by : (b : Bool) (held points count new : ℕ) → (b ≡ true → 0 < count) → new + count ≡ held + 1 → held ≤ points → (b || not (nat_le points held)) ≡ true → new ≤ points
few_by true held points count new some sum le takes_it = omega (arith, some refl, sum)
few_by false held points count new some sum le takes_it = omega (arith, sum, leb-false _ _ (not-true _ takes_it))

pub changed : (old : Held) (place start : ℕ) (point : TimedValue) (g h : Gathered) (change : Change) → Keeps (points_held old.outputs) old.limits old.outputs
    → slice_get (values_of old.outputs) place ≡ Some g → is_moment start ≡ true → takes_at old place start ≡ true → Changes g h start point change
    → Changed old place start point h change
unfolding before_deed
changed old place start point g h change keeps there moment takes changes =
    let takes_it : (not (is_late g start) && (opens_sixth g start || not (nat_le old.limits.points (points_held old.outputs)))) ≡ true = rw there at takes in
    let parts = and_parts _ _ takes_it in
    let l = leaves g start point (sound_at old.outputs place g keeps.sound there) moment (not-true _ parts.0) in
    let same : h ≡ (taken g start point).gathered = ap (λ (x : Taken). x.gathered) changes.is in
    let em : emitted_of change ≡ (taken g start point).emitted = ap (λ (x : Taken). x.emitted) changes.is in
    let count : points_open h + count_of (emitted_of change) ≡ points_open g + 1 = rw (same, em) l.count in
    let sum : points_held (set_value_at old.outputs place h) + count_of (emitted_of change) ≡ points_held old.outputs + 1 =
    omega (arith, count, held_set old.outputs place g h there, open_held old.outputs place g there) in
    let some : opens_sixth g start ≡ true → 0 < count_of (emitted_of change) = λ sixth. rw em (l.some sixth) in
    let back : changed_at (set_value_at old.outputs place h) place (λ x. undone x change) ≡ old.outputs =
    rw (get_set old.outputs place g h there, changes.before) (set_set old.outputs place h g ∙ set_same old.outputs place g there) in
    record {
      at_place = record {
        outputs = rw (there, ← same) refl;
        emitted = rw there em;
        other = changes.other;
        did = record {
          limits = refl;
          before = rw changes.other back;
          within = record { made = λ m. absurd (true≢false (sym m ∙ changes.other)); other = λ o. rw (get_set old.outputs place g h there) changes.within };
          count = sum;
          kept = keeps;
        };
      };
      kept = record {
        count = omega (arith, sum);
        few = omega (arith, sum, few_by (opens_sixth g start) _ _ _ _ some sum keeps.few parts.1);
        most = keeps.most;
        sound = sound_set old.outputs place h keeps.sound (subst IsSound (sym same) l.sound);
      };
      most = omega (arith, sum);
      emitted = emittable (emitted_of change) (rw em l.emitted) (omega (arith, sum, keeps.few, keeps.most));
    }

room_same : (held points : ℕ) → (nat_lt held points && true) ≡ not (nat_le points held)
room_same held points = elim (cases_lt held points) [
  | inl lt ↦ rw (lt-ltb held points lt, lt-leb points held lt) refl
  | inr ge ↦ rw (le-ltb held points ge, le-leb points held ge) refl
]

-- whether the output at its place takes a point
pub is_taken_at : (held : Held) (hit : HitValue) (place start : ℕ) (g : Gathered) → is_moment start ≡ true → lookup (is_key hit.key) held.outputs ≡ Some g
    → slice_get (values_of held.outputs) place ≡ Some g → is_taken held.limits held.outputs hit start ≡ takes_at held place start
unfolding is_taken
is_taken_at held hit place start g moment found there = rw (moment, found, there, room_same (points_held held.outputs) held.limits.points) refl

-- what stands at the place of an output
pub record Stands (outputs : Outputs) (hit : HitValue) (place : ℕ) (g : Gathered) : Type 0 where
  pub there : slice_get (values_of outputs) place ≡ Some g
  pub found : lookup (is_key hit.key) outputs ≡ Some g
  pub writes : (h : Gathered) → insert_entry is_key outputs hit.key h ≡ set_value_at outputs place h

stands_by : (outputs : Outputs) (hit : HitValue) (place : ℕ) (o : Option Gathered) → position (is_key hit.key) (keys_of outputs) ≡ Some place
    → slice_get (values_of outputs) place ≡ o → is_some o ≡ true → (g : Gathered) × Stands outputs hit place g
stands_by outputs hit place None pos there some = absurd cc
stands_by outputs hit place (Some g) pos there some =
    let f = Found-position (is_key hit.key) outputs place pos in
    (g, record { there = there; found = f.value ∙ there; writes = λ h. insert_entry-first is_key hit.key h outputs place f.first })

value_within : (outputs : Outputs) (place : ℕ) → place < length outputs → is_some (slice_get (values_of outputs) place) ≡ true
value_within [] place lt = absurd (omega arith)
value_within (o ∷ outputs) zero lt = refl
value_within (o ∷ outputs) (suc place) lt = value_within outputs place (omega arith)

pub stands : (outputs : Outputs) (hit : HitValue) (place : ℕ) → position (is_key hit.key) (keys_of outputs) ≡ Some place → (g : Gathered) × Stands outputs hit place g
stands outputs hit place pos = stands_by outputs hit place _ pos refl (value_within outputs place (Found-position (is_key hit.key) outputs place pos).within)

pub took : (old new : Held) (hit : HitValue) (point : TimedValue) (place start : ℕ) (change : Change) (more : List Point)
    → position (is_key hit.key) (keys_of old.outputs) ≡ Some place → start ≡ interval_of hit.seconds point.time → is_moment start ≡ true → takes_at old place start ≡ true
    → ChangesAt old new place start point change → more ≡ points_of hit.key.path hit.method (emitted_of change)
    → at_output old.limits point (opening old.outputs) hit ≡ record { outputs = new.outputs; emitted = more }
took old new hit point place start change more pos is moment takes done emitted =
    let s = stands old.outputs hit place pos in
    let g = s.0 in
    let at = s.1 in
    let takes_it : is_taken old.limits old.outputs hit start ≡ true = is_taken_at old hit place start g moment at.found at.there ∙ takes in
    let same : gathered_of old.outputs hit ≡ g = rw at.found refl in
    let outputs : new.outputs ≡ set_value_at old.outputs place (taken g start point).gathered = done.outputs ∙ rw at.there refl in
    let em : emitted_of change ≡ (taken g start point).emitted = done.emitted ∙ rw at.there refl in
    went_at old.limits point (opening old.outputs) hit start is takes_it
    ∙ rw (same, at.writes (taken g start point).gathered, outputs, emitted, em) refl

pub took_not : (old : Held) (hit : HitValue) (point : TimedValue) (place start : ℕ) → position (is_key hit.key) (keys_of old.outputs) ≡ Some place
    → start ≡ interval_of hit.seconds point.time → is_moment start ≡ true → takes_at old place start ≡ false → at_output old.limits point (opening old.outputs) hit ≡ opening old.outputs
took_not old hit point place start pos is moment takes =
    let s = stands old.outputs hit place pos in
    passed_at old.limits point (opening old.outputs) hit start is (is_taken_at old hit place start s.0 moment s.1.found s.1.there ∙ takes)

-- ---- a change taken back

pub record Undone (before now : Held) (points : ℕ) (outputs : Outputs) : Type 0 where
  pub kept : Keeps points now.limits outputs
  pub is : record { limits = now.limits; outputs = outputs } ≡ before

pub undone_by : (before now : Held) (points : ℕ) (deed : Deed) (outputs : Outputs) → Keeps points now.limits now.outputs → Did before now deed
    → outputs ≡ before_deed now.outputs deed → Undone before now (points + count_of (emitted_of deed.change) - 1) outputs
undone_by before now points deed outputs keeps did same =
    let is : outputs ≡ before.outputs = same ∙ did.before in
    let n : points + count_of (emitted_of deed.change) - 1 ≡ points_held before.outputs = omega (arith, keeps.count, did.count) in
    record {
      kept = rw (is, n, did.limits) did.kept;
      is = rw (is, did.limits) refl;
    }

-- no fewer than one point is left to be taken back
pub some_done : (before now : Held) (points : ℕ) (deed : Deed) → Keeps points now.limits now.outputs → Did before now deed
    → (1 ≤ points + count_of (emitted_of deed.change)) × (points + count_of (emitted_of deed.change) ≤ 31536000)
some_done before now points deed keeps did =
    (omega (arith, keeps.count, did.count), omega (arith, keeps.count, did.count, did.kept.few, did.kept.most))

pub popped : (now outputs : Outputs) (last : Option (OutputKey × Gathered)) (deed : Deed) → now ≡ outputs ++ option_to_list last → (0 < length now → IsSome last)
    → IsDeedOf now deed → is_made deed.change ≡ true → outputs ≡ before_deed now deed
unfolding before_deed
popped now outputs None deed same found within made = absurd (true≢false (sym (found (within.made made))))
popped now outputs (Some o) deed same found within made = rw made (rw same (sym (take_pushed outputs o)))

pub undone_at : (now : Outputs) (g : Gathered) (deed : Deed) → slice_get (values_of now) deed.place ≡ Some g → is_made deed.change ≡ false
    → set_value_at now deed.place (undone g deed.change) ≡ before_deed now deed
unfolding before_deed
undone_at now g deed there other = rw (other, there) refl

pub within_at : (now : Outputs) (g : Gathered) (deed : Deed) → slice_get (values_of now) deed.place ≡ Some g → is_made deed.change ≡ false
    → IsDeedOf now deed → IsWithin g deed.change
within_at now g deed there other within = rw there at (within.other other)

pub is_there : (now : Outputs) (deed : Deed) → is_made deed.change ≡ false → IsDeedOf now deed → (g : Gathered) × (slice_get (values_of now) deed.place ≡ Some g)
is_there now deed other within = by (slice_get (values_of now) deed.place) refl (within.other other)
  where
    by : (o : Option Gathered) → slice_get (values_of now) deed.place ≡ o → MatchOption o ⊥ (λ g. IsWithin g deed.change) → (g : Gathered) × (slice_get (values_of now) deed.place ≡ Some g)
    by None e none = absurd none
    by (Some g) e within_ = (g, e)

-- ---- all open intervals

emittable_in : (is : List Interval) → AllByRecursion IsWhole is → count_in is ≤ 31536000 → AllByRecursion CanBeEmitted is
emittable_in [] all le = tt
emittable_in (i ∷ is) all le =
    (record { moment = all.0.moment; few = omega (arith, count_cons i is) }, emittable_in is all.1 (omega (arith, count_cons i is)))

pub emittable_all : (points : ℕ) (limits : Limits) (outputs : Outputs) (place : ℕ) (g : Gathered) → Keeps points limits outputs → slice_get (values_of outputs) place ≡ Some g
    → All CanBeEmitted g.intervals
emittable_all points limits outputs place g keeps there =
    All-from_recursion CanBeEmitted g.intervals
    (emittable_in g.intervals (sound_at outputs place g keeps.sound there).whole (omega (arith, open_held outputs place g there, keeps.count, keeps.few, keeps.most)))

-- ---- a point at outputs, one after the other

pub feeds_more : (old mid new : Held) (point : TimedValue) (hits : List HitValue) (i : ℕ) (hit : HitValue) (before between after : List Point) → i < length hits → hit ≡ get_or hits i hit
    → FeedsAll old mid point (take i hits) before between → FeedsAll mid new point (hit ∷ []) between after → FeedsAll old new point (take (i + 1) hits) before after
feeds_more old mid new point hits i hit before between after lt is one two =
    let start : Fed = record { outputs = old.outputs; emitted = before } in
    let last : at_output old.limits point (record { outputs = mid.outputs; emitted = between }) hit ≡ record { outputs = new.outputs; emitted = after } =
    subst (λ (l : Limits). at_output l point (record { outputs = mid.outputs; emitted = between }) hit ≡ record { outputs = new.outputs; emitted = after }) one.limits two.fed in
    record {
      fed = fold_more (at_output old.limits point) start hits i hit lt ∙ (λ n. at_output old.limits point (one.fed n) (sym is n)) ∙ last;
      limits = two.limits ∙ one.limits;
    }

pub feeds_none : (old new : Held) (point : TimedValue) (hit : HitValue) (before : List Point)
    → at_output old.limits point (opening old.outputs) hit ≡ opening old.outputs → new ≡ old → FeedsAll old new point (hit ∷ []) before before
feeds_none old new point hit before none same = record {
  fed = behind old.limits point old.outputs old.outputs hit before [] none ∙ (λ n. record { outputs = (sym same n).outputs; emitted = append-nil before n });
  limits = ap (λ (h : Held). h.limits) same;
}

seen_push : (before : List Datum) (datum : Option Datum) → map seen before ++ option_to_list (option_map seen datum) ≡ map seen (before ++ option_to_list datum)
seen_push [] None = refl
seen_push [] (Some datum) = refl
seen_push (d ∷ before) datum = ap (λ l. seen d ∷ l) (seen_push before datum)

pub feeds_one : (old new : Held) (point : TimedValue) (hit : HitValue) (before after : List Datum) (datum : Option Datum)
    → at_output old.limits point (opening old.outputs) hit ≡ record { outputs = new.outputs; emitted = option_to_list (option_map seen datum) }
    → new.limits ≡ old.limits → after ≡ before ++ option_to_list datum → FeedsAll old new point (hit ∷ []) (map seen before) (map seen after)
feeds_one old new point hit before after datum fed limits pushed = record {
  fed = behind old.limits point old.outputs new.outputs hit (map seen before) (option_to_list (option_map seen datum)) fed
      ∙ ap (λ (es : List Point). record { outputs = new.outputs; emitted = es }) (seen_push before datum ∙ ap (map seen) (sym pushed));
  limits = limits;
}

pub feeds_start : (old : Held) (point : TimedValue) (before : List Point) → FeedsAll old old point [] before before
feeds_start old point before = record { fed = refl; limits = refl }

-- ---- an output at a place

pub value_of_entry : (es : Outputs) (i : ℕ) (k : OutputKey) (g : Gathered) → slice_get es i ≡ Some (k, g) → slice_get (values_of es) i ≡ Some g
value_of_entry [] i k g at = absurd cc
value_of_entry (e ∷ es) zero k g at = let same : e ≡ (k, g) = cc in ap (λ (x : OutputKey × Gathered). Some x.1) same
value_of_entry (e ∷ es) (suc i) k g at = value_of_entry es i k g at

pub get_or_entry : (es : Outputs) (i : ℕ) (k : OutputKey) (g : Gathered) → slice_get es i ≡ Some (k, g) → (i < length es) × (get_or es i (k, g) ≡ (k, g))
get_or_entry [] i k g at = absurd cc
get_or_entry (e ∷ es) zero k g at = (omega arith, cc)
get_or_entry (e ∷ es) (suc i) k g at = let r = get_or_entry es i k g at in (omega (arith, r.0), r.1)

-- the open intervals of one output more
pub at_end_more : (es : Outputs) (i : ℕ) (k : OutputKey) (g : Gathered) → slice_get es i ≡ Some (k, g) → at_end (take (i + 1) es) ≡ at_end (take i es) ++ open_points (k, g)
at_end_more es i k g at =
    let r = get_or_entry es i k g at in
    ap at_end (take_more es i (k, g) r.0)
    ∙ flat_map-append open_points (take i es) (get_or es i (k, g) ∷ [])
    ∙ ap (λ (o : OutputKey × Gathered). at_end (take i es) ++ (open_points o ++ [])) r.1
    ∙ ap (λ (ps : List Point). at_end (take i es) ++ ps) (append-nil (open_points (k, g)))
