-- What the lock of a class keeps stays so with an entry, a step and a settled drain more.
use Rattle.std.proofs.Common.{◌≡◌, ◌↔◌, ◌∙◌, ℕ, ◌<◌, ◌≤◌, ◌+◌, ◌*◌, Bool, true, false, cond, List, [], ◌∷◌, ◌++◌, length, drop, Option, Some, None, IfSome, refl, sym, ap, subst, arith, append_assoc, length-append}
use Rattle.std.specs.Prelude.{count_by, filter, is_some, IsSome}
use Rattle.std.proofs.lemmas.List.Elements.{filter-append}
use Rattle.std.proofs.lemmas.List.Sums.{sum_by-append}
use Rattle.std.proofs.lemmas.Bool.{eq-eqb, false≢true}
use Rattle.atomic_table.specs.Seated.{TableId}
use Rattle.outside_io.specs.Image.{Image}
use Rattle.outside_io.specs.Faults.{Rose}
use Rattle.metric_path.specs.Class.{class_of}
use Rattle.ring_format.specs.Patch.{PatchValue}
use Rattle.write_shelf.specs.Shelf.{DrainValue}
use Rattle.carbon_history.specs.declared.entry.Entry.{Entry}
use Rattle.carbon_history.specs.declared.entry.Entry.TheVariants as entry
use Rattle.carbon_history.specs.Entries.{drains, is_drain}
use Rattle.carbon_model.specs.State.{State, picked}
use Rattle.carbon_model.specs.Replay.{after, replay}
use Rattle.carbon_model.proofs.HistoryLemmas.{replay-append}
use Rattle.shard_core.specs.Shard.{Holds, Inside, Stays, patch_on}
use Rattle.shard_core.specs.Plans.{Begins, IsUnwritten, PlansTo}
use Rattle.shard_core.specs.Writes.{WritesTo}
use Rattle.shard_core.specs.declared.planned.Planned.{Planned}
use Rattle.shard_core.specs.declared.planned.Planned.TheVariants as planned
use Rattle.shard_core.specs.declared.planned.Wrote.{Wrote}
use Rattle.shard_core.specs.declared.planned.Wrote.TheVariants as wrote
use Rattle.shared_history.specs.Parts.{PassValue, TailValue, tail_ran, tail_settled, tail_with}
use Rattle.shared_history.specs.Rule.{OneOwed}
use Rattle.shared_store.specs.Desks.{KeepsClass, LastDrains}
use Rattle.shared_store.specs.Passes.{HasRoom}
use Rattle.shared_store.specs.Steps.{plan_entry, write_entry}
use Rattle.shared_store.specs.Tails.{MayTell, Owes, OwesBegun, OwesRun, tail_begun, tail_told, tail_wrote}
use Rattle.shared_store.specs.Tallies.{capped, is_fault}

-- ---- what an entry more counts

one_kept : (b : Bool) (e : Entry) → length (cond b (e ∷ []) []) ≡ cond b 1 0
one_kept true e = refl
one_kept false e = refl

pub drains_with : (list : List Entry) (e : Entry) → drains (list ++ e ∷ []) ≡ drains list + cond (is_drain e) 1 0
drains_with list e =
    ap length (filter-append is_drain list (e ∷ []))
    ∙ (length-append (filter is_drain list) (filter is_drain (e ∷ [])) ∙ ap (λ (n : ℕ). drains list + n) (one_kept (is_drain e) e))

pub faults_with : (list : List Entry) (e : Entry) → count_by is_fault (list ++ e ∷ []) ≡ count_by is_fault list + cond (is_fault e) 1 0
faults_with list e = sum_by-append (λ x. cond (is_fault x) 1 0) list (e ∷ []) ∙ omega arith

same_count : (n m : ℕ) (b : Bool) → b ≡ false → m ≡ n + cond b 1 0 → m ≡ n
same_count n m true is e = absurd (false≢true (sym is))
same_count n m false is e = omega (arith, e)

one_more : (n m : ℕ) (b : Bool) → b ≡ true → m ≡ n + cond b 1 0 → m ≡ n + 1
one_more n m true is e = omega (arith, e)
one_more n m false is e = absurd (false≢true is)

pub same_drains : (list : List Entry) (e : Entry) → is_drain e ≡ false → drains (list ++ e ∷ []) ≡ drains list
same_drains list e is = same_count (drains list) (drains (list ++ e ∷ [])) (is_drain e) is (drains_with list e)

pub one_drain : (list : List Entry) (e : Entry) → is_drain e ≡ true → drains (list ++ e ∷ []) ≡ drains list + 1
one_drain list e is = one_more (drains list) (drains (list ++ e ∷ [])) (is_drain e) is (drains_with list e)

pub same_faults : (list : List Entry) (e : Entry) → is_fault e ≡ false → count_by is_fault (list ++ e ∷ []) ≡ count_by is_fault list
same_faults list e is = same_count (count_by is_fault list) (count_by is_fault (list ++ e ∷ [])) (is_fault e) is (faults_with list e)

pub one_fault : (list : List Entry) (e : Entry) → is_fault e ≡ true → count_by is_fault (list ++ e ∷ []) ≡ count_by is_fault list + 1
one_fault list e is = one_more (count_by is_fault list) (count_by is_fault (list ++ e ∷ [])) (is_fault e) is (faults_with list e)

pub replay_with : (start : State) (list : List Entry) (e : Entry) → replay start (list ++ e ∷ []) ≡ after (replay start list) e
replay_with start list e = replay-append start list (e ∷ [])

-- ---- the last drain

last_with : (path : List ℕ) (list : List Entry) (e : Entry) → is_drain e ≡ false → LastDrains path list → LastDrains path (list ++ e ∷ [])
last_with path list e quiet was = record {
  before = was.before;
  pass = was.pass;
  now = was.now;
  since = was.since ++ e ∷ [];
  is = ap (λ (l : List Entry). l ++ e ∷ []) was.is ∙ append_assoc was.before (entry.Drain was.pass path was.now ∷ was.since) (e ∷ []);
  last = same_drains was.since e quiet ∙ was.last;
}

last_kept : (list : List Entry) (e : Entry) → is_drain e ≡ false → (shelf : Option DrainValue)
    → IfSome shelf (λ drain. LastDrains drain.patch.path list) → IfSome shelf (λ drain. LastDrains drain.patch.path (list ++ e ∷ []))
last_kept list e quiet None was = tt
last_kept list e quiet (Some drain) was = last_with drain.patch.path list e quiet was

last_begun : (list : List Entry) (pass now : ℕ) (path : List ℕ) (shelf : Option DrainValue)
    → IfSome shelf (IsUnwritten path)
    → IfSome shelf (λ drain. LastDrains drain.patch.path (list ++ entry.Drain pass path now ∷ []))
last_begun list pass now path None begun = tt
last_begun list pass now path (Some drain) begun =
    subst (λ (p : List ℕ). LastDrains p (list ++ entry.Drain pass path now ∷ [])) (sym begun.own)
    (record { before = list; pass = pass; now = now; since = []; is = refl; last = refl })

-- the patch stays as long as something of it is left
last_stays : (list : List Entry) (old new : Option DrainValue) → IfSome new (λ drain. patch_on old ≡ Some drain.patch) → IfSome old (λ drain. LastDrains drain.patch.path list)
    → IfSome new (λ drain. LastDrains drain.patch.path list)
last_stays list old None same was = tt
last_stays list None (Some drain) same was = absurd (cc same)
last_stays list (Some before) (Some drain) same was =
    let is : before.patch ≡ drain.patch = cc in subst (λ (p : PatchValue). LastDrains p.path list) is was

-- ---- numbers

cap_later : (n failed later : ℕ) → capped n ≤ failed → failed ≤ later → capped n ≤ later
cap_later n failed later le more = omega (arith, le, more)

cap_rose : (n failed later : ℕ) → capped n ≤ failed → Rose failed later → capped (n + 1) ≤ later
cap_rose n failed later le rose = omega (arith, le, rose)

begun_runs : (runs before steps drains : ℕ) → runs + before ≤ 5000000 * drains → steps < 5000000 → runs + steps ≤ 5000000 * (drains + 1)
begun_runs runs before steps drains le few = omega (arith, le, few)

fewer_runs : (runs ahead now drains : ℕ) → runs + ahead ≤ 5000000 * drains → now < ahead → (runs + 1) + now ≤ 5000000 * drains
fewer_runs runs ahead now drains le fewer = omega (arith, le, fewer)

owes : (settled all : ℕ) → settled ≤ all → (all ≡ settled → ⊥) → settled < all
owes settled all low not = omega (arith, low, λ (e : all ≡ settled). not e)

-- ---- what is kept with new parts

module _ (table : TableId) (told : ℕ → Option Image) (start : State) (faults : ℕ → ℕ) where
  keeps_now : (old new : Inside) (failed later : ℕ) (tail ended : TailValue) → KeepsClass table told start faults old failed tail
      → ended.table ≡ tail.table → ended.class ≡ tail.class → new.class ≡ old.class
      → Holds (told old.class) new (replay start ended.list)
      → (new.shelf ≡ None) ↔ (drains ended.list ≡ ended.settled) → OneOwed ended.settled ended.list
      → IfSome new.shelf (λ drain. LastDrains drain.patch.path ended.list)
      → ended.runs + new.steps ≤ 5000000 * drains ended.list
      → capped (faults old.class + count_by is_fault ended.list) ≤ later
      → KeepsClass table told start faults new later ended
  keeps_now old new failed later tail ended keeps same_table same_class class holds settled owed last runs few = record {
    same = same_table ∙ keeps.same;
    class = same_class ∙ (keeps.class ∙ sym class);
    within = subst (λ (k : ℕ). k < 16) (sym class) keeps.within;
    holds = subst (λ (k : ℕ). Holds (told k) new (replay start ended.list)) (sym class) holds;
    settled = settled;
    owed = owed;
    last = last;
    runs = runs;
    faults = subst (λ (k : ℕ). capped (faults k + count_by is_fault ended.list) ≤ later) (sym class) few;
  }

  -- nothing is entered, and the shard stands for what it stood for
  pub keeps_still : (old new : Inside) (failed later : ℕ) (tail : TailValue) → KeepsClass table told start faults old failed tail
      → new.class ≡ old.class → new.shelf ≡ old.shelf → new.steps ≡ old.steps → Holds (told old.class) new (replay start tail.list) → failed ≤ later
      → KeepsClass table told start faults new later tail
  keeps_still old new failed later tail keeps class shelf steps holds more =
      keeps_now old new failed later tail tail keeps refl refl class holds
      ((λ none. keeps.settled.0 (sym shelf ∙ none)), (λ all. shelf ∙ keeps.settled.1 all)) keeps.owed
      (subst (λ (s : Option DrainValue). IfSome s (λ drain. LastDrains drain.patch.path tail.list)) (sym shelf) keeps.last)
      (subst (λ (n : ℕ). tail.runs + n ≤ 5000000 * drains tail.list) (sym steps) keeps.runs)
      (cap_later (faults old.class + count_by is_fault tail.list) failed later keeps.faults more)

  -- an entry that is no drain
  keeps_entry : (old new : Inside) (failed later : ℕ) (tail : TailValue) (e : Entry) → KeepsClass table told start faults old failed tail
      → new.class ≡ old.class → new.shelf ≡ old.shelf → new.steps ≡ old.steps → is_drain e ≡ false → Holds (told old.class) new (after (replay start tail.list) e)
      → capped (faults old.class + count_by is_fault (tail.list ++ e ∷ [])) ≤ later
      → KeepsClass table told start faults new later (tail_with tail e)
  keeps_entry old new failed later tail e keeps class shelf steps quiet holds few =
      let same = same_drains tail.list e quiet in
      keeps_now old new failed later tail (tail_with tail e) keeps refl refl class
      (subst (λ (s : State). Holds (told old.class) new s) (sym (replay_with start tail.list e)) holds)
      ((λ none. same ∙ keeps.settled.0 (sym shelf ∙ none)), (λ all. shelf ∙ keeps.settled.1 (sym same ∙ all)))
      (record { low = subst (λ (n : ℕ). tail.settled ≤ n) (sym same) keeps.owed.low; high = subst (λ (n : ℕ). n ≤ tail.settled + 1) (sym same) keeps.owed.high })
      (last_kept tail.list e quiet new.shelf
      (subst (λ (s : Option DrainValue). IfSome s (λ drain. LastDrains drain.patch.path tail.list)) (sym shelf) keeps.last))
      (subst (λ (n : ℕ). tail.runs + new.steps ≤ 5000000 * n) (sym same)
      (subst (λ (n : ℕ). tail.runs + n ≤ 5000000 * drains tail.list) (sym steps) keeps.runs))
      few

  keeps_quiet : (old new : Inside) (failed later : ℕ) (tail : TailValue) (e : Entry) → KeepsClass table told start faults old failed tail
      → new.class ≡ old.class → new.shelf ≡ old.shelf → new.steps ≡ old.steps → is_drain e ≡ false → is_fault e ≡ false → Holds (told old.class) new (after (replay start tail.list) e)
      → failed ≤ later → KeepsClass table told start faults new later (tail_with tail e)
  keeps_quiet old new failed later tail e keeps class shelf steps quiet sound holds more =
      keeps_entry old new failed later tail e keeps class shelf steps quiet holds
      (subst (λ (n : ℕ). capped (faults old.class + n) ≤ later) (sym (same_faults tail.list e sound))
      (cap_later (faults old.class + count_by is_fault tail.list) failed later keeps.faults more))

  cap_one : (class count failed later : ℕ) → capped (faults class + count) ≤ failed → Rose failed later → capped (faults class + (count + 1)) ≤ later
  cap_one class count failed later le rose = omega (arith, le, rose)

  pub keeps_fault : (old new : Inside) (failed later pass : ℕ) (tail : TailValue) → KeepsClass table told start faults old failed tail
      → new.class ≡ old.class → new.shelf ≡ old.shelf → new.steps ≡ old.steps → Holds (told old.class) new (replay start tail.list) → Rose failed later
      → KeepsClass table told start faults new later (tail_with tail (entry.Fault pass tail.class))
  keeps_fault old new failed later pass tail keeps class shelf steps holds rose =
      let e : Entry = entry.Fault pass tail.class in
      keeps_entry old new failed later tail e keeps class shelf steps refl holds
      (subst (λ (n : ℕ). capped (faults old.class + n) ≤ later) (sym (one_fault tail.list e refl))
      (cap_one old.class (count_by is_fault tail.list) failed later keeps.faults rose))

  -- ---- a plan

  plan_fault_may : (pass : PassValue) (tail : TailValue) → HasRoom pass → MayTell start pass tail (entry.Fault pass.number tail.class)
  plan_fault_may pass tail room = record {
    may = record { about = eq-eqb tail.class tail.class refl; room = omega (arith, room); settled = λ is. absurd (false≢true is) };
    legal = tt;
  }

  pub plan_may : (old new : Inside) (failed now : ℕ) (tail : TailValue) (pass : PassValue) (plan : Planned)
      → KeepsClass table told start faults old failed tail → HasRoom pass → PlansTo plan old new now
      → IfSome (plan_entry pass.number tail.class now plan) (MayTell start pass tail)
  plan_may old new failed now tail pass (planned.Took path) keeps room begins = record {
    may = record {
      about = eq-eqb (class_of path) tail.class (begins.here ∙ sym keeps.class);
      room = omega (arith, room);
      settled = λ is. keeps.settled.0 begins.empty;
    };
    legal = ap (λ (k : ℕ). pick_at k) begins.here ∙ (begins.drains (told old.class) (replay start tail.list) keeps.holds).0;
  }
    where
      pick_at : ℕ → Option (List ℕ)
      pick_at k = picked (replay start tail.list) k
  plan_may old new failed now tail pass planned.Busy keeps room plans = tt
  plan_may old new failed now tail pass planned.Idle keeps room plans = tt
  plan_may old new failed now tail pass planned.DiskFault keeps room plans = plan_fault_may pass tail room
  plan_may old new failed now tail pass planned.NoMemory keeps room plans = tt

  pub plan_owes : (old new : Inside) (failed now pass : ℕ) (tail : TailValue) (plan : Planned)
      → KeepsClass table told start faults old failed tail → PlansTo plan old new now
      → OwesBegun plan (tail_told tail (plan_entry pass tail.class now plan))
  plan_owes old new failed now pass tail (planned.Took path) keeps begins =
      let more = one_drain tail.list (entry.Drain pass path now) refl in
      subst (λ (n : ℕ). tail.settled < n) (sym more) (omega (arith, keeps.owed.low))
  plan_owes old new failed now pass tail planned.Busy keeps plans = tt
  plan_owes old new failed now pass tail planned.Idle keeps plans = tt
  plan_owes old new failed now pass tail planned.DiskFault keeps plans = tt
  plan_owes old new failed now pass tail planned.NoMemory keeps plans = tt

  -- a drain that was begun, before it is settled where nothing of it is to be written
  begun_holds : (old new : Inside) (failed now pass : ℕ) (tail : TailValue) (path : List ℕ) → KeepsClass table told start faults old failed tail
      → Begins old new path now → Holds (told old.class) new (replay start (tail.list ++ entry.Drain pass path now ∷ []))
  begun_holds old new failed now pass tail path keeps begins =
      subst (λ (s : State). Holds (told old.class) new s) (sym (replay_with start tail.list (entry.Drain pass path now)))
      (begins.drains (told old.class) (replay start tail.list) keeps.holds).1

  begun_few : (old : Inside) (failed now later pass : ℕ) (tail : TailValue) (path : List ℕ) → KeepsClass table told start faults old failed tail
      → failed ≤ later → capped (faults old.class + count_by is_fault (tail.list ++ entry.Drain pass path now ∷ [])) ≤ later
  begun_few old failed now later pass tail path keeps more =
      subst (λ (n : ℕ). capped (faults old.class + n) ≤ later) (sym (same_faults tail.list (entry.Drain pass path now) refl))
      (cap_later (faults old.class + count_by is_fault tail.list) failed later keeps.faults more)

  keeps_begun : (old new : Inside) (failed now later pass : ℕ) (tail : TailValue) (path : List ℕ) (shelf : Option DrainValue)
      → KeepsClass table told start faults old failed tail → new.class ≡ old.class → Begins old new path now → failed ≤ later → new.shelf ≡ shelf
      → KeepsClass table told start faults new later (tail_begun (planned.Took path) (is_some shelf) (tail_with tail (entry.Drain pass path now)))
  keeps_begun old new failed now later pass tail path None keeps class begins more is =
      let e : Entry = entry.Drain pass path now in
      let one = one_drain tail.list e refl in
      let even = keeps.settled.0 begins.empty in
      keeps_now old new failed later tail (tail_settled (tail_with tail e)) keeps refl refl class
      (begun_holds old new failed now pass tail path keeps begins)
      ((λ none. one ∙ ap (λ (n : ℕ). n + 1) even), (λ all. is))
      (record { low = omega (arith, one, even); high = omega (arith, one, even) })
      (last_begun tail.list pass now path new.shelf begins.shelf)
      (subst (λ (n : ℕ). tail.runs + new.steps ≤ 5000000 * n) (sym one) (begun_runs tail.runs old.steps new.steps (drains tail.list) keeps.runs begins.few))
      (begun_few old failed now later pass tail path keeps more)
  keeps_begun old new failed now later pass tail path (Some drain) keeps class begins more is =
      let e : Entry = entry.Drain pass path now in
      let one = one_drain tail.list e refl in
      let even = keeps.settled.0 begins.empty in
      keeps_now old new failed later tail (tail_with tail e) keeps refl refl class
      (begun_holds old new failed now pass tail path keeps begins)
      ((λ none. absurd (cc (none, is))), (λ all. absurd (omega (arith, one, even, all))))
      (record { low = omega (arith, one, even); high = omega (arith, one, even) })
      (last_begun tail.list pass now path new.shelf begins.shelf)
      (subst (λ (n : ℕ). tail.runs + new.steps ≤ 5000000 * n) (sym one) (begun_runs tail.runs old.steps new.steps (drains tail.list) keeps.runs begins.few))
      (begun_few old failed now later pass tail path keeps more)

  same_inside : (old new : Inside) (tail : TailValue) → new ≡ old → Holds (told old.class) old (replay start tail.list) → Holds (told old.class) new (replay start tail.list)
  same_inside old new tail same holds = subst (λ (x : Inside). Holds (told old.class) x (replay start tail.list)) (sym same) holds

  pub keeps_plan : (old new : Inside) (failed now later pass : ℕ) (tail : TailValue) (plan : Planned)
      → KeepsClass table told start faults old failed tail → PlansTo plan old new now → new.class ≡ old.class
      → failed ≤ later → (plan ≡ planned.DiskFault → Rose failed later)
      → KeepsClass table told start faults new later (tail_begun plan (is_some new.shelf) (tail_told tail (plan_entry pass tail.class now plan)))
  keeps_plan old new failed now later pass tail (planned.Took path) keeps begins class more rose =
      keeps_begun old new failed now later pass tail path new.shelf keeps class begins more refl
  keeps_plan old new failed now later pass tail planned.Busy keeps plans class more rose =
      keeps_still old new failed later tail keeps class (ap (λ (x : Inside). x.shelf) plans.1) (ap (λ (x : Inside). x.steps) plans.1) (same_inside old new tail plans.1 keeps.holds) more
  keeps_plan old new failed now later pass tail planned.Idle keeps plans class more rose =
      keeps_still old new failed later tail keeps class (ap (λ (x : Inside). x.shelf) plans.1.1) (ap (λ (x : Inside). x.steps) plans.1.1) (same_inside old new tail plans.1.1 keeps.holds) more
  keeps_plan old new failed now later pass tail planned.DiskFault keeps refuses class more rose =
      keeps_fault old new failed later pass tail keeps class refuses.shelf refuses.steps (refuses.stays (told old.class) (replay start tail.list) keeps.holds) (rose refl)
  keeps_plan old new failed now later pass tail planned.NoMemory keeps refuses class more rose =
      keeps_still old new failed later tail keeps class refuses.shelf refuses.steps (refuses.stays (told old.class) (replay start tail.list) keeps.holds) more

  -- ---- a step of a drain

  shelf_owes : (old : Inside) (failed : ℕ) (tail : TailValue) → KeepsClass table told start faults old failed tail → IsSome old.shelf → Owes tail
  shelf_owes old failed tail keeps some =
      owes tail.settled (drains tail.list) keeps.owed.low (λ even. not_none old.shelf some (keeps.settled.1 even))
    where
      not_none : (s : Option DrainValue) → IsSome s → s ≡ None → ⊥
      not_none None some is = false≢true some
      not_none (Some d) some is = absurd (cc is)

  pub write_owes : (old new : Inside) (failed : ℕ) (tail : TailValue) (wrote : Wrote) → KeepsClass table told start faults old failed tail
      → WritesTo wrote old new → OwesRun wrote tail
  write_owes old new failed tail wrote.Run keeps writes = shelf_owes old failed tail keeps writes.0.some
  write_owes old new failed tail wrote.Finished keeps writes = shelf_owes old failed tail keeps writes.0.some
  write_owes old new failed tail wrote.Nothing keeps writes = tt
  write_owes old new failed tail wrote.DiskFault keeps writes = tt

  pub write_may : (pass : PassValue) (tail : TailValue) (wrote : Wrote) → HasRoom pass
      → IfSome (write_entry pass.number tail.class wrote) (MayTell start pass tail)
  write_may pass tail wrote.Run room = tt
  write_may pass tail wrote.Finished room = tt
  write_may pass tail wrote.Nothing room = tt
  write_may pass tail wrote.DiskFault room = plan_fault_may pass tail room

  pub keeps_write : (old new : Inside) (failed later pass : ℕ) (tail : TailValue) (run : Wrote)
      → KeepsClass table told start faults old failed tail → WritesTo run old new → Stays old new → new.class ≡ old.class
      → failed ≤ later → (run ≡ wrote.DiskFault → Rose failed later)
      → KeepsClass table told start faults new later (tail_told (tail_wrote run tail) (write_entry pass tail.class run))
  keeps_write old new failed later pass tail wrote.Run keeps writes stays class more rose =
      keeps_now old new failed later tail (tail_ran tail) keeps refl refl class (stays (told old.class) (replay start tail.list) keeps.holds)
      ((λ none. absurd (some_none new.shelf writes.1 none)), (λ all. absurd (omega (arith, shelf_owes old failed tail keeps writes.0.some, all)))) keeps.owed
      (last_stays tail.list old.shelf new.shelf writes.0.patch keeps.last)
      (fewer_runs tail.runs old.steps new.steps (drains tail.list) keeps.runs writes.0.fewer)
      (cap_later (faults old.class + count_by is_fault tail.list) failed later keeps.faults more)
    where
      some_none : (s : Option DrainValue) → IsSome s → s ≡ None → ⊥
      some_none None some is = false≢true some
      some_none (Some d) some is = absurd (cc is)
  keeps_write old new failed later pass tail wrote.Finished keeps writes stays class more rose =
      let low = shelf_owes old failed tail keeps writes.0.some in
      keeps_now old new failed later tail (tail_settled (tail_ran tail)) keeps refl refl class (stays (told old.class) (replay start tail.list) keeps.holds)
      ((λ none. omega (arith, low, keeps.owed.high)), (λ all. writes.1))
      (record { low = omega (arith, low); high = omega (arith, keeps.owed.high) })
      (last_stays tail.list old.shelf new.shelf writes.0.patch keeps.last)
      (fewer_runs tail.runs old.steps new.steps (drains tail.list) keeps.runs writes.0.fewer)
      (cap_later (faults old.class + count_by is_fault tail.list) failed later keeps.faults more)
  keeps_write old new failed later pass tail wrote.Nothing keeps writes stays class more rose =
      keeps_still old new failed later tail keeps class (ap (λ (x : Inside). x.shelf) writes.1) (ap (λ (x : Inside). x.steps) writes.1) (stays (told old.class) (replay start tail.list) keeps.holds) more
  keeps_write old new failed later pass tail wrote.DiskFault keeps writes stays class more rose =
      keeps_fault old new failed later pass tail keeps class writes.shelf writes.steps (stays (told old.class) (replay start tail.list) keeps.holds) (rose refl)

  pub few_runs : (shard : Inside) (failed : ℕ) (tail : TailValue) → KeepsClass table told start faults shard failed tail → tail.runs ≤ 5000000 * drains tail.list
  few_runs shard failed tail keeps = omega (arith, keeps.runs)

pub busy_shelved : (old new : Inside) (now : ℕ) (plan : Planned) → PlansTo plan old new now → plan ≡ planned.Busy → is_some old.shelf ≡ true
busy_shelved old new now plan plans is = (subst (λ (p : Planned). PlansTo p old new now) is plans).0

pub nothing_shelved : (old new : Inside) (run : Wrote) → WritesTo run old new → run ≡ wrote.Nothing → is_some old.shelf ≡ false
nothing_shelved old new run writes is = ap is_some (subst (λ (w : Wrote). WritesTo w old new) is writes).0

pub le_same : (a b : ℕ) → b ≡ a → a ≤ b
le_same a b e = omega (arith, e)
