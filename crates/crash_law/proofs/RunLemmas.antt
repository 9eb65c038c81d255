-- Where a shard stands whose drains go through the log, and the calls that change neither the log nor the disk.
use Rattle.std.proofs.Common.{◌≡◌, ◌∙◌, ⊎_elim, ℕ, ℤ, ◌+◌, ◌≤◌, Bool, true, false, List, [], ◌∷◌, ◌++◌, Option, Some, None, IfSome, Result, refl, sym, ap, subst, arith, option_map, append_assoc, append-nil}
use Rattle.std.specs.Prelude.{IsSome}
use Rattle.std.proofs.lemmas.Bool.{true≢false}
use Rattle.outside_io.specs.Frames.{ReadsOnly}
use Rattle.outside_io.specs.Image.{Image, WhereKnown}
use Rattle.outside_io.specs.declared.disk.Disk.{Ghosts}
use Rattle.outside_io.proofs.FrameLemmas.{reads_only_crashes}
use Rattle.write_shelf.specs.Shelf.{DrainValue}
use Rattle.redo_log.specs.Rows.{InRow, MayLeave}
use Rattle.redo_log.specs.Steps.{RedoValue}
use Rattle.redo_log.specs.declared.next_step.NextStep.{NextStep}
use Rattle.carbon_history.specs.Entries.{drains}
use Rattle.carbon_history.specs.declared.entry.Entry.{Entry}
use Rattle.carbon_history.specs.declared.entry.Entry.TheVariants as entry
use Rattle.carbon_model.specs.Replay.{replay}
use Rattle.carbon_model.specs.RingFiles.{StandsUnder}
use Rattle.carbon_model.specs.State.{Kept, State}
use Rattle.carbon_model.proofs.HistoryLemmas.{replay-append}
use Rattle.point_cache.specs.declared.put.Put.{Put}
use Rattle.point_cache.specs.declared.put.Put.TheVariants as put
use Rattle.shard_core.specs.Shard.{Holds, HoldsShelf, Inside, patch_on}
use Rattle.shard_core.specs.Steps.{Makes, Plans as PlansStep, Puts as PutsStep, Step, entries_of, plan_entries, put_entries}
use Rattle.shard_core.specs.Table.{Table}
use Rattle.shard_core.specs.View.{inside_of}
use Rattle.shard_core.specs.Work.{WorkValue, drain_at, drain_of, first_step}
use Rattle.shard_core.specs.declared.looked.LookFault.{LookFault}
use Rattle.shard_core.specs.declared.planned.Planned.{Planned}
use Rattle.shard_core.specs.declared.planned.Planned.TheVariants as planned
use Rattle.shard_core.specs.declared.shard.Shard.{Shard}
use Rattle.shard_core.proofs.LawLemmas.{answers_are_replayed}
use Rattle.crash_law.specs.Calls.{MadePlan, MadePut, MadeRead}
use Rattle.crash_law.specs.Fronts.{StartsAsFront, unsettled}
use Rattle.crash_law.proofs.FrontLemmas.{drains_more, early_front, whole_front}
use Rattle.crash_law.proofs.RowLemmas.{early_in, row_starts}

-- ---- where the shard stands

-- the disk stands without the patch for the replay of a front, behind which is one drain at most
pub record HasFront (class : ℕ) (told : Image) (s : State) (entries : List Entry) (known : Option Image) : Type 0 where
  pub front : List Entry
  pub rest : List Entry
  pub is : entries ≡ front ++ rest
  pub one : drains rest ≤ 1
  pub stands : IfSome known (λ now. StandsUnder told now None (replay s front).kept class)

-- the shard stands for the replay of the entries, and a crash leaves what the row of its next step says
pub record IsOn {D : Type 0} {d : Ghosts D} (class : ℕ) (told : Image) (s : State) (entries : List Entry) (shard : Shard D d) : Type 0 where
  pub redo : Option RedoValue
  pub log : shard.files.work.log ≡ Some redo
  pub shelf : shard.files.work.shelf ≡ drain_of redo
  pub some : IfSome redo (λ r. IsSome r.drain)
  pub here : shard.desk.class ≡ class
  pub holds : Holds (Some told) (inside_of shard) (replay s entries)
  pub row : InRow redo (d.image shard.files.disk) (d.may_leave shard.files.disk)
  pub early : early_in redo ≡ true → HasFront class told s entries (d.image shard.files.disk)

-- ---- what a crash leaves there

one_at : (next : NextStep) (drain : Option DrainValue) → IsSome drain → unsettled (drain_at next drain) ≡ 1
one_at next None some = absurd cc
one_at next (Some drain) some = refl

one_early : (redo : Option RedoValue) → IfSome redo (λ r. IsSome r.drain) → early_in redo ≡ true → unsettled (drain_of redo) ≡ 1
one_early None some early = absurd cc
one_early (Some r) some early = one_at r.next r.drain some

row_front : (class : ℕ) (told : Image) (s : State) (entries : List Entry) (redo : Option RedoValue) (known : Option Image) (table : Table) → IfSome redo (λ r. IsSome r.drain) → HoldsShelf class table (drain_of redo) known
    → WhereKnown (Some told) known (λ opening now. StandsUnder opening now (patch_on (drain_of redo)) (replay s entries).kept class) → (early_in redo ≡ true → HasFront class told s entries known)
    → (left : Image) → IfSome known (λ now. MayLeave redo now left) → StartsAsFront class told s entries entries (drain_of redo) left
row_front class told s entries redo None table some on stands early left row = absurd stands
row_front class told s entries redo (Some now) table some on stands early left row = by (early_in redo) refl
  where
    by : (b : Bool) → early_in redo ≡ b → StartsAsFront class told s entries entries (drain_of redo) left
    by true is =
        let f = early is in
        ⊎_elim (λ kept. whole_front class told s entries (drain_of redo) left kept)
        (λ settled. early_front class told s entries f.front f.rest (drain_of redo) left f.is f.one (one_early redo some is) settled.1)
        (row_starts told now left redo class table (replay s entries).kept (replay s f.front).kept some on stands (λ again. f.stands) row)
    by false is =
        ⊎_elim (λ kept. whole_front class told s entries (drain_of redo) left kept)
        (λ settled. absurd (true≢false (sym settled.0 ∙ is)))
        (row_starts told now left redo class table (replay s entries).kept (replay s entries).kept some on stands (λ again. absurd (true≢false (sym again ∙ is))) row)

at_known : (redo : Option RedoValue) (known : Option Image) (may_leave : Image → Type 0) → InRow redo known may_leave → (left : Image) → may_leave left → IfSome known (λ now. MayLeave redo now left)
at_known redo None may_leave row left may = tt
at_known redo (Some now) may_leave row left may = row left may

pub on_row : {D : Type 0} {d : Ghosts D} (class : ℕ) (told : Image) (s : State) (entries : List Entry) (shard : Shard D d) (on : IsOn class told s entries shard) (left : Image) → IfSome (d.image shard.files.disk) (λ now. MayLeave on.redo now left)
    → StartsAsFront class told s entries entries shard.files.work.shelf left
on_row {D} {d} class told s entries shard on left row =
    subst (λ (shelf : Option DrainValue). StartsAsFront class told s entries entries shelf left) (sym on.shelf)
    (row_front class told s entries on.redo (d.image shard.files.disk) shard.desk.table on.some
    (subst (λ (shelf : Option DrainValue). HoldsShelf class shard.desk.table shelf (d.image shard.files.disk)) on.shelf
    (subst (λ (k : ℕ). HoldsShelf k shard.desk.table shard.files.work.shelf (d.image shard.files.disk)) on.here shard.halves.writing))
    (subst (λ (shelf : Option DrainValue). WhereKnown (Some told) (d.image shard.files.disk) (λ opening now. StandsUnder opening now (patch_on shelf) (replay s entries).kept class)) on.shelf
    (subst (λ (k : ℕ). WhereKnown (Some told) (d.image shard.files.disk) (λ opening now. StandsUnder opening now (patch_on shard.files.work.shelf) (replay s entries).kept k)) on.here on.holds.kept.files))
    on.early left row)

-- it starts as a front that holds each settled drain
pub on_starts : {D : Type 0} {d : Ghosts D} (class : ℕ) (told : Image) (s : State) (entries : List Entry) (shard : Shard D d) → IsOn class told s entries shard → (left : Image) → d.may_leave shard.files.disk left
    → StartsAsFront class told s entries entries shard.files.work.shelf left
on_starts {D} {d} class told s entries shard on left may = on_row class told s entries shard on left (at_known on.redo (d.image shard.files.disk) (d.may_leave shard.files.disk) on.row left may)

-- ---- a call that changes neither the log nor the disk

pub fewer_row : (redo : Option RedoValue) (known : Option Image) (may_leave may_leave' : Image → Type 0) → ((left : Image) → may_leave' left → may_leave left) → InRow redo known may_leave → InRow redo known may_leave'
fewer_row redo None may_leave may_leave' back row = tt
fewer_row redo (Some now) may_leave may_leave' back row = λ left may. row left (back left may)

pub same_or_none : (a b : ℕ) → a ≤ 1 → b ≡ 0 → a + b ≤ 1
same_or_none a b one none = omega (arith, one, none)

front_more : (class : ℕ) (told : Image) (s : State) (entries more : List Entry) (known known' : Option Image) → drains more ≡ 0 → known' ≡ known → HasFront class told s entries known → HasFront class told s (entries ++ more) known'
front_more class told s entries more known known' none same f = record {
  front = f.front;
  rest = f.rest ++ more;
  is = ap (λ (xs : List Entry). xs ++ more) f.is ∙ append_assoc f.front f.rest more;
  one = subst (λ (n : ℕ). n ≤ 1) (sym (drains_more f.rest more)) (same_or_none (drains f.rest) (drains more) f.one none);
  stands = subst (λ (o : Option Image). IfSome o (λ now. StandsUnder told now None (replay s f.front).kept class)) (sym same) f.stands;
}

-- nothing but the pending points, the queue and the table changed
record Stays {D : Type 0} {d : Ghosts D} (old new : Shard D d) : Type 0 where
  log : new.files.work.log ≡ old.files.work.log
  shelf : new.files.work.shelf ≡ old.files.work.shelf
  class : new.desk.class ≡ old.desk.class
  image : d.image new.files.disk ≡ d.image old.files.disk
  leaves : (left : Image) → d.may_leave new.files.disk left → d.may_leave old.files.disk left

on_same : {D : Type 0} {d : Ghosts D} (class : ℕ) (told : Image) (s : State) (entries more : List Entry) (old new : Shard D d) → Stays old new → drains more ≡ 0 → Holds (Some told) (inside_of new) (replay s (entries ++ more))
    → IsOn class told s entries old → IsOn class told s (entries ++ more) new
on_same {D} {d} class told s entries more old new stays none holds on = record {
  redo = on.redo;
  log = stays.log ∙ on.log;
  shelf = stays.shelf ∙ on.shelf;
  some = on.some;
  here = stays.class ∙ on.here;
  holds = holds;
  row = subst (λ (o : Option Image). InRow on.redo o (d.may_leave new.files.disk)) (sym stays.image)
      (fewer_row on.redo (d.image old.files.disk) (d.may_leave old.files.disk) (d.may_leave new.files.disk) stays.leaves on.row);
  early = λ is. front_more class told s entries more (d.image old.files.disk) (d.image new.files.disk) none stays.image (on.early is);
}

-- ---- the state behind a call

pub holds_more : (told : Option Image) (s : State) (entries more : List Entry) (new : Inside) → Holds told new (replay (replay s entries) more) → Holds told new (replay s (entries ++ more))
holds_more told s entries more new holds = subst (λ (state : State). Holds told new state) (sym (replay-append s entries more)) holds

-- by the answers of one call
holds_step : (pass class : ℕ) (told : Option Image) (s : State) (entries : List Entry) (old new : Inside) (step : Step) → Makes step old new → Holds told old (replay s entries) → Holds told new (replay s (entries ++ entries_of pass class step))
holds_step pass class told s entries old new step makes holds =
    holds_more told s entries (entries_of pass class step) new
    (subst (λ (more : List Entry). Holds told new (replay (replay s entries) more)) (append-nil (entries_of pass class step))
    (answers_are_replayed pass class told (replay s entries) old new (step ∷ []) (new, (makes, refl)) holds).1)

-- ---- a put

put_drains : (pass : ℕ) (path : List ℕ) (time : ℕ) (value : ℤ) (end : Put) → drains (put_entries pass path time value end) ≡ 0
put_drains pass path time value put.Stored = refl
put_drains pass path time value put.Replaced = refl
put_drains pass path time value put.Full = refl
put_drains pass path time value put.NoMemory = refl

pub on_put : {D : Type 0} {d : Ghosts D} (pass class : ℕ) (told : Image) (s : State) (entries : List Entry) (path : List ℕ) (time : ℕ) (value : ℤ) (end : Put) (old new : Shard D d) → MadePut path time value end old new → IsOn class told s entries old
    → IsOn class told s (entries ++ put_entries pass path time value end) new
on_put {D} {d} pass class told s entries path time value end old new made on =
    on_same class told s entries (put_entries pass path time value end) old new
    (record {
      log = ap (λ (w : WorkValue). w.log) made.others.work;
      shelf = ap (λ (w : WorkValue). w.shelf) made.others.work;
      class = made.others.class;
      image = ap (λ (disk : D). d.image disk) made.others.disk;
      leaves = λ left may. subst (λ (disk : D). d.may_leave disk left) made.others.disk may;
    }) (put_drains pass path time value end)
    (holds_step pass class (Some told) s entries (inside_of old) (inside_of new) (PutsStep path time value end) made.takes on.holds) on

-- ---- a plan

reads_stays : {D : Type 0} {d : Ghosts D} (old new : Shard D d) {failed : Type 0} → new.files.work.log ≡ old.files.work.log → new.files.work.shelf ≡ old.files.work.shelf → new.desk.class ≡ old.desk.class
    → ReadsOnly d old.files.disk new.files.disk failed → Stays old new
reads_stays old new log shelf same frame = record {
  log = log;
  shelf = shelf;
  class = same;
  image = frame.kept;
  leaves = (reads_only_crashes old.files.disk new.files.disk frame).leaves;
}

-- nothing was being written
none_at : (next : NextStep) (drain : Option DrainValue) → IsSome drain → None ≡ drain_at next drain → ⊥
none_at next None some e = absurd cc
none_at next (Some drain) some e = absurd cc

none_going : (redo : Option RedoValue) → IfSome redo (λ r. IsSome r.drain) → None ≡ drain_of redo → redo ≡ None
none_going None some e = refl
none_going (Some r) some e = absurd (none_at r.next r.drain some e)

first_shelf : (shelf : Option DrainValue) → shelf ≡ drain_of (first_step shelf)
first_shelf None = refl
first_shelf (Some drain) = refl

first_some : (shelf : Option DrainValue) → IfSome (first_step shelf) (λ r. IsSome r.drain)
first_some None = tt
first_some (Some drain) = refl

first_row : (shelf : Option DrainValue) (known : Option Image) (may_leave : Image → Type 0) → InRow None known may_leave → InRow (first_step shelf) known may_leave
first_row None known may_leave row = row
first_row (Some drain) None may_leave row = tt
first_row (Some drain) (Some now) may_leave row = row

stands_bare : (told : Image) (known known' : Option Image) (shelf : Option DrainValue) (kept : List ℕ → Option Kept) (class : ℕ) → shelf ≡ None → known' ≡ known
    → WhereKnown (Some told) known (λ opening now. StandsUnder opening now (patch_on shelf) kept class) → IfSome known' (λ now. StandsUnder told now None kept class)
stands_bare told known known' shelf kept class none same stands =
    subst (λ (o : Option Image). IfSome o (λ now. StandsUnder told now None kept class)) (sym same)
    (by known (subst (λ (o : Option DrainValue). WhereKnown (Some told) known (λ opening now. StandsUnder opening now (patch_on o) kept class)) none stands))
  where
    by : (o : Option Image) → WhereKnown (Some told) o (λ opening now. StandsUnder opening now None kept class) → IfSome o (λ now. StandsUnder told now None kept class)
    by None stands = tt
    by (Some now) stands = stands

pub one_low : 1 ≤ 1
one_low = omega arith

on_begin : {D : Type 0} {d : Ghosts D} (pass class : ℕ) (told : Image) (s : State) (entries : List Entry) (path : List ℕ) (now : ℕ) (old new : Shard D d) → MadePlan now (planned.Took path) old new → IsOn class told s entries old
    → IsOn class told s (entries ++ entry.Drain pass path now ∷ []) new
on_begin {D} {d} pass class told s entries path now old new made on =
    let none : on.redo ≡ None = none_going on.redo on.some (sym made.plans.empty ∙ on.shelf) in
    let row : InRow None (d.image old.files.disk) (d.may_leave old.files.disk) = subst (λ (redo : Option RedoValue). InRow redo (d.image old.files.disk) (d.may_leave old.files.disk)) none on.row in record {
      redo = first_step new.files.work.shelf;
      log = made.plans.log ∙ ap (option_map (λ (redo : Option RedoValue). first_step new.files.work.shelf)) on.log;
      shelf = first_shelf new.files.work.shelf;
      some = first_some new.files.work.shelf;
      here = made.same.class ∙ on.here;
      holds = holds_step pass class (Some told) s entries (inside_of old) (inside_of new) (PlansStep now (planned.Took path)) made.plans on.holds;
      row = subst (λ (o : Option Image). InRow (first_step new.files.work.shelf) o (d.may_leave new.files.disk)) (sym made.frame.kept)
          (first_row new.files.work.shelf (d.image old.files.disk) (d.may_leave new.files.disk)
          (fewer_row None (d.image old.files.disk) (d.may_leave old.files.disk) (d.may_leave new.files.disk) (reads_only_crashes old.files.disk new.files.disk made.frame).leaves row));
      early = λ is. record {
        front = entries;
        rest = entry.Drain pass path now ∷ [];
        is = refl;
        one = one_low;
        stands = stands_bare told (d.image old.files.disk) (d.image new.files.disk) old.files.work.shelf (replay s entries).kept class made.plans.empty made.frame.kept
            (subst (λ (k : ℕ). WhereKnown (Some told) (d.image old.files.disk) (λ opening now. StandsUnder opening now (patch_on old.files.work.shelf) (replay s entries).kept k)) on.here on.holds.kept.files);
      };
    }

pub on_plan : {D : Type 0} {d : Ghosts D} (pass class : ℕ) (told : Image) (s : State) (entries : List Entry) (now : ℕ) (plan : Planned) (old new : Shard D d) → MadePlan now plan old new → IsOn class told s entries old
    → IsOn class told s (entries ++ plan_entries pass class now plan) new
on_plan pass class told s entries now (planned.Took path) old new made on = on_begin pass class told s entries path now old new made on
on_plan pass class told s entries now planned.Busy old new made on =
    on_same class told s entries [] old new (reads_stays old new (ap (λ (i : Inside). i.log) made.plans.1) (ap (λ (i : Inside). i.shelf) made.plans.1) made.same.class made.frame) refl
    (holds_step pass class (Some told) s entries (inside_of old) (inside_of new) (PlansStep now planned.Busy) made.plans on.holds) on
on_plan pass class told s entries now planned.Idle old new made on =
    on_same class told s entries [] old new (reads_stays old new (ap (λ (i : Inside). i.log) made.plans.1.1) (ap (λ (i : Inside). i.shelf) made.plans.1.1) made.same.class made.frame) refl
    (holds_step pass class (Some told) s entries (inside_of old) (inside_of new) (PlansStep now planned.Idle) made.plans on.holds) on
on_plan pass class told s entries now planned.DiskFault old new made on =
    on_same class told s entries (entry.Fault pass class ∷ []) old new (reads_stays old new made.plans.log made.plans.shelf made.same.class made.frame) refl
    (holds_step pass class (Some told) s entries (inside_of old) (inside_of new) (PlansStep now planned.DiskFault) made.plans on.holds) on
on_plan pass class told s entries now planned.NoMemory old new made on =
    on_same class told s entries [] old new (reads_stays old new made.plans.log made.plans.shelf made.same.class made.frame) refl
    (holds_step pass class (Some told) s entries (inside_of old) (inside_of new) (PlansStep now planned.NoMemory) made.plans on.holds) on

-- ---- a read

pub on_read : {D : Type 0} {d : Ghosts D} (class : ℕ) (told : Image) (s : State) (entries : List Entry) (answer : Result (List (Option ℤ)) LookFault) (old new : Shard D d) → MadeRead answer old new → IsOn class told s entries old → IsOn class told s (entries ++ []) new
on_read class told s entries answer old new made on =
    on_same class told s entries [] old new
    (reads_stays old new (ap (λ (i : Inside). i.log) made.same) (ap (λ (i : Inside). i.shelf) made.same) (ap (λ (i : Inside). i.class) made.same) made.frame) refl
    (holds_more (Some told) s entries [] (inside_of new) (subst (λ (i : Inside). Holds (Some told) i (replay s entries)) (sym made.same) on.holds)) on
