-- From a store that was closed to the end of a service.
use Rattle.std.proofs.Common.{◌≡◌, ◌∙◌, ◌||◌, inl, inr, ℕ, zero, suc, ◌<◌, ◌≤◌, ◌+◌, ◌^◌, Bool, true, false, List, [], ◌∷◌, ◌++◌, length, Option, Some, None, IfSome, refl, sym, ap, subst, arith, append_assoc, length-append}
use Rattle.std.specs.Prelude.{All, count_by, filter, get_or, slice_get}
use Rattle.std.specs.List.{list_any}
use Rattle.std.specs.Option.{option_map_or}
use Rattle.std.proofs.lemmas.Bool.{cases_order, ltb-false, ltb-true}
use Rattle.std.proofs.lemmas.List.Elements.{All-cons, All-nil, All-push, filter-append}
use Rattle.std.proofs.lemmas.List.Sums.{length-filter}
use Rattle.std.proofs.lemmas.Option.{none-some, slice_get-get_or, slice_get_within}
use mathlib.Core.List.{IsPrefix}
use Rattle.outside_io.specs.Image.{Image, WhereKnown}
use Rattle.outside_io.specs.Faults.{Rose}
use Rattle.outside_io.specs.declared.disk.Disk.{Ghosts}
use Rattle.atomic_table.specs.Seated.{TableId}
use Rattle.carbon_history.specs.declared.entry.Entry.{Entry}
use Rattle.carbon_history.specs.declared.entry.Entry.TheVariants as entry
use Rattle.carbon_history.specs.Entries.{NamesPasses, about_class, drains, is_about, is_drain, of_pass}
use Rattle.ring_format.specs.Patch.{PatchValue}
use Rattle.carbon_model.specs.State.{Kept, State}
use Rattle.carbon_model.specs.RingFiles.{Stands, StandsUnder}
use Rattle.carbon_model.specs.Replay.{IsDrainOf, replay}
use Rattle.carbon_model.proofs.HistoryLemmas.{replay-append}
use Rattle.shared_history.specs.Parts.{AllSeen, AreNewPasses, PassValue, own_entries}
use Rattle.shared_history.proofs.ListLemmas.{prefix_self}
use Rattle.shared_store.specs.Closes.{Closes, EndsAs, HasSettled}
use Rattle.shared_store.specs.Drains.{DrainsPartly, DrainsToFault, DrainsWhole, DrainsTo, RiseWithin}
use Rattle.shared_store.specs.Passes.{HasRoom, settled_in}
use Rattle.shared_store.specs.Tallies.{capped, is_fault}
use Rattle.shared_store.specs.declared.close.Closed.{Closed}
use Rattle.shared_store.specs.declared.drain_end.DrainEnd.{DrainEnd}
use Rattle.shared_store.specs.declared.drain_end.DrainEnd.TheVariants.{Done, DiskFault, Spent, NoMemory}
use Rattle.carbon_serve.specs.Workers.{HasMoment}
use Rattle.http_front.specs.Origin.{Origin}
use Rattle.carbon_serve.specs.Crews.{AllDid, AllWent, Finishes, HasLearned, OnlySaw, lacks_room}
use Rattle.carbon_serve.specs.Courses.{LastCourse, TellsSpent, WorkersHaveRoom}
use Rattle.carbon_serve.specs.Deeds.{Telling}
use Rattle.carbon_serve.specs.Serves.{AllHaveRoom, EndsByFault, EndsServed, EndsShort, EndsUndrained, IsDrained, LastSpent, Serves}
use Rattle.carbon_serve.specs.declared.crew.Duties.{Duties}
use Rattle.carbon_serve.proofs.CourseLemmas.{courses}
use Rattle.carbon_serve.proofs.EntryLemmas.{same_number}
use Rattle.carbon_serve.proofs.PassLemmas.{alone, last_number, last_own, others_before, own_none, passes_are, returned, slice_front, slice_last, timed, whole, worker_own}
use Rattle.carbon_serve.proofs.PendingLemmas.{none_pending}

-- ---- the drain at the end

drain_told : (moments : ℕ → Type 0) (pass class now : ℕ) (e : Entry) → IsDrainOf pass class now e → moments now → HasMoment moments e
drain_told moments pass class now (entry.Drain by path at) is told = subst moments (sym is.1.1) told
drain_told moments pass class now (entry.Put by path time value end) is told = absurd is
drain_told moments pass class now (entry.Ask by number try at) is told = absurd is
drain_told moments pass class now (entry.Fault by of_class) is told = absurd is

rise_told : (moments : ℕ → Type 0) (pass now class most : ℕ) (es : List Entry) → RiseWithin pass now class most es → moments now → All (HasMoment moments) es
rise_told moments pass now class most [] rise told = All-nil (HasMoment moments)
rise_told moments pass now class most (e ∷ es) rise told =
    All-cons (HasMoment moments) e es (drain_told moments pass rise.0 now e rise.2.1.0 told) (rise_told moments pass now rise.0 most es rise.2.1.1 told)

-- its entries are drains
drain_is : (pass class now : ℕ) (e : Entry) → IsDrainOf pass class now e → is_drain e ≡ true
drain_is pass class now (entry.Drain by path at) is = refl
drain_is pass class now (entry.Put by path time value end) is = absurd is
drain_is pass class now (entry.Ask by number try at) is = absurd is
drain_is pass class now (entry.Fault by of_class) is = absurd is

abbrev IsDrain : Entry → Type 0
IsDrain e = is_drain e ≡ true

rise_drains : (pass now class most : ℕ) (es : List Entry) → RiseWithin pass now class most es → All IsDrain es
rise_drains pass now class most [] rise = All-nil IsDrain
rise_drains pass now class most (e ∷ es) rise =
    All-cons IsDrain e es (drain_is pass rise.0 now e rise.2.1.0) (rise_drains pass now rise.0 most es rise.2.1.1)

-- what is known of the crew's own pass after the drain
pub record Finished (moments : ℕ → Type 0) (old new : PassValue) : Type 0 where
  pub table : new.table ≡ old.table
  pub number : new.number ≡ old.number
  pub begins : IsPrefix old.seen new.seen
  pub made : List Entry
  pub once : own_entries new ≡ own_entries old ++ made
  pub told : All (HasMoment moments) made

drained_to : (moments : ℕ → Type 0) (start : State) (passes now : ℕ) (end : DrainEnd) (old new : PassValue) → DrainsTo start passes now end old new → moments now → Finished moments old new
drained_to moments start passes now (Done count) old new drains told =
    let e = drains.0.enters in
    record { table = e.table; number = e.number; begins = e.begins; made = drains.0.made; once = e.once; told = rise_told moments old.number now 0 16 drains.0.made drains.0.rise told }
drained_to moments start passes now (DiskFault class) old new drains told =
    let e = drains.enters in
    record {
      table = e.table;
      number = e.number;
      begins = e.begins;
      made = drains.made ++ entry.Fault old.number class ∷ [];
      once = e.once;
      told = All-push (HasMoment moments) drains.made (entry.Fault old.number class) (rise_told moments old.number now 0 (class + 1) drains.made drains.rise told) tt;
    }
drained_to moments start passes now Spent old new drains told =
    let e = drains.0.enters in
    record { table = e.table; number = e.number; begins = e.begins; made = drains.0.made; once = e.once; told = rise_told moments old.number now 0 16 drains.0.made drains.0.rise told }
drained_to moments start passes now NoMemory old new drains told =
    let e = drains.0.enters in
    record { table = e.table; number = e.number; begins = e.begins; made = drains.0.made; once = e.once; told = rise_told moments old.number now 0 16 drains.0.made drains.0.rise told }

nothing_made : (es : List Entry) → es ≡ es ++ []
nothing_made [] = refl
nothing_made (e ∷ es) = ap (λ (xs : List Entry). e ∷ xs) (nothing_made es)

pub finished : (moments : ℕ → Type 0) (start : State) (passes : ℕ) (spent : Bool) (end : DrainEnd) (old new : PassValue) → Finishes moments start passes spent end old new → Finished moments old new
finished moments start passes true end old new finishes =
    subst (λ (pass : PassValue). Finished moments old pass) (sym finishes.1)
    (record { table = refl; number = refl; begins = prefix_self old.seen; made = []; once = nothing_made (own_entries old); told = All-nil (HasMoment moments) })
finished moments start passes false end old new finishes = drained_to moments start passes finishes.0 end old new finishes.1.1 finishes.1.0

-- ---- room

lacks : (pass : PassValue) → lacks_room pass ≡ true → 2 ^ 48 < length (own_entries pass) + 4
lacks pass is = ltb-true (2 ^ 48) (length (own_entries pass) + 4) is

has : (pass : PassValue) → lacks_room pass ≡ false → length (own_entries pass) + 4 ≤ 2 ^ 48
has pass is = ltb-false (2 ^ 48) (length (own_entries pass) + 4) is

any_at : {X : Type 0} (f : X → Bool) (xs : List X) → list_any f xs ≡ true → (k : ℕ) × ((x : X) × ((slice_get xs k ≡ Some x) × (f x ≡ true)))
any_at f [] any = absurd cc
any_at {X} f (x ∷ xs) any = by (f x) refl any (λ more. any_at f xs more)
  where
    by : (b : Bool) → f x ≡ b → (b || list_any f xs) ≡ true → (list_any f xs ≡ true → (k : ℕ) × ((y : X) × ((slice_get xs k ≡ Some y) × (f y ≡ true))))
        → (k : ℕ) × ((y : X) × ((slice_get (x ∷ xs) k ≡ Some y) × (f y ≡ true)))
    by true is any behind = (0, (x, (refl, is)))
    by false is any behind = let found = behind any in (suc found.0, found.1)

none_at : {X : Type 0} (f : X → Bool) (xs : List X) → list_any f xs ≡ false → (k : ℕ) (x : X) → slice_get xs k ≡ Some x → f x ≡ false
none_at f [] none k x at = absurd (none-some x at)
none_at {X} f (y ∷ xs) none k x at = by (f y) refl none k at (λ fewer j there. none_at f xs fewer j x there)
  where
    first : (z : X) → f y ≡ false → Some y ≡ Some z → f z ≡ false
    first z is same = subst (λ (w : X). f w ≡ false) (cc same) is

    by : (b : Bool) → f y ≡ b → (b || list_any f xs) ≡ false → (k : ℕ) → slice_get (y ∷ xs) k ≡ Some x
        → (list_any f xs ≡ false → (j : ℕ) → slice_get xs j ≡ Some x → f x ≡ false) → f x ≡ false
    by true is none k at behind = absurd cc
    by false is none zero at behind = first x is at
    by false is none (suc k) at behind = behind none k at

-- ---- disks

stands_alone : (opening now : Image) (kept : List ℕ → Option Kept) (class : ℕ) → StandsUnder opening now None kept class → Stands opening now kept class
stands_alone opening now kept class under = record {
  rings = under.rings;
  sound = λ path of_class. under.sound path of_class refl;
  others = under.others;
}

where_known : (told known : Option Image) (P Q : Image → Image → Type 0) → ((opening now : Image) → P opening now → Q opening now) → WhereKnown told known P → WhereKnown told known Q
where_known None None P Q more holds = tt
where_known None (Some now) P Q more holds = holds
where_known (Some opening) None P Q more holds = holds
where_known (Some opening) (Some now) P Q more holds = more opening now holds

ends_alone : {D : Type 0} (d : Ghosts D) (told : ℕ → Option Image) (start : State) (earlier : ℕ → ℕ) (passes : List PassValue) (history : List Entry) (class : ℕ) (disk : D)
    → HasSettled class history passes → EndsAs d told start earlier passes history class disk
    → WhereKnown (told class) (d.image disk) (λ opening now. Stands opening now (replay start history).kept class)
ends_alone d told start earlier passes history class disk settled ends =
    let whole : ends.patch ≡ None = ends.whole settled in
    let kept : List ℕ → Option Kept = (replay start history).kept in
    where_known (told class) (d.image disk) (λ opening now. StandsUnder opening now None kept class) (λ opening now. Stands opening now kept class)
    (λ opening now. stands_alone opening now kept class)
    (subst (λ (patch : Option PatchValue). WhereKnown (told class) (d.image disk) (λ opening now. StandsUnder opening now patch kept class)) whole ends.stands)

stands_each : {D : Type 0} (o : Option D) (P : D → Type 0) → ((disk : D) → o ≡ Some disk → P disk) → IfSome o P
stands_each None P each = tt
stands_each (Some disk) P each = each disk refl

not_settled : (class : ℕ) (history : List Entry) → HasSettled class history [] → ⊥
not_settled class history settled = none-some settled.pass settled.there

-- whatever passes there were
ends_anyhow : {D : Type 0} (d : Ghosts D) (told : ℕ → Option Image) (start : State) (earlier : ℕ → ℕ) (passes : List PassValue) (history : List Entry) (class : ℕ) (disk : D)
    → EndsAs d told start earlier passes history class disk → EndsAs d told start earlier [] history class disk
ends_anyhow d told start earlier passes history class disk ends = record {
  patch = ends.patch;
  stands = ends.stands;
  last = ends.last;
  whole = λ settled. absurd (not_settled class history settled);
  shut = ends.shut;
  faults = ends.faults;
}

-- ---- a disk that failed

told_once : (pass class : ℕ) → length (filter is_fault (about_class class (entry.Fault pass class ∷ []))) ≡ 1
told_once pass class = rw (same_number class) refl

some_fault : (pass class : ℕ) (before : List Entry) → 1 ≤ count_by is_fault (about_class class (before ++ entry.Fault pass class ∷ []))
some_fault pass class before =
    let all : List Entry = about_class class (before ++ entry.Fault pass class ∷ []) in
    let first : List Entry = about_class class before in
    let last : List Entry = about_class class (entry.Fault pass class ∷ []) in
    let count : length (filter is_fault all) ≡ count_by is_fault all = length-filter is_fault all in
    let parts : length (filter is_fault all) ≡ length (filter is_fault first) + length (filter is_fault last) =
    ap (λ (es : List Entry). length (filter is_fault es)) (filter-append (is_about class) before (entry.Fault pass class ∷ []))
    ∙ (ap (λ (es : List Entry). length es) (filter-append is_fault first last) ∙ length-append (filter is_fault first) (filter is_fault last)) in
    let one : length (filter is_fault last) ≡ 1 = told_once pass class in
    omega (arith, count, parts, one)

rose_from : (earlier count failed : ℕ) → 1 ≤ count → capped (earlier + count) ≤ failed → Rose earlier failed
rose_from earlier count failed some told = omega (arith, some, told)

rose_at : {D : Type 0} (d : Ghosts D) (earlier : ℕ → ℕ) (class count : ℕ) (o : Option D) → IfSome o (λ disk. capped (earlier class + count) ≤ d.faults disk) → (o ≡ None → ⊥) → 1 ≤ count
    → Rose (earlier class) (option_map_or d.faults o 0)
rose_at d earlier class count None told there some = absurd (there refl)
rose_at d earlier class count (Some disk) told there some = rose_from (earlier class) count (d.faults disk) some told

there_below : {X : Type 0} (xs : List X) (k : ℕ) → k < length xs → slice_get xs k ≡ None → ⊥
there_below [] k few none = absurd (omega (arith, few))
there_below (x ∷ xs) zero few none = none-some x (sym none)
there_below (x ∷ xs) (suc k) few none = there_below xs k (omega (arith, few)) none

-- ---- the end of a service

module _ {D : Type 0} (d : Ghosts D) (table : TableId) (moments : ℕ → Type 0) (told : ℕ → Option Image) (start : State) (earlier : ℕ → ℕ) (passes : ℕ) (before served : List PassValue)
    (own0 own1 own2 : PassValue) (history : List Entry) (disks : List D)
    (new : AreNewPasses table (before ++ own0 ∷ [])) (all : length (before ++ own0 ∷ []) ≡ passes) (went : AllWent moments start before served)
    (saw : OnlySaw own0 own1) (learned : HasLearned own1 served) (names : NamesPasses passes history) (seen : AllSeen history (served ++ own2 ∷ []))
    (each : (k : ℕ) (disk : D) → slice_get disks k ≡ Some disk → EndsAs d told start earlier (served ++ own2 ∷ []) history k disk) (sixteen : length disks ≡ 16) where
  abbrev last : ℕ
  last = length served

  -- a worker's pass lacks room
  worker_spent : (number : own2.number ≡ own1.number) → IsPrefix own1.seen own2.seen → list_any lacks_room served ≡ true → TellsSpent passes history true
  worker_spent number begins any =
      let found = any_at lacks_room served any in
      let k : ℕ = found.0 in
      let few : k < last = slice_get_within served k found.1.0 found.1.1.0 in
      let at : slice_get served k ≡ Some found.1.0 = found.1.1.0 in
      let same = seen k found.1.0 (slice_front served (own2 ∷ []) k found.1.0 at) in
      let are = passes_are table moments start passes before served own0 own1 own2 history new all went saw learned names seen number begins in
      (found.1.0.number, (rw (place k found.1.0 at) (omega (arith, few, are)), rw same.own (lacks found.1.0 found.1.1.1)))
    where
      place : (k : ℕ) (p : PassValue) → slice_get served k ≡ Some p → p.number ≡ k
      place k p at = (returned table moments start before (own0 ∷ []) served new went k p at).place

  -- the crew's own pass made nothing
  undrained : (number : own2.number ≡ own1.number) → IsPrefix own1.seen own2.seen → own2 ≡ own1 → EndsUndrained passes history
  undrained number begins same = record {
    pass = last;
    is = passes_are table moments start passes before served own0 own1 own2 history new all went saw learned names seen number begins;
    none = last_own table moments start passes before served own0 own1 own2 history new all went saw learned names seen number begins
        ∙ (ap own_entries same ∙ own_none table moments start passes before served own0 own1 own2 history new all went saw learned names seen number begins);
  }

  -- or it lacks room
  spent_own : (number : own2.number ≡ own1.number) → IsPrefix own1.seen own2.seen → 2 ^ 48 < length (own_entries own2) + 4 → LastSpent passes history
  spent_own number begins lacking = record {
    pass = last;
    is = passes_are table moments start passes before served own0 own1 own2 history new all went saw learned names seen number begins;
    spent = rw (last_own table moments start passes before served own0 own1 own2 history new all went saw learned names seen number begins) lacking;
  }

  -- no worker's does
  worker_left : (number : own2.number ≡ own1.number) → IsPrefix own1.seen own2.seen → list_any lacks_room served ≡ false → (k : ℕ) → k < last → length (of_pass k history) + 4 ≤ 2 ^ 48
  worker_left number begins none k less =
      let p : PassValue = get_or served k own2 in
      let at : slice_get served k ≡ Some p = slice_get-get_or served k own2 less in
      let place = (returned table moments start before (own0 ∷ []) served new went k p at).place in
      let mine : of_pass k history ≡ own_entries p =
      worker_own table moments start passes before served own0 own1 own2 history new all went saw learned names seen number begins k less ∙ ap (λ (n : ℕ). of_pass n p.seen) (sym place) in
      rw mine (has p (none_at lacks_room served none k p at))

  workers_room : (number : own2.number ≡ own1.number) → IsPrefix own1.seen own2.seen → list_any lacks_room served ≡ false → WorkersHaveRoom passes history
  workers_room number begins none k few =
      let are = passes_are table moments start passes before served own0 own1 own2 history new all went saw learned names seen number begins in
      worker_left number begins none k (omega (arith, few, are))

  -- none does
  room_left : (number : own2.number ≡ own1.number) → IsPrefix own1.seen own2.seen → list_any lacks_room served ≡ false → HasRoom own2 → AllHaveRoom passes history
  room_left number begins none own k few = elim (cases_order k last) [
    | inl same ↦ rw (ap (λ (n : ℕ). of_pass n history) same ∙ last_own table moments start passes before served own0 own1 own2 history new all went saw learned names seen number begins) own
    | inr differs ↦ elim differs [
      | inl less ↦ worker_left number begins none k less
      | inr more ↦
          let are = passes_are table moments start passes before served own0 own1 own2 history new all went saw learned names seen number begins in
          absurd (omega (arith, few, more, are))
    ]
  ]

  -- all was drained
  drained_whole : (now count : ℕ) → DrainsWhole start passes now count own1 own2 → IsDrained d.image told disks (replay start history)
  drained_whole now count made =
      let e = made.enters in
      let stood : own2.seen ≡ own1.seen ++ made.made =
      alone table moments start passes before served own0 own1 own2 history new all went saw learned names seen e.number e.begins made.made e.once in
      let same : history ≡ own2.seen = whole table moments start passes before served own0 own1 own2 history new all went saw learned names seen e.number e.begins in
      let state : replay start history ≡ replay (replay start own1.seen) made.made =
      ap (replay start) (same ∙ stood) ∙ replay-append start own1.seen made.made in
      let settled : (k : ℕ) (disk : D) → slice_get disks k ≡ Some disk → HasSettled k history (served ++ own2 ∷ []) = λ k disk at.
      let few : k < 16 = omega (arith, sixteen, slice_get_within disks k disk at) in
      let wrote = made.written stood k few in record {
        place = last;
        pass = own2;
        there = slice_last served own2;
        all = subst (λ (es : List Entry). drains (about_class k es) ≤ settled_in k own2) (sym same) (omega (arith, wrote.all, wrote.settled));
      } in record {
        none = λ class few.
            subst (λ (s : State). s.pending class ≡ []) (sym state)
            (none_pending (replay start own1.seen) own1.number now made.made (made.alone stood) class few);
        stand = λ k.
            stands_each (slice_get disks k) _ (λ disk at.
            ends_alone d told start earlier (served ++ own2 ∷ []) history k disk (settled k disk at) (each k disk at));
        shut = λ k.
            stands_each (slice_get disks k) _ (λ disk at.
            let ends = each k disk at in ends.shut (ends.whole (settled k disk at)));
      }

  -- the disk of a class failed
  fault_last : (now class : ℕ) → DrainsToFault start passes now class own1 own2 → EndsByFault d earlier passes class history disks
  fault_last now class fails =
      let e = fails.enters in
      let number : own2.number ≡ own1.number = e.number in
      let begins : IsPrefix own1.seen own2.seen = e.begins in
      let fault : List Entry = entry.Fault own1.number class ∷ [] in
      let stood : own2.seen ≡ own1.seen ++ (fails.made ++ fault) =
      alone table moments start passes before served own0 own1 own2 history new all went saw learned names seen number begins (fails.made ++ fault) e.once in
      let same : history ≡ own2.seen = whole table moments start passes before served own0 own1 own2 history new all went saw learned names seen number begins in
      let first : List Entry = own1.seen ++ fails.made in
      let ended : history ≡ first ++ fault = same ∙ (stood ∙ sym (append_assoc own1.seen fails.made fault)) in
      let some : 1 ≤ count_by is_fault (about_class class history) =
      subst (λ (es : List Entry). 1 ≤ count_by is_fault (about_class class es)) (sym ended) (some_fault own1.number class first) in
      let place : own2.number ≡ last = last_number table moments start passes before served own0 own1 own2 history new all went saw learned names seen number begins in
      let are = passes_are table moments start passes before served own0 own1 own2 history new all went saw learned names seen number begins in record {
        pass = own1.number;
        is = omega (arith, are, place, number);
        before = first;
        last = ended;
        cause = rose_at d earlier class (count_by is_fault (about_class class history)) (slice_get disks class)
            (stands_each (slice_get disks class) _ (λ disk at. (each class disk at).faults))
            (there_below disks class (omega (arith, sixteen, fails.within))) some;
      }

  -- memory ran out
  short_last : (now : ℕ) → DrainsPartly start passes now own1 own2 → EndsShort passes history
  short_last now part =
      let e = part.enters in
      let are = passes_are table moments start passes before served own0 own1 own2 history new all went saw learned names seen e.number e.begins in
      let none : own_entries own1 ≡ [] =
      own_none table moments start passes before served own0 own1 own2 history new all went saw learned names seen e.number e.begins in
      let mine : of_pass last history ≡ part.made =
      last_own table moments start passes before served own0 own1 own2 history new all went saw learned names seen e.number e.begins
      ∙ (e.once ∙ ap (λ (es : List Entry). es ++ part.made) none) in record {
        pass = last;
        is = are;
        drains = subst (All IsDrain) (sym mine) (rise_drains own1.number now 0 16 part.made part.rise);
      }

  -- what stands at each end of the drain
  ends_drained : (now : ℕ) (end : DrainEnd) → list_any lacks_room served ≡ false → DrainsTo start passes now end own1 own2 → EndsServed d told start earlier passes end history disks
  ends_drained now (Done count) none drains =
      let e = drains.0.enters in (drained_whole now count drains.0, room_left e.number e.begins none drains.1)
  ends_drained now (DiskFault class) none drains =
      let e = drains.enters in (fault_last now class drains, workers_room e.number e.begins none)
  ends_drained now Spent none drains =
      let e = drains.0.enters in inr (workers_room e.number e.begins none, (short_last now drains.0, spent_own e.number e.begins drains.1))
  ends_drained now NoMemory none drains =
      let e = drains.0.enters in (short_last now drains.0, room_left e.number e.begins none drains.1)

  pub ends_served : (spent : Bool) (end : DrainEnd) → spent ≡ list_any lacks_room served → Finishes moments start passes spent end own1 own2 → EndsServed d told start earlier passes end history disks
  ends_served true end is finishes =
      let done = finished moments start passes true end own1 own2 finishes in
      subst (λ (e : DrainEnd). EndsServed d told start earlier passes e history disks) (sym finishes.0)
      (inl (worker_spent done.number done.begins (sym is), undrained done.number done.begins finishes.1))
  ends_served false end is finishes = ends_drained finishes.0 end (sym is) finishes.1.1

  -- whether a worker's pass lacks room
  tells_spent : (spent : Bool) → spent ≡ list_any lacks_room served → (number : own2.number ≡ own1.number) → IsPrefix own1.seen own2.seen → TellsSpent passes history spent
  tells_spent true is number begins = worker_spent number begins (sym is)
  tells_spent false is number begins = workers_room number begins (sym is)

  -- what the crew's own pass made
  pub last_course : (spent : Bool) (end : DrainEnd) → spent ≡ list_any lacks_room served → Finishes moments start passes spent end own1 own2
      → LastCourse (record { moments = moments; told = told; start = start; passes = passes }) end history
  last_course spent end is finishes =
      let done = finished moments start passes spent end own1 own2 finishes in
      let are = passes_are table moments start passes before served own0 own1 own2 history new all went saw learned names seen done.number done.begins in
      let place : own2.number ≡ last = last_number table moments start passes before served own0 own1 own2 history new all went saw learned names seen done.number done.begins in
      let none : own_entries own1 ≡ [] = own_none table moments start passes before served own0 own1 own2 history new all went saw learned names seen done.number done.begins in
      let same : history ≡ own2.seen = whole table moments start passes before served own0 own1 own2 history new all went saw learned names seen done.number done.begins in
      let mine : own_entries own2 ≡ done.made = done.once ∙ ap (λ (es : List Entry). es ++ done.made) none in
      let stood : own2.seen ≡ own1.seen ++ done.made =
      alone table moments start passes before served own0 own1 own2 history new all went saw learned names seen done.number done.begins done.made done.once in record {
        before = own1;
        after = own2;
        last = omega (arith, place, are);
        none = none;
        others = λ k few.
            others_before table moments start passes before served own0 own1 own2 history new all went saw learned names seen done.number done.begins k (omega (arith, few, are));
        is_spent = spent;
        spent = tells_spent spent is done.number done.begins;
        finishes = finishes;
        whole = same;
        alone = same ∙ (stood ∙ ap (λ (es : List Entry). own1.seen ++ es) (sym mine));
      }

-- a store that was closed by all passes of a crew
pub serves : {D L : Type 0} (d : Ghosts D) (table : TableId) (links : Telling L) (w : Origin) (duties : Duties) (earlier : ℕ → ℕ) (before served : List PassValue)
    (own0 own1 own2 : PassValue) (spent : Bool) (end : DrainEnd) (closing : List PassValue) (closed : Closed D)
    → AreNewPasses table (before ++ own0 ∷ []) → length (before ++ own0 ∷ []) ≡ w.passes → AllWent w.moments w.start before served → AllDid links w duties before served → OnlySaw own0 own1 → HasLearned own1 served
    → spent ≡ list_any lacks_room served → Finishes w.moments w.start w.passes spent end own1 own2 → closing ≡ served ++ own2 ∷ [] → Closes d w.passes w.told w.start earlier closing closed
    → Serves d (record { moments = w.moments; links = links; duties = duties; passes = w.passes }) w.told w.start earlier end closed.history closed.disks.items
serves {D} d table links w duties earlier before served own0 own1 own2 spent end closing closed new all went did saw learned is finishes same closes =
    let moments : ℕ → Type 0 = w.moments in
    let told : ℕ → Option Image = w.told in
    let start : State = w.start in
    let passes : ℕ = w.passes in
    let history : List Entry = closed.history in
    let disks : List D = closed.disks.items in
    let done = finished moments start passes spent end own1 own2 finishes in
    let seen : AllSeen history (served ++ own2 ∷ []) = subst (λ (ps : List PassValue). AllSeen history ps) same closes.seen in
    let each : (k : ℕ) (disk : D) → slice_get disks k ≡ Some disk → EndsAs d told start earlier (served ++ own2 ∷ []) history k disk = λ k disk at.
    subst (λ (ps : List PassValue). EndsAs d told start earlier ps history k disk) same (closes.disks k disk at) in
    let none : own_entries own1 ≡ [] = own_none table moments start passes before served own0 own1 own2 history new all went saw learned closes.names seen done.number done.begins in
    let mine : own_entries own2 ≡ done.made = done.once ∙ ap (λ (es : List Entry). es ++ done.made) none in
    let are = passes_are table moments start passes before served own0 own1 own2 history new all went saw learned closes.names seen done.number done.begins in record {
      ends = ends_served d table moments told start earlier passes before served own0 own1 own2 history disks new all went saw learned closes.names seen each closes.sixteen spent end is finishes;
      legal = closes.legal;
      names = closes.names;
      timed = timed table moments start passes before served own0 own1 own2 history new all went saw learned closes.names seen done.number done.begins
          (subst (All (HasMoment moments)) (sym mine) done.told);
      courses = courses links w duties table before served own0 own2 history new went did seen are;
      last = last_course d table moments told start earlier passes before served own0 own1 own2 history disks new all went saw learned closes.names seen each closes.sixteen spent end is finishes;
      stand = λ k disk at. ends_anyhow d told start earlier closing history k disk (closes.disks k disk at);
      sixteen = closes.sixteen;
    }
