-- Runs of calls of a shard whose drains go through the log, and what a crash leaves at their moments.
use Rattle.std.proofs.Common.{◌≡◌, ◌∙◌, inl, inr, ⊎_elim, ℕ, ◌+◌, ◌≤◌, true, List, [], ◌∷◌, ◌++◌, Option, Some, None, IfSome, refl, sym, ap, subst, arith, append_assoc, append-nil}
use Rattle.std.specs.Prelude.{◌⊎◌, IsSome}
use Rattle.outside_io.specs.Frames.{ReadsOnly}
use Rattle.outside_io.specs.Image.{Image}
use Rattle.outside_io.specs.declared.disk.Disk.{Ghosts}
use Rattle.outside_io.proofs.FrameLemmas.{reads_only_crashes}
use Rattle.write_shelf.specs.Shelf.{DrainValue}
use Rattle.redo_log.specs.Rows.{MayLeave}
use Rattle.redo_log.specs.Steps.{RedoValue}
use Rattle.carbon_history.specs.Entries.{drains}
use Rattle.carbon_history.specs.declared.entry.Entry.{Entry}
use Rattle.carbon_model.specs.RingFiles.{Settings}
use Rattle.carbon_model.specs.State.{Kept, State}
use Rattle.shard_core.specs.Shard.{Holds, Inside}
use Rattle.shard_core.specs.Started.{KeepsLaidOut}
use Rattle.shard_core.specs.Steps.{plan_entries, write_entries}
use Rattle.shard_core.specs.Table.{Table}
use Rattle.shard_core.specs.View.{inside_of}
use Rattle.shard_core.specs.Work.{WorkValue}
use Rattle.shard_core.specs.Writes.{WritesTo}
use Rattle.shard_core.specs.declared.planned.Planned.{Planned}
use Rattle.shard_core.specs.declared.planned.Planned.TheVariants as planned
use Rattle.shard_core.specs.declared.planned.Wrote.{Wrote}
use Rattle.shard_core.specs.declared.planned.Wrote.TheVariants as wrote
use Rattle.shard_core.specs.declared.shard.Shard.{Shard}
use Rattle.shard_core.proofs.LawLemmas.{started_holds}
use Rattle.crash_law.specs.Calls.{Call, Made, MadeAll, MadePlan, MadeWrite, Plans, Puts, Reads, Writes, entries_of_call, entries_of_calls}
use Rattle.crash_law.specs.Fronts.{StartsAsFront, StartsLogged, unsettled}
use Rattle.crash_law.proofs.FrontLemmas.{front_before, front_of_more}
use Rattle.crash_law.proofs.RunLemmas.{IsOn, on_plan, on_put, on_read, on_row, on_starts, one_low}
use Rattle.crash_law.proofs.WriteLemmas.{on_rows, on_write, some_is}

-- ---- the drain that is being written

zero_low : 0 ≤ 1
zero_low = omega arith

unsettled_low : (shelf : Option DrainValue) → unsettled shelf ≤ 1
unsettled_low None = zero_low
unsettled_low (Some drain) = one_low

some_unsettled : (shelf : Option DrainValue) → IsSome shelf → unsettled shelf ≡ 1
some_unsettled None some = absurd cc
some_unsettled (Some drain) some = refl

le_left : (n u : ℕ) → u ≤ n + u
le_left n u = omega arith

same_shelf : (old new : Option DrainValue) (n : ℕ) → new ≡ old → unsettled new ≤ n + unsettled old
same_shelf old new n same = subst (λ (shelf : Option DrainValue). unsettled shelf ≤ n + unsettled old) (sym same) (le_left n (unsettled old))

from_one : (a b n : ℕ) → a ≤ 1 → b ≡ 1 → a ≤ n + b
from_one a b n low one = omega (arith, low, one)

from_drain : (a b : ℕ) → a ≤ 1 → a ≤ 1 + b
from_drain a b low = omega (arith, low)

plan_unsettled : {D : Type 0} {d : Ghosts D} (pass class now : ℕ) (plan : Planned) (old new : Shard D d) → MadePlan now plan old new → unsettled new.files.work.shelf ≤ drains (plan_entries pass class now plan) + unsettled old.files.work.shelf
plan_unsettled pass class now (planned.Took path) old new made = from_drain (unsettled new.files.work.shelf) (unsettled old.files.work.shelf) (unsettled_low new.files.work.shelf)
plan_unsettled pass class now planned.Busy old new made = same_shelf old.files.work.shelf new.files.work.shelf 0 (ap (λ (i : Inside). i.shelf) made.plans.1)
plan_unsettled pass class now planned.Idle old new made = same_shelf old.files.work.shelf new.files.work.shelf 0 (ap (λ (i : Inside). i.shelf) made.plans.1.1)
plan_unsettled pass class now planned.DiskFault old new made = same_shelf old.files.work.shelf new.files.work.shelf 0 made.plans.shelf
plan_unsettled pass class now planned.NoMemory old new made = same_shelf old.files.work.shelf new.files.work.shelf 0 made.plans.shelf

write_unsettled : (end : Wrote) (old new : Inside) (n : ℕ) → WritesTo end old new → unsettled new.shelf ≤ n + unsettled old.shelf
write_unsettled wrote.Run old new n writes = from_one (unsettled new.shelf) (unsettled old.shelf) n (unsettled_low new.shelf) (some_unsettled old.shelf writes.0.some)
write_unsettled wrote.Finished old new n writes = from_one (unsettled new.shelf) (unsettled old.shelf) n (unsettled_low new.shelf) (some_unsettled old.shelf writes.0.some)
write_unsettled wrote.Nothing old new n writes = same_shelf old.shelf new.shelf n (ap (λ (i : Inside). i.shelf) writes.1)
write_unsettled wrote.DiskFault old new n writes = same_shelf old.shelf new.shelf n writes.shelf

-- a drain that begins in a call is one of its entries
call_unsettled : {D : Type 0} {d : Ghosts D} (pass class : ℕ) (call : Call) (old new : Shard D d) → Made call old new → unsettled new.files.work.shelf ≤ drains (entries_of_call pass class call) + unsettled old.files.work.shelf
call_unsettled pass class (Puts path time value end) old new made = same_shelf old.files.work.shelf new.files.work.shelf (drains (entries_of_call pass class (Puts path time value end))) (ap (λ (w : WorkValue). w.shelf) made.others.work)
call_unsettled pass class (Plans now plan) old new made = plan_unsettled pass class now plan old new made
call_unsettled pass class (Writes end) old new made = write_unsettled end (inside_of old) (inside_of new) (drains (write_entries pass class end)) made.writes
call_unsettled pass class (Reads answer) old new made = same_shelf old.files.work.shelf new.files.work.shelf 0 (ap (λ (i : Inside). i.shelf) made.same)

-- ---- a call

on_call : {D : Type 0} {d : Ghosts D} (pass class : ℕ) (told : Image) (s : State) (entries : List Entry) (call : Call) (old new : Shard D d) → Made call old new → IsOn class told s entries old → IsOn class told s (entries ++ entries_of_call pass class call) new
on_call pass class told s entries (Puts path time value end) old new made on = on_put pass class told s entries path time value end old new made on
on_call pass class told s entries (Plans now plan) old new made on = on_plan pass class told s entries now plan old new made on
on_call pass class told s entries (Writes end) old new made on = on_write pass class told s entries end old new made on
on_call pass class told s entries (Reads answer) old new made on = on_read class told s entries answer old new made on

-- what a crash since an earlier moment leaves: what it might have left before the call, or a front
reads_within : {D : Type 0} {d : Ghosts D} (old new : D) (t : ℕ) (left : Image) {failed : Type 0} → ReadsOnly d old new failed → d.left_since new t left → d.left_since old t left
reads_within old new t left frame since = (reads_only_crashes old new frame).since t left since

rows_within : {D : Type 0} {d : Ghosts D} (pass class : ℕ) (told : Image) (s : State) (entries : List Entry) (end : Wrote) (old new : Shard D d) → MadeWrite end old new → IsOn class told s entries old → (t : ℕ) (left : Image)
    → t ≤ d.moment old.files.disk → d.left_since new.files.disk t left → d.left_since old.files.disk t left ⊎ StartsAsFront class told s entries (entries ++ write_entries pass class end) old.files.work.shelf left
rows_within {D} {d} pass class told s entries end old new made on t left le since =
    let rows = on_rows class told s entries end old new made on in
    let on' = on_write pass class told s entries end old new made on in
    ⊎_elim (λ was. inl was) (λ either. inr (⊎_elim
    (λ before. front_of_more class told s entries entries (write_entries pass class end) old.files.work.shelf left (on_row class told s entries old on left before))
    (λ behind. front_before class told s entries (write_entries pass class end) (entries ++ write_entries pass class end) old.files.work.shelf new.files.work.shelf left
    (write_unsettled end (inside_of old) (inside_of new) (drains (write_entries pass class end)) made.writes)
    (on_row class told s (entries ++ write_entries pass class end) new on' left (subst (λ (r : Option RedoValue). IfSome (d.image new.files.disk) (λ now. MayLeave r now left)) (some_is rows.0 on'.redo (sym rows.1.0 ∙ on'.log)) behind))) either))
    (rows.1.1.leaves.before t left le since)

call_within : {D : Type 0} {d : Ghosts D} (pass class : ℕ) (told : Image) (s : State) (entries : List Entry) (call : Call) (old new : Shard D d) → Made call old new → IsOn class told s entries old → (t : ℕ) (left : Image)
    → t ≤ d.moment old.files.disk → d.left_since new.files.disk t left → d.left_since old.files.disk t left ⊎ StartsAsFront class told s entries (entries ++ entries_of_call pass class call) old.files.work.shelf left
call_within {D} {d} pass class told s entries (Puts path time value end) old new made on t left le since = inl (subst (λ (disk : D). d.left_since disk t left) made.others.disk since)
call_within pass class told s entries (Plans now plan) old new made on t left le since = inl (reads_within old.files.disk new.files.disk t left made.frame since)
call_within pass class told s entries (Writes end) old new made on t left le since = rows_within pass class told s entries end old new made on t left le since
call_within pass class told s entries (Reads answer) old new made on t left le since = inl (reads_within old.files.disk new.files.disk t left made.frame since)

-- no moment comes before one that was
le_then : (t a b : ℕ) → t ≤ a → a ≤ b → t ≤ b
le_then t a b first second = omega (arith, first, second)

le_is : (t a b : ℕ) → t ≤ a → b ≡ a → t ≤ b
le_is t a b first same = omega (arith, first, same)

call_later : {D : Type 0} {d : Ghosts D} (class : ℕ) (told : Image) (s : State) (entries : List Entry) (call : Call) (old new : Shard D d) → Made call old new → IsOn class told s entries old → (t : ℕ) → t ≤ d.moment old.files.disk → t ≤ d.moment new.files.disk
call_later {D} {d} class told s entries (Puts path time value end) old new made on t le = subst (λ (disk : D). t ≤ d.moment disk) (sym made.others.disk) le
call_later {D} {d} class told s entries (Plans now plan) old new made on t le = le_is t (d.moment old.files.disk) (d.moment new.files.disk) le (reads_only_crashes old.files.disk new.files.disk made.frame).moment
call_later {D} {d} class told s entries (Writes end) old new made on t le = le_then t (d.moment old.files.disk) (d.moment new.files.disk) le (on_rows class told s entries end old new made on).1.1.leaves.later
call_later {D} {d} class told s entries (Reads answer) old new made on t le = le_is t (d.moment old.files.disk) (d.moment new.files.disk) le (reads_only_crashes old.files.disk new.files.disk made.frame).moment

-- ---- all calls

on_all : {D : Type 0} {d : Ghosts D} (pass class : ℕ) (told : Image) (s : State) (entries : List Entry) (calls : List Call) (old now : Shard D d) → MadeAll calls old now → IsOn class told s entries old → IsOn class told s (entries ++ entries_of_calls pass class calls) now
on_all {D} {d} pass class told s entries [] old now made on =
    subst (λ (shard : Shard D d). IsOn class told s (entries ++ []) shard) (sym made) (subst (λ (xs : List Entry). IsOn class told s xs old) (sym (append-nil entries)) on)
on_all {D} {d} pass class told s entries (call ∷ calls) old now made on =
    subst (λ (xs : List Entry). IsOn class told s xs now) (append_assoc entries (entries_of_call pass class call) (entries_of_calls pass class calls))
    (on_all pass class told s (entries ++ entries_of_call pass class call) calls made.0 now made.1.1 (on_call pass class told s entries call old made.0 made.1.0 on))

all_within : {D : Type 0} {d : Ghosts D} (pass class : ℕ) (told : Image) (s : State) (entries : List Entry) (calls : List Call) (old now : Shard D d) → MadeAll calls old now → IsOn class told s entries old → (t : ℕ) (left : Image)
    → t ≤ d.moment old.files.disk → d.left_since now.files.disk t left → d.left_since old.files.disk t left ⊎ StartsAsFront class told s entries (entries ++ entries_of_calls pass class calls) old.files.work.shelf left
all_within {D} {d} pass class told s entries [] old now made on t left le since = inl (subst (λ (shard : Shard D d). d.left_since shard.files.disk t left) made since)
all_within {D} {d} pass class told s entries (call ∷ calls) old now made on t left le since =
    let mid = made.0 in
    let more = entries_of_call pass class call in
    let rest = entries_of_calls pass class calls in
    let on' = on_call pass class told s entries call old mid made.1.0 on in
    let lists : (entries ++ more) ++ rest ≡ entries ++ (more ++ rest) = append_assoc entries more rest in
    ⊎_elim
    (λ was. ⊎_elim (λ before. inl before)
    (λ front. inr (subst (λ (xs : List Entry). StartsAsFront class told s entries xs old.files.work.shelf left) lists (front_of_more class told s entries (entries ++ more) rest old.files.work.shelf left front)))
    (call_within pass class told s entries call old mid made.1.0 on t left le was))
    (λ front. inr (front_before class told s entries more (entries ++ (more ++ rest)) old.files.work.shelf mid.files.work.shelf left (call_unsettled pass class call old mid made.1.0)
    (subst (λ (xs : List Entry). StartsAsFront class told s (entries ++ more) xs mid.files.work.shelf left) lists front)))
    (all_within pass class told s (entries ++ more) calls mid now made.1.1 on' t left (call_later class told s entries call old mid made.1.0 on t le) since)

two_runs : (pass class : ℕ) (before after : List Call) → entries_of_calls pass class (before ++ after) ≡ entries_of_calls pass class before ++ entries_of_calls pass class after
two_runs pass class [] after = refl
two_runs pass class (call ∷ before) after =
    ap (λ (xs : List Entry). entries_of_call pass class call ++ xs) (two_runs pass class before after) ∙ sym (append_assoc (entries_of_call pass class call) (entries_of_calls pass class before) (entries_of_calls pass class after))

-- ---- from the start

laid_out : (class : ℕ) (known : Option Image) (opening : Image) (table : Table) (kept : List ℕ → Option Kept) → known ≡ Some opening → KeepsLaidOut class known table kept
laid_out class known opening table kept is = subst (λ (o : Option Image). KeepsLaidOut class o table kept) (sym is) tt

on_start : {D : Type 0} {d : Ghosts D} (class : ℕ) (settings : Settings) (told : ℕ → Option Image) (opening : Image) (s : State) (disk : D) (start : Shard D d) → StartsLogged class settings told opening s disk start → IsOn class opening s [] start
on_start {D} {d} class settings told opening s disk start is = record {
  redo = None;
  log = ap (λ (w : WorkValue). w.log) is.started.empty;
  shelf = ap (λ (w : WorkValue). w.shelf) is.started.empty;
  some = tt;
  here = is.started.here;
  holds = subst (λ (o : Option Image). Holds o (inside_of start) s) is.told_here
      (started_holds class settings true told s disk start is.started is.opens (is.known ∙ sym is.told_here) (laid_out class (told class) opening start.desk.table s.kept is.told_here));
  row = is.started.crash.behind refl (inl refl);
  early = λ early. absurd cc;
}

le_itself : (n : ℕ) → n ≤ n
le_itself n = omega arith

pub crash_fronts : {D : Type 0} {d : Ghosts D} (class pass : ℕ) (settings : Settings) (told : ℕ → Option Image) (opening : Image) (s : State) (disk : D) (start mid now : Shard D d) (before after : List Call) (left : Image)
    → StartsLogged class settings told opening s disk start → MadeAll before start mid → MadeAll after mid now → d.left_since now.files.disk (d.moment mid.files.disk) left
    → StartsAsFront class opening s (entries_of_calls pass class before) (entries_of_calls pass class (before ++ after)) mid.files.work.shelf left
crash_fronts {D} {d} class pass settings told opening s disk start mid now before after left is first second since =
    let earlier = entries_of_calls pass class before in
    let on : IsOn class opening s earlier mid = on_all pass class opening s [] before start mid first (on_start class settings told opening s disk start is) in
    subst (λ (xs : List Entry). StartsAsFront class opening s earlier xs mid.files.work.shelf left) (sym (two_runs pass class before after))
    (⊎_elim
    (λ was. front_of_more class opening s earlier earlier (entries_of_calls pass class after) mid.files.work.shelf left (on_starts class opening s earlier mid on left (d.only_now mid.files.disk left was)))
    (λ front. front)
    (all_within pass class opening s earlier after mid now second on (d.moment mid.files.disk) left (le_itself (d.moment mid.files.disk)) since))

-- behind the last call what is read is one of the images that a crash may leave
pub kill_fronts : {D : Type 0} {d : Ghosts D} (class pass : ℕ) (settings : Settings) (told : ℕ → Option Image) (opening : Image) (s : State) (disk : D) (start now : Shard D d) (calls : List Call) (left : Image)
    → StartsLogged class settings told opening s disk start → MadeAll calls start now → d.image now.files.disk ≡ Some left
    → StartsAsFront class opening s (entries_of_calls pass class calls) (entries_of_calls pass class calls) now.files.work.shelf left
kill_fronts {D} {d} class pass settings told opening s disk start now calls left is made known =
    let may : d.may_leave now.files.disk left = d.as_it_reads now.files.disk left left known (λ name. refl) in
    let since : d.left_since now.files.disk (d.moment now.files.disk) left = d.counts_now now.files.disk (d.moment now.files.disk) left (le_itself (d.moment now.files.disk)) may in
    subst (λ (all : List Call). StartsAsFront class opening s (entries_of_calls pass class calls) (entries_of_calls pass class all) now.files.work.shelf left) (append-nil calls)
    (crash_fronts class pass settings told opening s disk start now now calls [] left is made refl since)
