-- What calls of a store make a worker do, link by link or step by step.
use Rattle.std.proofs.Common.{◌≡◌, ◌∙◌, ℕ, List, [], ◌∷◌, ◌++◌, refl, sym, ap, subst, append-nil, append_assoc}
use Rattle.std.specs.Prelude.{All}
use Rattle.std.proofs.lemmas.List.Elements.{All-append, All-cons, All-nil}
use Rattle.carbon_history.specs.Entries.{listed}
use Rattle.carbon_history.specs.declared.entry.Entry.{Entry}
use Rattle.carbon_history.specs.declared.entry.Entry.TheVariants as entry
use Rattle.carbon_model.specs.State.{State}
use Rattle.shard_core.specs.declared.planned.Wrote.{Wrote}
use Rattle.shard_core.specs.declared.planned.Wrote.TheVariants as wrote
use Rattle.shared_history.specs.Parts.{PassValue, own_entries}
use Rattle.shared_store.specs.Passes.{Enters}
use Rattle.shared_store.specs.Steps.{StepsTo, write_entry}
use Rattle.shared_store.specs.declared.step.Step.{Step}
use Rattle.shared_store.specs.declared.step.Step.TheVariants as step
use Rattle.http_front.specs.Origin.{Caller, Origin, caller_of}
use Rattle.carbon_serve.specs.Deeds.{Drains, DrainsOnly, DrawsOn, InTurn, IsOfDrainer, ReceivesFrom, RendersFrom, ServesHttpLink, ServesHttpOf, ServesLineLink, ServesLineOf, Telling}

-- ---- links

-- one more was served behind these
turn_more : {X S : Type 0} (serves : X → S → S → Type 0) (xs : List X) (x : X) (a b c : S) → InTurn serves xs a b → serves x b c → InTurn serves (xs ++ x ∷ []) a c
turn_more {X} {S} serves [] x a b c same one = (c, (subst (λ (at : S). serves x at c) same one, refl))
turn_more serves (y ∷ xs) x a b c all one = (all.0, (all.1.0, turn_more serves xs x all.0 b c all.1.1 one))

pub receives_none : {L : Type 0} (links : Telling L) (w : Origin) (who : Caller) → ReceivesFrom links w who who
receives_none links w who = ([], refl)

pub receives_more : {L : Type 0} (links : Telling L) (w : Origin) (before : L) (a b c : Caller) → ReceivesFrom links w a b → ServesLineOf links w before b c → ReceivesFrom links w a c
receives_more links w before a b c served one =
    (served.0 ++ one.0 ∷ [], turn_more (ServesLineLink links w) served.0 one.0 a b c served.1 one.1.1)

pub renders_none : {L : Type 0} (links : Telling L) (w : Origin) (who : Caller) → RendersFrom links w who who
renders_none links w who = ([], refl)

pub renders_more : {L : Type 0} (links : Telling L) (w : Origin) (before : L) (a b c : Caller) → RendersFrom links w a b → ServesHttpOf links w before b c → RendersFrom links w a c
renders_more links w before a b c served one =
    (served.0 ++ one.0 ∷ [], turn_more (ServesHttpLink links w) served.0 one.0 a b c served.1 one.1.1)

-- ---- drainers

-- who drains by a watch that had told nothing
pub drains_by : (moments : ℕ → Type 0) (old new : PassValue) (first told : List ℕ) → first ≡ [] → DrainsOnly moments (caller_of old first) (caller_of new told) → Drains moments old new
drains_by moments old new first told none only = (told, subst (λ (readings : List ℕ). DrainsOnly moments (caller_of old readings) (caller_of new told)) none only)

-- readings before those that drains are at
draws_behind : (entries : List Entry) (before readings : List ℕ) → DrawsOn entries readings → DrawsOn entries (before ++ readings)
draws_behind [] before readings draws = tt
draws_behind (entry.Drain pass path now ∷ entries) before readings draws =
    (before ++ draws.0, draws.1, (ap (λ (all : List ℕ). before ++ all) draws.2.0 ∙ sym (append_assoc before draws.0 (now ∷ draws.1)), draws.2.1))
draws_behind (entry.Put pass path time value end ∷ entries) before readings draws = draws_behind entries before readings draws
draws_behind (entry.Ask pass number try now ∷ entries) before readings draws = draws_behind entries before readings draws
draws_behind (entry.Fault pass class ∷ entries) before readings draws = draws_behind entries before readings draws

-- one list of drains, and another one behind it
draws_both : (first next : List Entry) (before readings : List ℕ) → DrawsOn first before → DrawsOn next readings → DrawsOn (first ++ next) (before ++ readings)
draws_both [] next before readings one two = draws_behind next before readings two
draws_both (entry.Drain pass path now ∷ first) next before readings one two =
    (one.0, one.1 ++ readings, (ap (λ (all : List ℕ). all ++ readings) one.2.0 ∙ append_assoc one.0 (now ∷ one.1) readings, draws_both first next one.1 readings one.2.1 two))
draws_both (entry.Put pass path time value end ∷ first) next before readings one two = draws_both first next before readings one two
draws_both (entry.Ask pass number try now ∷ first) next before readings one two = draws_both first next before readings one two
draws_both (entry.Fault pass class ∷ first) next before readings one two = draws_both first next before readings one two

-- who does nothing
pub only_same : (moments : ℕ → Type 0) (who : Caller) → DrainsOnly moments who who
only_same moments who = record {
  number = refl;
  entries = [];
  once = sym (append-nil (own_entries who.pass));
  each = All-nil (IsOfDrainer moments who.pass.number);
  readings = [];
  told = sym (append-nil who.told);
  draws = tt;
}

-- who reads the clock alone
pub reads_only : (moments : ℕ → Type 0) (pass : PassValue) (told told' : List ℕ) (now : ℕ) → told' ≡ told ++ now ∷ [] → DrainsOnly moments (caller_of pass told) (caller_of pass told')
reads_only moments pass told told' now reads = record {
  number = refl;
  entries = [];
  once = sym (append-nil (own_entries pass));
  each = All-nil (IsOfDrainer moments pass.number);
  readings = now ∷ [];
  told = reads;
  draws = tt;
}

-- and then on again
-- nothing was entered while the clock was read
pub only_read : (moments : ℕ → Type 0) (pass : PassValue) (old new readings : List ℕ) → new ≡ old ++ readings → DrainsOnly moments (caller_of pass old) (caller_of pass new)
only_read moments pass old new readings told = record {
  number = refl;
  entries = [];
  once = sym (append-nil (own_entries pass));
  each = All-nil (IsOfDrainer moments pass.number);
  readings = readings;
  told = told;
  draws = tt;
}

pub only_then : (moments : ℕ → Type 0) (a b c : Caller) → DrainsOnly moments a b → DrainsOnly moments b c → DrainsOnly moments a c
only_then moments a b c first next = record {
  number = next.number ∙ first.number;
  entries = first.entries ++ next.entries;
  once = next.once ∙ (ap (λ (es : List Entry). es ++ next.entries) first.once ∙ append_assoc (own_entries a.pass) first.entries next.entries);
  each = All-append (IsOfDrainer moments a.pass.number) first.entries next.entries first.each
      (subst (λ (number : ℕ). All (IsOfDrainer moments number) next.entries) first.number next.each);
  readings = first.readings ++ next.readings;
  told = next.told ∙ (ap (λ (all : List ℕ). all ++ next.readings) first.told ∙ append_assoc a.told first.readings next.readings);
  draws = draws_both first.entries next.entries first.readings next.readings first.draws next.draws;
}

-- an entry of a step, at a moment for which the clock was read
one_only : (moments : ℕ → Type 0) (start : State) (passes : ℕ) (e : Entry) (old new : PassValue) (told told' readings : List ℕ) → Enters start passes (e ∷ []) old new → IsOfDrainer moments old.number e
    → told' ≡ told ++ readings → DrawsOn (e ∷ []) readings → DrainsOnly moments (caller_of old told) (caller_of new told')
one_only moments start passes e old new told told' readings enters is reads draws = record {
  number = enters.number;
  entries = e ∷ [];
  once = enters.once;
  each = All-cons (IsOfDrainer moments old.number) e [] is (All-nil (IsOfDrainer moments old.number));
  readings = readings;
  told = reads;
  draws = draws;
}

-- no entry
none_only : (moments : ℕ → Type 0) (start : State) (passes : ℕ) (old new : PassValue) (told told' readings : List ℕ) → Enters start passes [] old new → told' ≡ told ++ readings
    → DrainsOnly moments (caller_of old told) (caller_of new told')
none_only moments start passes old new told told' readings enters reads = record {
  number = enters.number;
  entries = [];
  once = enters.once;
  each = All-nil (IsOfDrainer moments old.number);
  readings = readings;
  told = reads;
  draws = tt;
}

pub sees_only : (moments : ℕ → Type 0) (start : State) (passes : ℕ) (old new : PassValue) (told : List ℕ) → Enters start passes [] old new → DrainsOnly moments (caller_of old told) (caller_of new told)
sees_only moments start passes old new told enters = none_only moments start passes old new told told [] enters (sym (append-nil told))

-- a step of draining at a moment for which the clock was read
pub step_only : (moments : ℕ → Type 0) (start : State) (passes class now : ℕ) (came : Step) (old new : PassValue) (told told' : List ℕ) → moments now → told' ≡ told ++ now ∷ []
    → StepsTo start passes class now came old new → DrainsOnly moments (caller_of old told) (caller_of new told')
step_only moments start passes class now step.Took old new told told' is reads steps =
    one_only moments start passes (entry.Drain old.number steps.path now) old new told told' (now ∷ []) steps.enters (refl, is) reads ([], [], (refl, tt))
step_only moments start passes class now step.Wrote old new told told' is reads steps = none_only moments start passes old new told told' (now ∷ []) steps.0 reads
step_only moments start passes class now step.Finished old new told told' is reads steps = none_only moments start passes old new told told' (now ∷ []) steps.0 reads
step_only moments start passes class now step.Idle old new told told' is reads steps = none_only moments start passes old new told told' (now ∷ []) steps.0 reads
step_only moments start passes class now step.DiskFault old new told told' is reads steps =
    one_only moments start passes (entry.Fault old.number class) old new told told' (now ∷ []) steps.0 refl reads tt
step_only moments start passes class now step.NoMemory old new told told' is reads steps = none_only moments start passes old new told told' (now ∷ []) steps.0 reads

-- the write of a run
pub write_only : (moments : ℕ → Type 0) (start : State) (passes class : ℕ) (came : Wrote) (old new : PassValue) (told : List ℕ) → Enters start passes (listed (write_entry old.number class came)) old new
    → DrainsOnly moments (caller_of old told) (caller_of new told)
write_only moments start passes class wrote.Run old new told enters = sees_only moments start passes old new told enters
write_only moments start passes class wrote.Finished old new told enters = sees_only moments start passes old new told enters
write_only moments start passes class wrote.Nothing old new told enters = sees_only moments start passes old new told enters
write_only moments start passes class wrote.DiskFault old new told enters =
    one_only moments start passes (entry.Fault old.number class) old new told told [] enters refl (sym (append-nil told)) tt
