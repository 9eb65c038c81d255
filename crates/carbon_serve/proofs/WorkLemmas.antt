-- What calls of a store make of a pass.
use Rattle.std.proofs.lemmas.Bool.Decides.{nat_tests}
use Rattle.std.proofs.Common.{◌≡◌, ◌∙◌, ℕ, ◌≤◌, true, arith, List, [], ◌∷◌, ◌++◌, refl, ap, subst, append_assoc}
use Rattle.std.specs.Prelude.{All}
use Rattle.std.proofs.lemmas.List.Elements.{All-append, All-cons, All-nil}
use mathlib.Core.List.{IsPrefix}
use Rattle.carbon_history.specs.Entries.{listed}
use Rattle.carbon_history.specs.declared.entry.Entry.{Entry}
use Rattle.carbon_history.specs.declared.entry.Entry.TheVariants as entry
use Rattle.carbon_model.specs.State.{State}
use Rattle.shard_core.specs.declared.planned.Wrote.{Wrote}
use Rattle.shard_core.specs.declared.planned.Wrote.TheVariants as wrote
use Rattle.shared_history.specs.Parts.{PassValue, own_entries}
use Rattle.shared_history.proofs.ListLemmas.{prefix_more, prefix_self}
use Rattle.fixed_num.specs.Moment.{is_moment}
use Rattle.shared_store.specs.Passes.{Enters}
use Rattle.shared_store.specs.Steps.{StepsTo, write_entry}
use Rattle.shared_store.specs.declared.step.Step.{Step}
use Rattle.shared_store.specs.declared.step.Step.TheVariants as step
use Rattle.carbon_serve.specs.Workers.{HasMoment, Works}

-- a moment is less than 2^32
pub moment_fits : (now : ℕ) → is_moment now ≡ true → now ≤ 4000000000
moment_fits now moment = grind (arith, nat_tests)

nothing_behind : (es : List Entry) → es ≡ es ++ []
nothing_behind [] = refl
nothing_behind (e ∷ es) = ap (λ (xs : List Entry). e ∷ xs) (nothing_behind es)

-- a pass that does nothing goes on
pub works_same : (moments : ℕ → Type 0) (start : State) (pass : PassValue) → Works moments start pass pass
works_same moments start pass = record {
  table = refl;
  number = refl;
  begins = prefix_self pass.seen;
  legal = λ legal. legal;
  made = [];
  once = nothing_behind (own_entries pass);
  told = All-nil (HasMoment moments);
}

prefix_on : (xs ys zs : List Entry) → IsPrefix xs ys → IsPrefix ys zs → IsPrefix xs zs
prefix_on xs ys zs first next =
    subst (λ (ws : List Entry). IsPrefix xs ws) (ap (λ (ws : List Entry). ws ++ next.0) first.1 ∙ next.1) (prefix_more xs (xs ++ first.0) next.0 (first.0, refl))

-- and then on again
pub works_then : (moments : ℕ → Type 0) (start : State) (a b c : PassValue) → Works moments start a b → Works moments start b c → Works moments start a c
works_then moments start a b c first next = record {
  table = next.table ∙ first.table;
  number = next.number ∙ first.number;
  begins = prefix_on a.seen b.seen c.seen first.begins next.begins;
  legal = λ legal. next.legal (first.legal legal);
  made = first.made ++ next.made;
  once = next.once ∙ (ap (λ (es : List Entry). es ++ next.made) first.once ∙ append_assoc (own_entries a) first.made next.made);
  told = All-append (HasMoment moments) first.made next.made first.told next.told;
}

-- a pass that enters at moments of the clock goes on
pub enters_works : (moments : ℕ → Type 0) (start : State) (passes : ℕ) (made : List Entry) (old new : PassValue) → Enters start passes made old new → All (HasMoment moments) made
    → Works moments start old new
enters_works moments start passes made old new enters told = record {
  table = enters.table;
  number = enters.number;
  begins = enters.begins;
  legal = λ legal. enters.legal;
  made = made;
  once = enters.once;
  told = told;
}

pub sees_works : (moments : ℕ → Type 0) (start : State) (passes : ℕ) (old new : PassValue) → Enters start passes [] old new → Works moments start old new
sees_works moments start passes old new enters = enters_works moments start passes [] old new enters (All-nil (HasMoment moments))

pub one_told : (moments : ℕ → Type 0) (e : Entry) → HasMoment moments e → All (HasMoment moments) (e ∷ [])
one_told moments e told = All-cons (HasMoment moments) e [] told (All-nil (HasMoment moments))

-- a step of draining at a moment of the clock
pub step_works : (moments : ℕ → Type 0) (start : State) (passes class now : ℕ) (came : Step) (old new : PassValue) → moments now → StepsTo start passes class now came old new
    → Works moments start old new
step_works moments start passes class now step.Took old new told steps =
    enters_works moments start passes (entry.Drain old.number steps.path now ∷ []) old new steps.enters (one_told moments (entry.Drain old.number steps.path now) told)
step_works moments start passes class now step.Wrote old new told steps = sees_works moments start passes old new steps.0
step_works moments start passes class now step.Finished old new told steps = sees_works moments start passes old new steps.0
step_works moments start passes class now step.Idle old new told steps = sees_works moments start passes old new steps.0
step_works moments start passes class now step.DiskFault old new told steps =
    enters_works moments start passes (entry.Fault old.number class ∷ []) old new steps.0 (one_told moments (entry.Fault old.number class) tt)
step_works moments start passes class now step.NoMemory old new told steps = sees_works moments start passes old new steps.0

-- the write of a run
pub write_works : (moments : ℕ → Type 0) (start : State) (passes class : ℕ) (came : Wrote) (old new : PassValue) → Enters start passes (listed (write_entry old.number class came)) old new
    → Works moments start old new
write_works moments start passes class wrote.Run old new enters = sees_works moments start passes old new enters
write_works moments start passes class wrote.Finished old new enters = sees_works moments start passes old new enters
write_works moments start passes class wrote.Nothing old new enters = sees_works moments start passes old new enters
write_works moments start passes class wrote.DiskFault old new enters =
    enters_works moments start passes (entry.Fault old.number class ∷ []) old new enters (one_told moments (entry.Fault old.number class) tt)
