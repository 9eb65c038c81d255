use Rattle.std.proofs.Common.{rules, ◌≡◌, ◌∙◌, ℕ, ◌<◌, List, length, sym, ap, subst, arith, below_more}
use Rattle.std.specs.Prelude.{slice_index_or}
use Rattle.std.specs.Sync.Mutex.{mutex_guard_value, mutex_guard_with_value}
use Rattle.std.specs.declared.sync.MutexGuard.{MutexGuard}
use Rattle.std.proofs.lemmas.List.{length-set}
use mathlib.Core.List.{IsPrefix}
use Rattle.carbon_history.specs.declared.entry.Entry.{Entry}
use Rattle.carbon_history.specs.Entries.{about_class}
use Rattle.shared_history.specs.declared.view.Look.{Look}
use Rattle.shared_history.specs.Views.{look_at}
use Rattle.shared_store.specs.Asking.{HadSeen, IsDeskOf}
use Rattle.shared_store.specs.Desks.{DeskValue}
use Rattle.shared_store.proofs.AskPassLemmas.{only_both, put_one}
use Rattle.shared_store.proofs.store.Store.mark_all.Goals as goal

pub loop-i-preserved : goal.loop-i-preserved
loop-i-preserved g c =
    let v = c.loop-i.invariant in
    let i : ℕ = c.loop-i.i in
    let seen : List Entry = c.args.pass.now.seen in
    let desks : List (MutexGuard DeskValue) = c.loop-i.desks.items in
    let guard : MutexGuard DeskValue = mutex_guard_with_value c.index_mut-desk.result.now c.mark.new.self in
    let within : i < length desks = search rules in
    let value : c.deref_mut.result.now ≡ mutex_guard_value (slice_index_or desks i c.index_mut-desk.result.now) =
    c.deref_mut.ensures.value ∙ ap (λ (x : MutexGuard DeskValue). mutex_guard_value x) c.index_mut-desk.ensures.value in
    let desk : IsDeskOf i seen c.deref_mut.result.now = subst (λ (x : DeskValue). IsDeskOf i seen x) (sym value) (v.desks i c.index_mut-desk.result.now within) in
    let put : IsDeskOf i seen c.mark.new.self = subst (λ (x : DeskValue). IsDeskOf i seen x) (sym c.mark.ensures.desk) desk in
    let marks = c.mark.ensures.marks in
    let first : IsPrefix (look_at i c.loop-i.pass.looks).list (about_class i seen) =
    subst (λ (l : List Entry). IsPrefix (look_at i c.loop-i.pass.looks).list l) desk.list
    (subst (λ (k : ℕ). IsPrefix (look_at k c.loop-i.pass.looks).list c.deref_mut.result.now.list) desk.class marks.before) in
    let here : HadSeen seen c.args.pass.now i =
    record { begins = subst (λ (l : Look). IsPrefix l.list (about_class i seen)) (v.rest i (omega arith)) first } in
    record {
      count = search rules;
      desks = λ k d less. put_one (λ (x : MutexGuard DeskValue). IsDeskOf k seen (mutex_guard_value x)) desks i k guard d within
          (λ apart. v.desks k d (subst (λ (n : ℕ). k < n) (length-set desks i guard) less)) (λ e. subst (λ (j : ℕ). IsDeskOf j seen c.mark.new.self) (sym e) put);
      still = λ list are k d less. put_one (λ (x : MutexGuard DeskValue). IsDeskOf k list (mutex_guard_value x)) desks i k guard d within
          (λ apart. v.still list are k d (subst (λ (n : ℕ). k < n) (length-set desks i guard) less))
          (λ e. subst (λ (j : ℕ). IsDeskOf j list c.mark.new.self) (sym e) (subst (λ (x : DeskValue). IsDeskOf i list x) (sym (c.mark.ensures.desk ∙ value))
          (v.still list are i c.index_mut-desk.result.now within)));
      only = only_both c.args.pass.now c.loop-i.pass c.mark.new.pass v.only marks.only;
      had = below_more (λ (k : ℕ). HadSeen seen c.args.pass.now k) i v.had here;
      rest = λ k from. marks.others k (λ e. omega (arith, e, desk.class, from)) ∙ v.rest k (omega (arith, from));
    }
