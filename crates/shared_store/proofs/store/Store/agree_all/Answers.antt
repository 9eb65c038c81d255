use Rattle.std.proofs.Common.{rules, ◌≡◌, ◌∙◌, ℕ, ◌<◌, List, length, sym, ap, subst}
use Rattle.std.specs.Prelude.{slice_index_or}
use Rattle.std.specs.Sync.Mutex.{mutex_guard_value, mutex_guard_with_value}
use Rattle.std.specs.declared.sync.MutexGuard.{MutexGuard}
use Rattle.std.proofs.lemmas.List.{length-set}
use Rattle.carbon_history.specs.declared.entry.Entry.{Entry}
use Rattle.carbon_history.specs.Entries.{about_class}
use Rattle.shared_store.specs.Asking.{IsDeskOf}
use Rattle.shared_store.specs.Desks.{DeskValue}
use Rattle.shared_store.proofs.AskPassLemmas.{below_apart, put_one}
use Rattle.shared_store.proofs.store.Store.agree_all.Goals as goal

pub loop-i-preserved : goal.loop-i-preserved
loop-i-preserved g c =
    let v = c.loop-i.invariant in
    let i : ℕ = c.loop-i.i in
    let order : List Entry = c.args.order.now in
    let desks : List (MutexGuard DeskValue) = c.loop-i.desks.items in
    let guard : MutexGuard DeskValue = mutex_guard_with_value c.index_mut-desk.result.now c.agree.new.self in
    let within : i < length desks = search rules in
    let is : c.deref_mut.result.now.class ≡ i = ap (λ (x : DeskValue). x.class) c.deref_mut.ensures.value
    ∙ (ap (λ (x : MutexGuard DeskValue). (mutex_guard_value x).class) c.index_mut-desk.ensures.value ∙ v.desks i c.index_mut-desk.result.now within) in
    let entries : c.deref_mut.result.now.list ≡ about_class i order = c.agree.ensures.agree ∙ (λ j. about_class (is j) (v.order j)) in
    let value : c.deref_mut.result.now ≡ mutex_guard_value (slice_index_or desks i c.index_mut-desk.result.now) =
    c.deref_mut.ensures.value ∙ ap (λ (x : MutexGuard DeskValue). mutex_guard_value x) c.index_mut-desk.ensures.value in
    let same : c.agree.new.self ≡ c.deref_mut.result.now = c.agree.ensures.desk in
    record {
      count = search rules;
      desks = λ k d less. put_one (λ (x : MutexGuard DeskValue). (mutex_guard_value x).class ≡ k) desks i k guard d within
          (λ apart. v.desks k d (subst (λ (n : ℕ). k < n) (length-set desks i guard) less)) (λ e. ap (λ (x : DeskValue). x.class) same ∙ (is ∙ sym e));
      agree = λ k d less. put_one (λ (x : MutexGuard DeskValue). (mutex_guard_value x).list ≡ about_class k order) desks i k guard d within
          (λ apart. v.agree k d (below_apart k i less apart)) (λ e. ap (λ (x : DeskValue). x.list) same ∙ (entries ∙ sym (ap (λ (j : ℕ). about_class j order) e)));
      order = c.agree.ensures.order ∙ v.order;
      still = λ list are k d less. put_one (λ (x : MutexGuard DeskValue). IsDeskOf k list (mutex_guard_value x)) desks i k guard d within
          (λ apart. v.still list are k d (subst (λ (n : ℕ). k < n) (length-set desks i guard) less))
          (λ e. subst (λ (j : ℕ). IsDeskOf j list c.agree.new.self) (sym e) (subst (λ (x : DeskValue). IsDeskOf i list x) (sym (same ∙ value))
          (v.still list are i c.index_mut-desk.result.now within)));
    }
