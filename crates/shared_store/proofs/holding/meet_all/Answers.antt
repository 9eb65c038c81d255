use Rattle.std.proofs.Common.{rules, ◌≡◌, ◌∙◌, inr, ℕ, ◌<◌, List, Option, length, sym, ap, subst, arith}
use Rattle.std.specs.Prelude.{slice_index_or}
use Rattle.std.specs.Sync.Mutex.{mutex_guard_value}
use Rattle.std.specs.declared.sync.MutexGuard.{MutexGuard}
use Rattle.std.proofs.lemmas.List.{length-set}
use Rattle.carbon_history.specs.declared.entry.Entry.{Entry}
use Rattle.shared_store.specs.Asking.{IsDeskOf}
use Rattle.shared_store.specs.Desks.{DeskValue}
use Rattle.shared_store.specs.Held.{IsMet, IsPlaceAt, IsPlaceOf}
use Rattle.shared_store.specs.Locks.{FilesValue}
use Rattle.shared_store.proofs.AskPassLemmas.{below_apart, put_one}
use Rattle.shared_store.proofs.HeldLemmas.{met_class, met_place, place_at}
use Rattle.shared_store.proofs.holding.meet_all.Goals as goal

pub meet_at-requires : goal.meet_at-requires
meet_at-requires g c =
    let v = c.loop-i.invariant in
    let i : ℕ = c.loop-i.i in
    let held : List (Option (MutexGuard FilesValue)) = c.loop-i.held.items in
    let desks : List (MutexGuard DeskValue) = c.loop-i.desks.items in
    let in_held : i < length held = search rules in
    let in_desks : i < length desks = search rules in
    let class : (mutex_guard_value c.index_mut-desk.result.now).class ≡ i =
    ap (λ (x : MutexGuard DeskValue). (mutex_guard_value x).class) c.index_mut-desk.ensures.value ∙ v.desks i c.index_mut-desk.result.now in_desks in
    record {
      class = place_at i c.index_mut-place.result.now (mutex_guard_value c.index_mut-desk.result.now) class
          (subst (IsPlaceAt i) (sym c.index_mut-place.ensures.value) (v.files i c.index_mut-place.result.now in_held));
    }

pub loop-i-preserved : goal.loop-i-preserved
loop-i-preserved g c =
    let v = c.loop-i.invariant in
    let i : ℕ = c.loop-i.i in
    let held : List (Option (MutexGuard FilesValue)) = c.loop-i.held.items in
    let desks : List (MutexGuard DeskValue) = c.loop-i.desks.items in
    let place : Option (MutexGuard FilesValue) = c.meet_at.new.place in
    let desk : MutexGuard DeskValue = c.meet_at.new.desk in
    let in_held : i < length held = search rules in
    let in_desks : i < length desks = search rules in
    let was : mutex_guard_value c.index_mut-desk.result.now ≡ mutex_guard_value (slice_index_or desks i c.index_mut-desk.result.now) =
    ap (λ (x : MutexGuard DeskValue). mutex_guard_value x) c.index_mut-desk.ensures.value in
    let same : mutex_guard_value desk ≡ mutex_guard_value (slice_index_or desks i c.index_mut-desk.result.now) = c.meet_at.ensures.desk ∙ was in
    let class : (mutex_guard_value (slice_index_or desks i c.index_mut-desk.result.now)).class ≡ i = v.desks i c.index_mut-desk.result.now in_desks in
    let met : IsMet (mutex_guard_value (slice_index_or desks i c.index_mut-desk.result.now)) place = subst (λ (x : DeskValue). IsMet x place) was c.meet_at.ensures.met in
    record {
      count = search rules;
      many = search rules;
      desks = λ k d less. put_one (λ (x : MutexGuard DeskValue). (mutex_guard_value x).class ≡ k) desks i k desk d in_desks
          (λ apart. v.desks k d (subst (λ (n : ℕ). k < n) (length-set desks i desk) less)) (λ e. ap (λ (x : DeskValue). x.class) same ∙ (class ∙ sym e));
      files = λ k d less. put_one (IsPlaceAt k) held i k place d in_held
          (λ apart. v.files k d (subst (λ (n : ℕ). k < n) (length-set held i place) less))
          (λ e. subst (λ (j : ℕ). IsPlaceAt j place) (sym e) (met_class i (mutex_guard_value (slice_index_or desks i c.index_mut-desk.result.now)) place class met));
      still = λ list are k d less. put_one (λ (x : MutexGuard DeskValue). IsDeskOf k list (mutex_guard_value x)) desks i k desk d in_desks
          (λ apart. v.still list are k d (subst (λ (n : ℕ). k < n) (length-set desks i desk) less))
          (λ e. subst (λ (j : ℕ). IsDeskOf j list (mutex_guard_value desk)) (sym e)
          (subst (λ (x : DeskValue). IsDeskOf i list x) (sym same) (v.still list are i c.index_mut-desk.result.now in_desks)));
      met = λ list are k d less. put_one (IsPlaceOf k list) held i k place d in_held
          (λ apart. v.met list are k d (below_apart k i less apart))
          (λ e. subst (λ (j : ℕ). IsPlaceOf j list place) (sym e)
          (met_place i list (mutex_guard_value (slice_index_or desks i c.index_mut-desk.result.now)) place (v.still list are i c.index_mut-desk.result.now in_desks) met));
    }

pub returns-clause-held : goal.returns-clause-held
returns-clause-held g c = λ list are. (
  λ k d less. c.loop-i.invariant.met list are k d (search rules),
  inr (omega (arith, c.loop-i.held.ok.0, c.args.held.now.ok.0, c.loop-i.invariant.many, c.requires.sixteen.1)),
)
