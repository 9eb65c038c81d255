-- Names that are known beforehand.
use Rattle.std.proofs.Common.{◌≡◌, ◌≢◌, inl, inr, ◌∙◌, ℕ, zero, suc, ◌<◌, List, [], ◌∷◌, ◌++◌, length, get_or, IsSome, refl, sym, ap, subst, arith}
use Rattle.std.specs.Prelude.{All, IsSomeAnd, Option, None, Some, slice_index_or}
use Rattle.std.specs.Sync.Mutex.{mutex_guard_value}
use Rattle.std.specs.declared.sync.MutexGuard.{MutexGuard}
use Rattle.std.proofs.lemmas.Bool.Decides.{eqb_tells}
use Rattle.std.proofs.lemmas.List.{get_or_push}
use Rattle.std.proofs.lemmas.List.Elements.{All-contains_itself, All-nil}
use mathlib.Core.List.{IsPrefix}
use Rattle.carbon_history.specs.declared.entry.Entry.{Entry}
use Rattle.carbon_history.specs.Entries.{about_class}
use Rattle.carbon_model.specs.State.{State}
use Rattle.carbon_model.specs.Found.{Finds, IsKnown}
use Rattle.carbon_model.specs.Replay.{replay}
use Rattle.carbon_model.specs.RingFiles.{IsOfClass}
use Rattle.carbon_model.proofs.HistoryLemmas.{replay-append}
use Rattle.metric_index.specs.Index.{entry_of}
use Rattle.metric_index.specs.Searched.{AreKnown}
use Rattle.metric_table.specs.declared.known.Known.{Known}
use Rattle.ring_format.specs.Layout.{LayoutValue}
use Rattle.shard_core.specs.Halves.{DeskInside}
use Rattle.shard_core.specs.Table.{Lists}
use Rattle.shared_history.specs.declared.view.Look.{Look}
use Rattle.shared_history.specs.Parts.{PassValue}
use Rattle.shared_history.specs.Views.{look_at}
use Rattle.shared_store.specs.Asking.{AreAllDesksOf, EntersTries, IsDeskOf, SeesDesks}
use Rattle.shared_store.specs.Desks.{DeskValue}
use Rattle.shared_store.specs.Known.{AllKnow, AreKnownAfter, IsKnownAfter, KnowsAt, KnowsBy, KnowsIn, WantedValue}
use Rattle.shared_store.specs.Locks.{HoldsDesk}
use Rattle.shared_store.specs.Passes.{LooksOn}
use Rattle.shared_store.proofs.AskPassLemmas.{ask_out}
use Rattle.shared_store.proofs.AskStateLemmas.{knows_as, known_later}

-- ---- names of a class

pub known_names : (start : State) (class : ℕ) (list : List Entry) (names : List (List ℕ)) → Finds (replay start list) (IsOfClass class) names → AreKnownAfter start class list names
known_names start class list names finds = λ k d less.
    let both = (finds.found (get_or names k d)).0 (All-contains_itself names k d less) in
    record { here = both.0; known = both.1 }

-- what was known stays so
pub known_on : (start : State) (class : ℕ) (before now : List Entry) (names : List (List ℕ)) → IsPrefix before now → AreKnownAfter start class before names → AreKnownAfter start class now names
known_on start class before now names begins known = λ k d less.
    let path : List ℕ = get_or names k d in
    let one = known k d less in record {
      here = one.here;
      known = subst (λ (s : State). IsKnown s path) (sym (replay-append start before begins.0) ∙ ap (replay start) begins.1)
          (known_later (replay start before) begins.0 path one.known);
    }

some_of : (o : Option Known) (layout : LayoutValue) → IsSomeAnd o (λ known. known.layout ≡ layout) → IsSome o
some_of None layout is = absurd is
some_of (Some known) layout is = refl

-- the table of a desk has them
pub table_knows : (desk : DeskInside) (start : State) (list : List Entry) (names : List (List ℕ)) → Lists desk.class desk.rules desk.cache.metrics desk.table → HoldsDesk desk (replay start list)
    → AreKnownAfter start desk.class list names → AreKnown desk.table names
table_knows desk start list names lists holds known = λ k d less.
    let one = known k d less in
    some_of (entry_of desk.table (get_or names k d)) _ (knows_as desk (replay start list) (get_or names k d) lists holds one.here one.known)

-- ---- names of all classes

pub knows_none : (start : State) (looks : List Look) (names : List (List (List ℕ))) → names ≡ [] → KnowsBy start looks names
knows_none start looks names none = subst (KnowsBy start looks) (sym none) (record { each = λ k. All-nil (IsKnownAfter start k (look_at k looks).list) })

other_push : (names : List (List (List ℕ))) (list : List (List ℕ)) (k : ℕ) → k ≢ length names → get_or (names ++ list ∷ []) k [] ≡ get_or names k []
other_push [] list zero apart = absurd (apart refl)
other_push [] list (suc k) apart = refl
other_push (n ∷ names) list zero apart = refl
other_push (n ∷ names) list (suc k) apart = other_push names list k (λ e. apart (ap suc e))

-- the names of one class more
pub knows_more : (start : State) (old new : List Look) (names : List (List (List ℕ))) (list : List (List ℕ)) → ((k : ℕ) → k ≢ length names → look_at k new ≡ look_at k old)
    → KnowsBy start old names → AreKnownAfter start (length names) (look_at (length names) new).list list → KnowsBy start new (names ++ list ∷ [])
knows_more start old new names list others knows one = record {
  each = λ k. elim (eqb_tells k (length names)) [
    | inl same ↦ subst (AreKnownAfter start k (look_at k new).list) (sym (get_or_push names list [] k (sym same.1)))
        (subst (λ (n : ℕ). AreKnownAfter start n (look_at n new).list list) (sym same.1) one)
    | inr apart ↦ subst (AreKnownAfter start k (look_at k new).list) (sym (other_push names list k apart.1))
        (subst (λ (l : Look). AreKnownAfter start k l.list (get_or names k [])) (sym (others k apart.1)) (knows.each k))
  ];
}

pub knows_on : (start : State) (old new : PassValue) (names : List (List (List ℕ))) → LooksOn old new → KnowsBy start old.looks names → KnowsBy start new.looks names
knows_on start old new names on knows = record {
  each = λ k. known_on start k (look_at k old.looks).list (look_at k new.looks).list (get_or names k []) (on.classes k).list (knows.each k);
}

pub knows_in : (start : State) (passes now try : ℕ) (old new : PassValue) (names : List (List (List ℕ))) → EntersTries start passes now try old new → KnowsBy start old.looks names → KnowsIn start new.seen names
knows_in start passes now try old new names enters knows = record {
  each = λ k less.
      let begins : IsPrefix (look_at k old.looks).list (about_class k new.seen) =
      subst (λ (l : List Entry). IsPrefix (look_at k old.looks).list l) (sym (ap (about_class k) enters.seen ∙ ask_out k (old.seen ++ enters.between) old try now)) (enters.had k less).begins in
      known_on start k (look_at k old.looks).list (about_class k new.seen) (get_or names k []) begins (knows.each k);
}

pub knows_seen : (start : State) (old new : PassValue) (names : List (List (List ℕ))) → SeesDesks old new → KnowsBy start old.looks names → KnowsIn start new.seen names
knows_seen start old new names sees knows = record {
  each = λ k less. known_on start k (look_at k old.looks).list (about_class k new.seen) (get_or names k []) (sees.had k less).begins (knows.each k);
}

pub knows_at : (start : State) (list : List Entry) (desks : List (MutexGuard DeskValue)) (names : List (List (List ℕ))) → AreAllDesksOf list desks → KnowsIn start list names → KnowsAt start desks names
knows_at start list desks names are knows = record {
  each = λ k d less.
      let desk : DeskValue = mutex_guard_value (slice_index_or desks k d) in
      let is : IsDeskOf k list desk = are.0 k d less in
      subst (λ (j : ℕ). AreKnownAfter start j desk.list (get_or names j [])) (sym is.class)
      (subst (λ (l : List Entry). AreKnownAfter start k l (get_or names k [])) (sym is.list) (knows.each k (omega (arith, less, are.1))));
}

-- ---- names of all needs

pub all_know : (P Q : List (List (List ℕ)) → Type 0) (wanted : List WantedValue) → ((names : List (List (List ℕ))) → P names → Q names) → AllKnow P wanted → AllKnow Q wanted
all_know P Q wanted more all = λ k d less. more (get_or wanted k d).names (all k d less)

pub same_know : (P : List (List (List ℕ)) → Type 0) (wanted : List WantedValue) (names : List (List (List ℕ))) → P names → All (λ (w : WantedValue). w.names ≡ names) wanted → AllKnow P wanted
same_know P wanted names know same = λ k d less. subst P (sym (same k d less)) know

pub one_knows : (P : List (List (List ℕ)) → Type 0) (wanted : List WantedValue) (i : ℕ) (one : WantedValue) → i < length wanted → one ≡ get_or wanted i one → AllKnow P wanted → P one.names
one_knows P wanted i one less is all = subst (λ (w : WantedValue). P w.names) (sym is) (all i one less)
