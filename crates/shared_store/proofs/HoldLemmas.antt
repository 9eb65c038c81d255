-- What is kept of metrics that were looked at, where the locks of all desks are held.
use Rattle.std.proofs.Common.{◌≡◌, ◌∙◌, ℕ, ◌<◌, List, None, length, sym, ap, subst}
use Rattle.std.specs.Prelude.{All, slice_index_or}
use Rattle.std.specs.Sync.Mutex.{mutex_guard_value}
use Rattle.std.specs.declared.sync.MutexGuard.{MutexGuard}
use Rattle.std.proofs.lemmas.List.Elements.{All-contains}
use Rattle.metric_path.specs.Class.{class_of}
use Rattle.carbon_history.specs.declared.entry.Entry.{Entry}
use Rattle.carbon_model.specs.State.{State}
use Rattle.carbon_model.specs.Replay.{replay}
use Rattle.render_need.specs.declared.need.Need.{Need}
use Rattle.shard_core.specs.declared.looked.Looked.{Looked}
use Rattle.shared_store.specs.Asking.{AreAllDesksOf, AreDesksOf, FindsSets, IsLookAt, IsLookOf, LooksUp}
use Rattle.shared_store.specs.Desks.{DeskValue}
use Rattle.shared_store.specs.Held.{IsLookIn}
use Rattle.shared_store.proofs.AskFoundLemmas.{all_by, pairwise_right}
use Rattle.shared_store.proofs.AskStateLemmas.{kept_here, look_here}

-- ---- one metric, and the desk of its class

module _ (start : State) (desks : List (MutexGuard DeskValue)) (looked : Looked) (i : ℕ) (guard : MutexGuard DeskValue) (desk : DeskValue) (here : i ≡ class_of looked.path)
    (within : i < length desks) (is : desk ≡ mutex_guard_value (slice_index_or desks i guard)) where
  pub class_at_desk : IsLookIn start desks looked → class_of looked.path ≡ desk.class
  class_at_desk known = sym (ap (λ (x : DeskValue). x.class) is ∙ ((known.are.0 i guard within).class ∙ here))

  pub look_at_desk : IsLookIn start desks looked → IsLookAt (replay start desk.list) looked
  look_at_desk known =
      subst (λ (l : List Entry). IsLookAt (replay start l) looked) (sym (ap (λ (x : DeskValue). x.list) is ∙ (known.are.0 i guard within).list))
      (look_here start known.list i looked (sym here) known.look)

  pub bare_at_desk : (list : List Entry) → AreDesksOf list desks → (replay start desk.list).kept looked.path ≡ None → (replay start list).kept looked.path ≡ None
  bare_at_desk list are bare =
      kept_here start list i looked.path (sym here)
      (subst (λ (l : List Entry). (replay start l).kept looked.path ≡ None) (ap (λ (x : DeskValue). x.list) is ∙ (are i guard within).list) bare)

-- ---- all that the needs find

looks_in : (start : State) (list : List Entry) (desks : List (MutexGuard DeskValue)) (now : ℕ) (need : Need) (found : List Looked) → AreAllDesksOf list desks
    → LooksUp (replay start list) now need found → All (IsLookIn start desks) found
looks_in start list desks now need found are looks =
    all_by (IsLookIn start desks) found (λ looked c. record { list = list; are = are; look = (All-contains (IsLookOf (replay start list) now need) found looked looks.each c).look })

pub sets_in : (start : State) (list : List Entry) (desks : List (MutexGuard DeskValue)) (now : ℕ) (needs : List Need) (sets : List (List Looked)) → AreAllDesksOf list desks
    → FindsSets (replay start list) now needs sets → All (All (IsLookIn start desks)) sets
sets_in start list desks now needs sets are finds =
    pairwise_right (LooksUp (replay start list) now) (All (IsLookIn start desks)) (λ need found looks. looks_in start list desks now need found are looks) needs sets finds.up
