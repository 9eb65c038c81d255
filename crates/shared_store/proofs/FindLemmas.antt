-- What a need found in one class, told of the class's part of a history.
use Rattle.std.proofs.Common.{◌≡◌, ◌∙◌, ℕ, zero, suc, ◌<◌, ◌+◌, List, [], ◌∷◌, ◌++◌, length, take, get_or, refl, sym, ap, subst, arith}
use Rattle.std.specs.Prelude.{All, Err, IfOk, Ok, Result}
use Rattle.std.proofs.lemmas.List.{take_more}
use Rattle.std.proofs.lemmas.List.Elements.{All-get_or, All-head, All-tail}
use Rattle.metric_index.specs.Found.{IsFitted}
use Rattle.carbon_history.specs.declared.entry.Entry.{Entry}
use Rattle.carbon_history.specs.Entries.{about_class}
use Rattle.carbon_model.specs.State.{State}
use Rattle.carbon_model.specs.Replay.{replay}
use Rattle.render_need.specs.Ends.{AreEnds}
use Rattle.render_need.specs.declared.need.Need.{Need}
use Rattle.shard_core.specs.Looks.{CountsFor, Looks}
use Rattle.shard_core.specs.declared.looked.LookCount.{LookCount}
use Rattle.shard_core.specs.declared.looked.Looked.{Looked}
use Rattle.std.specs.declared.sync.MutexGuard.{MutexGuard}
use Rattle.shared_store.specs.Asking.{AreDesksOf, IsDeskOf}
use Rattle.shared_store.specs.Desks.{DeskValue}
use Rattle.shared_store.specs.Finds.{AreFindsOf, ClassFindsValue, IsFindOf, NeedFindsValue, needs_in}

module _ (start : State) (list : List Entry) (class now : ℕ) (need : Need) (finds : ClassFindsValue) where
  pub counts_here : (count : LookCount) → IsFindOf class list need finds
      → CountsFor finds.desk.class (replay start finds.desk.list) (IsFitted finds.need.glob) now finds.need.from finds.need.until count
      → CountsFor class (replay start (about_class class list)) (IsFitted need.glob) now need.from need.until count
  counts_here count is counts =
      subst (λ (n : Need). CountsFor class (replay start (about_class class list)) (IsFitted n.glob) now n.from n.until count) is.same
      (subst (λ (l : List Entry). CountsFor class (replay start l) (IsFitted finds.need.glob) now finds.need.from finds.need.until count) is.desk.list
      (subst (λ (k : ℕ). CountsFor k (replay start finds.desk.list) (IsFitted finds.need.glob) now finds.need.from finds.need.until count) is.desk.class counts))

  pub looks_here : (looked : List Looked) → IsFindOf class list need finds
      → Looks finds.desk.class (replay start finds.desk.list) (IsFitted finds.need.glob) now finds.need.from finds.need.until looked
      → Looks class (replay start (about_class class list)) (IsFitted need.glob) now need.from need.until looked
  looks_here looked is looks =
      subst (λ (n : Need). Looks class (replay start (about_class class list)) (IsFitted n.glob) now n.from n.until looked) is.same
      (subst (λ (l : List Entry). Looks class (replay start l) (IsFitted finds.need.glob) now finds.need.from finds.need.until looked) is.desk.list
      (subst (λ (k : ℕ). Looks k (replay start finds.desk.list) (IsFitted finds.need.glob) now finds.need.from finds.need.until looked) is.desk.class looks))

-- ---- one need more

pub needs_append : (finds more : List NeedFindsValue) → needs_in (finds ++ more) ≡ needs_in finds ++ needs_in more
needs_append [] more = refl
needs_append (f ∷ finds) more = ap (λ (ns : List Need). f.need ∷ ns) (needs_append finds more)

module _ (finds : List NeedFindsValue) (i : ℕ) (find : NeedFindsValue) (within : i < length finds) (is : find ≡ get_or finds i find) where
  finds_to : take (i + 1) finds ≡ take i finds ++ find ∷ []
  finds_to = take_more finds i find within ∙ ap (λ (f : NeedFindsValue). take i finds ++ f ∷ []) (sym is)

  pub needs_to : needs_in (take (i + 1) finds) ≡ needs_in (take i finds) ++ find.need ∷ []
  needs_to = ap needs_in finds_to ∙ needs_append (take i finds) (find ∷ [])

  pub find_at : (list : List Entry) → All (AreFindsOf list) finds → AreFindsOf list find
  find_at list all = subst (AreFindsOf list) (sym is) (All-get_or (AreFindsOf list) finds i find within all)

ends_in : (finds : List NeedFindsValue) (i : ℕ) (d : NeedFindsValue) → i < length finds → All AreEnds (needs_in finds) → AreEnds (get_or finds i d).need
ends_in [] i d less all = absurd (omega (arith, less))
ends_in (f ∷ finds) zero d less all = All-head AreEnds f.need (needs_in finds) all
ends_in (f ∷ finds) (suc i) d less all = ends_in finds i d (omega (arith, less)) (All-tail AreEnds f.need (needs_in finds) all)

pub ends_at : (finds : List NeedFindsValue) (i : ℕ) (find : NeedFindsValue) → i < length finds → find ≡ get_or finds i find → All AreEnds (needs_in finds) → AreEnds find.need
ends_at finds i find within is all = subst (λ (f : NeedFindsValue). AreEnds f.need) (sym is) (ends_in finds i find within all)

-- ---- one class more

pub each_more : {X : Type 0} (P : ℕ → X → Type 0) (xs : List X) (x : X) → ((k : ℕ) (d : X) → k < length xs → P k (get_or xs k d)) → P (length xs) x
    → (k : ℕ) (d : X) → k < length (xs ++ x ∷ []) → P k (get_or (xs ++ x ∷ []) k d)
each_more P [] x each one zero d within = one
each_more P [] x each one (suc k) d within = absurd (omega (arith, within))
each_more P (y ∷ xs) x each one zero d within = each zero d (omega arith)
each_more P (y ∷ xs) x each one (suc k) d within =
    each_more (λ n z. P (suc n) z) xs x (λ n e less. each (suc n) e (omega (arith, less))) one k d (omega (arith, within))

-- what was found at the desk of a class
pub finds_in : (class : ℕ) (history : List Entry) (need : Need) (desk : DeskValue) (finds : ClassFindsValue) → IsDeskOf class history desk
    → finds ≡ record { desk = desk; need = need } → IsFindOf class history need finds
finds_in class history need desk finds is same = record {
  desk = subst (IsDeskOf class history) (sym (ap (λ (f : ClassFindsValue). f.desk) same)) is;
  same = ap (λ (f : ClassFindsValue). f.need) same;
}

-- ---- answers

pub if_ok : {A E : Type 0} (r : Result A E) (P Q : A → Type 0) → IfOk r P → ((x : A) → P x → Q x) → IfOk r Q
if_ok (Ok x) P Q p more = more x p
if_ok (Err e) P Q p more = tt

-- all sixteen, in order
pub finds_all : (history : List Entry) (need : Need) (classes : List ClassFindsValue) → length classes ≡ 16
    → ((k : ℕ) (d : ClassFindsValue) → k < length classes → IsFindOf k history need (get_or classes k d)) → AreFindsOf history (record { need = need; classes = classes })
finds_all history need classes all each = record { sixteen = all; each = each }

-- what was found at desks of this history, told of slices of both
pub found_at : (history : List Entry) (slice desks : List (MutexGuard DeskValue)) (finds taken : List NeedFindsValue) → slice ≡ desks → taken ≡ finds → AreDesksOf history desks
    → (AreDesksOf history slice → All (AreFindsOf history) finds) → All (AreFindsOf history) taken
found_at history slice desks finds taken is took are found =
    subst (All (AreFindsOf history)) (sym took) (found (subst (AreDesksOf history) (sym is) are))
