-- The rights stay there, whatever view changes.
use Rattle.std.proofs.Common.{◌≡◌, ◌≢◌, ◌∙◌, ℕ, zero, suc, ◌+◌, ◌<◌, List, [], ◌∷◌, ◌++◌, length, set, refl, ap, sym, subst, arith}
use mathlib.Core.Option.{some, some-injective, some-ne-none}
use native.Mathlib.Decide.{ℕ_discrete}
use lib.ListN.{get_elem?}
use Rattle.atomic_table.proofs.Lists.{at_longer, set_else}
use Rattle.shared_history.specs.declared.view.View.{View}
use Rattle.shared_history.specs.Rule.{Book, HasView, Held, KeepsClass, Leads, OwnsPass}
use Rattle.shared_history.proofs.ListLemmas.{upd, upd_else, upd_same}

at_same : (views : List View) (id : ℕ) (v w : View) → get_elem? views id ≡ some v → get_elem? (set views id w) id ≡ some w
at_same [] id v w e = absurd (some-ne-none v (sym e))
at_same (x ∷ xs) zero v w e = refl
at_same (x ∷ xs) (suc id) v w e = at_same xs id v w e

at_last : (views : List View) (w : View) → get_elem? (views ++ w ∷ []) (length views) ≡ some w
at_last [] w = refl
at_last (x ∷ xs) w = at_last xs w

-- one view changes, and is such a view still
pub view_set : (P : View → Type 0) (views : List View) (id : ℕ) (v w : View) → get_elem? views id ≡ some v → (P v → P w)
    → (j : ℕ) → HasView views j P → HasView (set views id w) j P
view_set P views id v w at stays j h = elim (ℕ_discrete j id) [
  | yes same ↦
      let v_is : h.0 ≡ v = some-injective h.0 v (sym h.1 ∙ (ap (λ (n : ℕ). get_elem? views n) same ∙ at)) in
      (w, ap (λ (n : ℕ). get_elem? (set views id w) n) same ∙ at_same views id v w at, stays (subst P v_is h.2))
  | no apart ↦ (h.0, set_else views id j w apart ∙ h.1, h.2)
]

pub view_new : (P : View → Type 0) (views : List View) (id : ℕ) (v w : View) → get_elem? views id ≡ some v → P w → HasView (set views id w) id P
view_new P views id v w at such = (w, at_same views id v w at, such)

pub view_else : (P : View → Type 0) (views : List View) (other : ℕ) (w : View) (j : ℕ) → j ≢ other → HasView views j P → HasView (set views other w) j P
view_else P views other w j apart h = (h.0, set_else views other j w apart ∙ h.1, h.2)

-- one view takes in another, which had no such right and is spent
pub view_join : (P : View → Type 0) (views : List View) (id other : ℕ) (v x w y : View) → other ≢ id → get_elem? views id ≡ some v → get_elem? views other ≡ some w
    → (P v → P x) → (P w → ⊥) → (j : ℕ) → HasView views j P → HasView (set (set views id x) other y) j P
view_join P views id other v x w y apart mine theirs stays none j h =
    view_set P (set views id x) other w y (set_else views id other x apart ∙ theirs) (λ such. absurd (none such)) j (view_set P views id v x mine stays j h)

-- one view comes
pub view_longer : (P : View → Type 0) (views : List View) (w : View) (j : ℕ) → HasView views j P → HasView (views ++ w ∷ []) j P
view_longer P views w j h = (h.0, at_longer views (w ∷ []) j h.0 h.1, h.2)

pub view_last : (P : View → Type 0) (views : List View) (w : View) → P w → HasView (views ++ w ∷ []) (length views) P
view_last P views w such = (w, at_last views w, such)

-- a view has the rights that another has
pub record HasAll (v w : View) : Type 0 where
  pub lead : Leads v → Leads w
  pub branch : (class : ℕ) → KeepsClass class v → KeepsClass class w
  pub own : (pass : ℕ) → OwnsPass pass v → OwnsPass pass w

pub same_rights : (v : View) → HasAll v v
same_rights v = record { lead = λ h. h; branch = λ class h. h; own = λ pass h. h }

pub held_set : (b : Book) (views : List View) (id : ℕ) (v w : View) → get_elem? views id ≡ some v → HasAll v w → Held b views → Held b (set views id w)
held_set b views id v w at all held = record {
  leader = view_set Leads views id v w at all.lead b.leader held.leader;
  keepers = λ class made. view_set (KeepsClass class) views id v w at (all.branch class) (b.keeper class) (held.keepers class made);
  owners = λ pass made. view_set (OwnsPass pass) views id v w at (all.own pass) (b.owner pass) (held.owners pass made);
}

-- the same of another book, with the same holders
pub same_held : (b c : Book) (views : List View) → b.leader ≡ c.leader → b.keeper ≡ c.keeper → b.owner ≡ c.owner → b.classes ≡ c.classes → b.passes ≡ c.passes
    → Held b views → Held c views
same_held b c views lead keep own classes passes held = record {
  leader = subst (λ (n : ℕ). HasView views n Leads) lead held.leader;
  keepers = λ class made.
      subst (λ (f : ℕ → ℕ). HasView views (f class) (KeepsClass class)) keep (held.keepers class (subst (λ (n : ℕ). class < n) (sym classes) made));
  owners = λ pass made.
      subst (λ (f : ℕ → ℕ). HasView views (f pass) (OwnsPass pass)) own (held.owners pass (subst (λ (n : ℕ). pass < n) (sym passes) made));
}

pub held_longer : (b : Book) (views : List View) (w : View) → Held b views → Held b (views ++ w ∷ [])
held_longer b views w held = record {
  leader = view_longer Leads views w b.leader held.leader;
  keepers = λ class made. view_longer (KeepsClass class) views w (b.keeper class) (held.keepers class made);
  owners = λ pass made. view_longer (OwnsPass pass) views w (b.owner pass) (held.owners pass made);
}

-- a class's keeper is changed, and has a view that keeps it; the others are as they were
pub keeper_moves : (views : List View) (keeper : ℕ → ℕ) (class n : ℕ) → HasView views n (KeepsClass class)
    → (k : ℕ) → (k ≢ class → HasView views (keeper k) (KeepsClass k)) → HasView views (upd keeper class n k) (KeepsClass k)
keeper_moves views keeper class n here k others = elim (ℕ_discrete k class) [
  | yes same ↦
      subst (λ (m : ℕ). HasView views m (KeepsClass k)) (sym (upd_same keeper class k n same))
      (subst (λ (m : ℕ). HasView views n (KeepsClass m)) (sym same) here)
  | no apart ↦ subst (λ (m : ℕ). HasView views m (KeepsClass k)) (sym (upd_else keeper class k n apart)) (others apart)
]

pub owner_moves : (views : List View) (owner : ℕ → ℕ) (pass n : ℕ) → HasView views n (OwnsPass pass)
    → (k : ℕ) → (k ≢ pass → HasView views (owner k) (OwnsPass k)) → HasView views (upd owner pass n k) (OwnsPass k)
owner_moves views owner pass n here k others = elim (ℕ_discrete k pass) [
  | yes same ↦
      subst (λ (m : ℕ). HasView views m (OwnsPass k)) (sym (upd_same owner pass k n same))
      (subst (λ (m : ℕ). HasView views n (OwnsPass m)) (sym same) here)
  | no apart ↦ subst (λ (m : ℕ). HasView views m (OwnsPass k)) (sym (upd_else owner pass k n apart)) (others apart)
]

pub before_next : (k n : ℕ) → k < n + 1 → k ≢ n → k < n
before_next k n h apart = omega (arith, h, apart)
