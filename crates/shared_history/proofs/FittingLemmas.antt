-- One view changes, or one comes, and the views fit anew. Who lacks a right fits under any holder of it.
use Rattle.std.proofs.Common.{◌≡◌, ◌==◌, ℕ, ◌≤◌, ◌≢◌, List, [], ◌∷◌, ◌++◌, length, set, ap, sym, subst, ◌∙◌, ⊎_elim}
use Rattle.std.specs.Prelude.{Option, Some, None}
use mathlib.Core.Option.{some}
use lib.ListN.{get_elem?}
use Rattle.atomic_table.proofs.Lists.{at_set}
use Rattle.shared_history.specs.declared.view.Lead.{Lead}
use Rattle.shared_history.specs.declared.view.Branch.{Branch}
use Rattle.shared_history.specs.declared.view.View.{View}
use Rattle.shared_history.specs.Views.{nobody}
use Rattle.carbon_history.specs.Entries.{about_class, is_about, listed, of_pass, pass_of}
use Rattle.shared_history.specs.Rule.{Book, Fits, FitsLead, FitsBranch, Known}
use Rattle.shared_history.proofs.ListLemmas.{at_end, none_of, prefix_nil, upd, upd_else}

-- the base has nothing of a pass or a class that was not made
pub base_no_pass : (b : Book) → Known b → (n : ℕ) → b.passes ≤ n → of_pass n b.base ≡ []
base_no_pass b known n h = none_of (λ x. pass_of x == n) b.base (listed b.waiting) (known.no_pass n h)

pub base_no_class : (b : Book) → Known b → (k : ℕ) → b.classes ≤ k → about_class k b.base ≡ []
base_no_class b known k h = none_of (is_about k) b.base (listed b.waiting) (known.no_class k h)

pub fit_at : (b : Book) (i j : ℕ) (v w : View) → i ≡ j → v ≡ w → Fits b j w → Fits b i v
fit_at b i j v w e f h = subst (λ k. Fits b k v) (sym e) (subst (λ u. Fits b j u) (sym f) h)

pub fit_set : (b : Book) (views : List View) (id : ℕ) (w : View) → ((j : ℕ) (u : View) → j ≢ id → get_elem? views j ≡ some u → Fits b j u) → Fits b id w
    → (j : ℕ) (u : View) → get_elem? (set views id w) j ≡ some u → Fits b j u
fit_set b views id w others mine j u e = ⊎_elim (λ (t : (j ≡ id) × (w ≡ u)). fit_at b j id u w t.0 (sym t.1) mine) (λ (t : (j ≢ id) × (get_elem? views j ≡ some u)). others j u t.0 t.1) (at_set views id j w u e)

pub fit_snoc : (b : Book) (views : List View) (w : View) → ((j : ℕ) (u : View) → get_elem? views j ≡ some u → Fits b j u) → Fits b (length views) w
    → (j : ℕ) (u : View) → get_elem? (views ++ w ∷ []) j ≡ some u → Fits b j u
fit_snoc b views w others mine j u e = ⊎_elim (λ (t : get_elem? views j ≡ some u). others j u t) (λ (t : (j ≡ length views) × (w ≡ u)). fit_at b j (length views) u w t.0 (sym t.1) mine) (at_end views w u j e)

-- nothing is known by nobody
pub fit_nobody : (b : Book) (by : ℕ) → Fits b by nobody
fit_nobody b by = record { seen = prefix_nil b.base; heard = prefix_nil b.base; own = tt; lead = tt; branch = tt }

-- the right to append is elsewhere, and goes elsewhere
abbrev pub with_leader : Book → ℕ → Book
with_leader b n = record b { leader = n }

abbrev pub with_keeper : Book → ℕ → ℕ → Book
with_keeper b k n = record b { keeper = upd b.keeper k n }

-- what is known of a book does not hang on where the rights are
pub known_led : (b : Book) (n : ℕ) → Known b → Known (with_leader b n)
known_led b n known = record {
  few_passes = known.few_passes;
  no_pass = known.no_pass;
  few = known.few;
  no_class = known.no_class;
  no_state = known.no_state;
  owed = known.owed;
}

pub known_kept : (b : Book) (k n : ℕ) → Known b → Known (with_keeper b k n)
known_kept b k n known = record {
  few_passes = known.few_passes;
  no_pass = known.no_pass;
  few = known.few;
  no_class = known.no_class;
  no_state = known.no_state;
  owed = known.owed;
}

releads : (b : Book) (n j : ℕ) (o : Option Lead) → j ≢ b.leader → FitsLead b j o → FitsLead (with_leader b n) j o
releads b n j None apart f = tt
releads b n j (Some l) apart f = absurd (apart (sym f.0))

pub relead : (b : Book) (n j : ℕ) (u : View) → j ≢ b.leader → Fits b j u → Fits (with_leader b n) j u
relead b n j u apart f = record { seen = f.seen; heard = f.heard; own = f.own; lead = releads b n j u.lead apart f.lead; branch = f.branch }

rekeeps : (b : Book) (k n j : ℕ) (o : Option Branch) → j ≢ b.keeper k → FitsBranch b j o → FitsBranch (with_keeper b k n) j o
rekeeps b k n j None apart f = tt
rekeeps b k n j (Some t) apart f =
    let ne : t.class ≢ k = λ e. apart (sym (ap b.keeper (sym e) ∙ f.0)) in
    (upd_else b.keeper k t.class n ne ∙ f.0, f.1, f.2, f.3, f.4)

pub rekeep : (b : Book) (k n j : ℕ) (u : View) → j ≢ b.keeper k → Fits b j u → Fits (with_keeper b k n) j u
rekeep b k n j u apart f = record { seen = f.seen; heard = f.heard; own = f.own; lead = f.lead; branch = rekeeps b k n j u.branch apart f.branch }
