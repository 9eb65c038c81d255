-- The rights travel.
use Rattle.std.proofs.Common.{subst, true, ap, ◌≡◌, ℕ, ◌≢◌, List, [], ◌∷◌, ◌++◌, length, set, refl, sym, ◌∙◌, ⊎_elim}
use Rattle.std.specs.Prelude.{Option, Some, None}
use mathlib.Core.Option.{some}
use lib.ListN.{get_elem?}
use Rattle.atomic_table.specs.Table.{State, Splits, Joins}
use Rattle.atomic_table.proofs.Lists.{at_set}
use Rattle.carbon_history.specs.declared.entry.Entry.{Entry}
use Rattle.shared_history.specs.declared.view.Own.{Own}
use Rattle.shared_history.specs.declared.view.Lead.{Lead}
use Rattle.shared_history.specs.declared.view.Branch.{Branch}
use Rattle.shared_history.specs.declared.view.View.{View}
use Rattle.shared_history.specs.Views.{view, nobody, lent, lead_of, led, pruned, branch_of, grafted, noted, hearing}
use Rattle.shared_history.specs.Rule.{Book, Fits, IsBranchAlone, IsLeadAlone, IsOfClass, IsOfPass, Kept, KeepsClass, Leads, OwnsPass, has_branch, has_lead}
use Rattle.shared_history.proofs.ListLemmas.{prefix_nil, upd_same}
use Rattle.shared_history.proofs.HeldLemmas.{held_longer, held_set, keeper_moves, same_rights, view_else, view_join, view_last, view_longer, view_new, view_set}
use Rattle.std.proofs.lemmas.Bool.{false≢true}
use Rattle.shared_history.proofs.FittingLemmas.{known_kept, known_led, fit_at, fit_set, fit_snoc, fit_nobody, with_leader, with_keeper, relead, rekeep}

-- a state of the same words, with other views
abbrev pub seats : State Entry View → List View → State Entry View
seats s views = record { words = s.words; homes = s.homes; views = views }

-- a view is cut in two
module _ (s : State Entry View) (k : Kept s) (id : ℕ) (seen heard : List Entry) (o : Option Own) where
  lends_at : (l : Option Lead) (t : Option Branch) → get_elem? s.views id ≡ some (view seen heard o l t) → Kept (seats s (set s.views id (view seen heard o None t) ++ view [] [] None l None ∷ []))
  lends_at None t e =
      let f = k.views id _ e in
      record {
        book = k.book;
        first = k.first;
        words = k.words;
        known = k.known;
        views = fit_snoc k.book (set s.views id (view seen heard o None t)) (view [] [] None None None)
            (fit_set k.book s.views id (view seen heard o None t) (λ j u apart h. k.views j u h) f)
            (fit_nobody k.book (length (set s.views id (view seen heard o None t))));
        held = held_longer k.book (set s.views id (view seen heard o None t)) nobody
            (held_set k.book s.views id (view seen heard o None t) (view seen heard o None t) e (same_rights (view seen heard o None t)) k.held);
      }
  lends_at (Some l) t e =
      let f = k.views id _ e in
      let views = set s.views id (view seen heard o None t) in
      let n : ℕ = length views in
      let b : Book = with_leader k.book n in
      record {
        book = b;
        first = k.first;
        words = k.words;
        known = known_led k.book n k.known;
        views = fit_snoc b views (view [] [] None (Some l) None)
            (fit_set b s.views id (view seen heard o None t) (λ j u apart h. relead k.book n j u (λ same. apart (same ∙ f.lead.0)) (k.views j u h))
            (record { seen = f.seen; heard = f.heard; own = f.own; lead = tt; branch = f.branch }))
            (record { seen = prefix_nil b.base; heard = prefix_nil b.base; own = tt; lead = (refl, f.lead.1, f.lead.2, f.lead.3, f.lead.4); branch = tt });
        held = record {
          leader = view_last Leads views (view [] [] None (Some l) None) refl;
          keepers = λ class made. view_longer (KeepsClass class) views (view [] [] None (Some l) None) (k.book.keeper class)
              (view_set (KeepsClass class) s.views id (view seen heard o (Some l) t) (view seen heard o None t) e (λ h. h) (k.book.keeper class) (k.held.keepers class made));
          owners = λ pass made. view_longer (OwnsPass pass) views (view [] [] None (Some l) None) (k.book.owner pass)
              (view_set (OwnsPass pass) s.views id (view seen heard o (Some l) t) (view seen heard o None t) e (λ h. h) (k.book.owner pass) (k.held.owners pass made));
        };
      }

  prunes_at : (l : Option Lead) (t : Option Branch) → get_elem? s.views id ≡ some (view seen heard o l t) → Kept (seats s (set s.views id (view seen heard o l None) ++ view [] [] None None t ∷ []))
  prunes_at l None e =
      let f = k.views id _ e in
      record {
        book = k.book;
        first = k.first;
        words = k.words;
        known = k.known;
        views = fit_snoc k.book (set s.views id (view seen heard o l None)) (view [] [] None None None)
            (fit_set k.book s.views id (view seen heard o l None) (λ j u apart h. k.views j u h) f)
            (fit_nobody k.book (length (set s.views id (view seen heard o l None))));
        held = held_longer k.book (set s.views id (view seen heard o l None)) nobody
            (held_set k.book s.views id (view seen heard o l None) (view seen heard o l None) e (same_rights (view seen heard o l None)) k.held);
      }
  prunes_at l (Some t) e =
      let f = k.views id _ e in
      let views = set s.views id (view seen heard o l None) in
      let n : ℕ = length views in
      let b : Book = with_keeper k.book t.class n in
      record {
        book = b;
        first = k.first;
        words = k.words;
        known = known_kept k.book t.class n k.known;
        views = fit_snoc b views (view [] [] None None (Some t))
            (fit_set b s.views id (view seen heard o l None) (λ j u apart h. rekeep k.book t.class n j u (λ same. apart (same ∙ f.branch.0)) (k.views j u h))
            (record { seen = f.seen; heard = f.heard; own = f.own; lead = f.lead; branch = tt }))
            (record { seen = prefix_nil b.base; heard = prefix_nil b.base; own = tt; lead = tt; branch = (upd_same k.book.keeper t.class t.class n refl, f.branch.1, f.branch.2, f.branch.3, f.branch.4) });
        held = record {
          leader = view_longer Leads views (view [] [] None None (Some t)) k.book.leader
              (view_set Leads s.views id (view seen heard o l (Some t)) (view seen heard o l None) e (λ h. h) k.book.leader k.held.leader);
          keepers = λ class made. keeper_moves (views ++ view [] [] None None (Some t) ∷ []) k.book.keeper t.class n
              (view_last (KeepsClass t.class) views (view [] [] None None (Some t)) refl) class
              (λ apart. view_longer (KeepsClass class) views (view [] [] None None (Some t)) (k.book.keeper class)
              (view_set (KeepsClass class) s.views id (view seen heard o l (Some t)) (view seen heard o l None) e (λ h. apart (sym h)) (k.book.keeper class) (k.held.keepers class made)));
          owners = λ pass made. view_longer (OwnsPass pass) views (view [] [] None None (Some t)) (k.book.owner pass)
              (view_set (OwnsPass pass) s.views id (view seen heard o l (Some t)) (view seen heard o l None) e (λ h. h) (k.book.owner pass) (k.held.owners pass made));
        };
      }

pub lends : (id : ℕ) (v : View) → Splits Kept id v (lent v) (lead_of v)
lends id v s k e = lends_at s k id v.seen v.heard v.own v.lead v.branch e

pub prunes : (id : ℕ) (v : View) → Splits Kept id v (pruned v) (branch_of v)
prunes id v s k e = prunes_at s k id v.seen v.heard v.own v.lead v.branch e

-- the view of another that joins
there : (views : List View) (id other : ℕ) (x w : View) → other ≢ id → get_elem? (set views id x) other ≡ some w → get_elem? views other ≡ some w
there views id other x w apart e = ⊎_elim (λ (t : (other ≡ id) × (x ≡ w)). absurd (apart t.0)) (λ (t : (other ≢ id) × (get_elem? views other ≡ some w)). t.1) (at_set views id other x w e)

-- two views change
fit_two : (b : Book) (views : List View) (id other : ℕ) (x y : View) → ((j : ℕ) (u : View) → j ≢ id → j ≢ other → get_elem? views j ≡ some u → Fits b j u) → Fits b id x → Fits b other y
    → (j : ℕ) (u : View) → get_elem? (set (set views id x) other y) j ≡ some u → Fits b j u
fit_two b views id other x y rest one two =
    fit_set b (set views id x) other y (λ j u apart h. ⊎_elim (λ (t : (j ≡ id) × (x ≡ u)). fit_at b j id u x t.0 (sym t.1) one) (λ (t : (j ≢ id) × (get_elem? views j ≡ some u)). rest j u t.0 apart t.1) (at_set views id j x u h)) two

-- no right of a class, and no pass, where there is none
no_class : (class : ℕ) (t : Option Branch) → t ≡ None → IsOfClass class t → ⊥
no_class class t none h = subst (λ (x : Option Branch). IsOfClass class x) none h

no_pass : (pass : ℕ) (o : Option Own) → o ≡ None → IsOfPass pass o → ⊥
no_pass pass o none h = subst (λ (x : Option Own). IsOfPass pass x) none h

no_lead : (l : Option Lead) → l ≡ None → has_lead l ≡ true → ⊥
no_lead l none h = false≢true (sym (ap has_lead none) ∙ h)

module _ (s : State Entry View) (k : Kept s) (id other : ℕ) (v : View) (mine : get_elem? s.views id ≡ some v) (far : other ≢ id) where
  takes_at : (w : View) (l : Option Lead) → has_lead l ≡ true → w.own ≡ None → w.branch ≡ None → get_elem? s.views other ≡ some (view w.seen w.heard w.own l w.branch)
      → Kept (seats s (set (set s.views id (view v.seen v.heard v.own l v.branch)) other nobody))
  takes_at w None has no_own no_branch e = absurd (false≢true has)
  takes_at w (Some l) has no_own no_branch e =
      let f = k.views id v mine in
      let g = k.views other _ e in
      let b : Book = with_leader k.book id in
      let x : View = view v.seen v.heard v.own (Some l) v.branch in
      let z : View = view w.seen w.heard w.own (Some l) w.branch in
      record {
        book = b;
        first = k.first;
        words = k.words;
        known = known_led k.book id k.known;
        views = fit_two b s.views id other x nobody (λ j u apart away h. relead k.book id j u (λ same. away (same ∙ g.lead.0)) (k.views j u h))
            (record { seen = f.seen; heard = f.heard; own = f.own; lead = (refl, g.lead.1, g.lead.2, g.lead.3, g.lead.4); branch = f.branch }) (fit_nobody b other);
        held = record {
          leader = view_else Leads (set s.views id x) other nobody id (λ same. far (sym same)) (view_new Leads s.views id v x mine refl);
          keepers = λ class made. view_join (KeepsClass class) s.views id other v x z nobody far mine e (λ h. h) (no_class class w.branch no_branch) (k.book.keeper class) (k.held.keepers class made);
          owners = λ pass made. view_join (OwnsPass pass) s.views id other v x z nobody far mine e (λ h. h) (no_pass pass w.own no_own) (k.book.owner pass) (k.held.owners pass made);
        };
      }

  grafts_at : (w : View) (t : Option Branch) → v.branch ≡ None → has_branch t ≡ true → w.own ≡ None → w.lead ≡ None → get_elem? s.views other ≡ some (view w.seen w.heard w.own w.lead t)
      → Kept (seats s (set (set s.views id (view v.seen v.heard v.own v.lead t)) other nobody))
  grafts_at w None free has no_own no_right e = absurd (false≢true has)
  grafts_at w (Some t) free has no_own no_right e =
      let f = k.views id v mine in
      let g = k.views other _ e in
      let b : Book = with_keeper k.book t.class id in
      let x : View = view v.seen v.heard v.own v.lead (Some t) in
      let z : View = view w.seen w.heard w.own w.lead (Some t) in
      let views = set (set s.views id x) other nobody in
      record {
        book = b;
        first = k.first;
        words = k.words;
        known = known_kept k.book t.class id k.known;
        views = fit_two b s.views id other x nobody (λ j u apart away h. rekeep k.book t.class id j u (λ same. away (same ∙ g.branch.0)) (k.views j u h))
            (record { seen = f.seen; heard = f.heard; own = f.own; lead = f.lead; branch = (upd_same k.book.keeper t.class t.class id refl, g.branch.1, g.branch.2, g.branch.3, g.branch.4) }) (fit_nobody b other);
        held = record {
          leader = view_join Leads s.views id other v x z nobody far mine e (λ h. h) (no_lead w.lead no_right) k.book.leader k.held.leader;
          keepers = λ class made. keeper_moves views k.book.keeper t.class id
              (view_else (KeepsClass t.class) (set s.views id x) other nobody id (λ same. far (sym same)) (view_new (KeepsClass t.class) s.views id v x mine refl)) class
              (λ apart. view_join (KeepsClass class) s.views id other v x z nobody far mine e (λ h. absurd (no_class class v.branch free h)) (λ h. apart (sym h)) (k.book.keeper class) (k.held.keepers class made));
          owners = λ pass made. view_join (OwnsPass pass) s.views id other v x z nobody far mine e (λ h. h) (no_pass pass w.own no_own) (k.book.owner pass) (k.held.owners pass made);
        };
      }

  hears_at : (w : View) → w.own ≡ None → w.lead ≡ None → w.branch ≡ None → get_elem? s.views other ≡ some w
      → Kept (seats s (set (set s.views id (view v.seen w.seen v.own v.lead v.branch)) other nobody))
  hears_at w no_own no_right no_branch e =
      let f = k.views id v mine in
      let g = k.views other w e in
      let x : View = view v.seen w.seen v.own v.lead v.branch in
      record {
        book = k.book;
        first = k.first;
        words = k.words;
        known = k.known;
        views = fit_two k.book s.views id other x nobody (λ j u apart away h. k.views j u h)
            (record { seen = f.seen; heard = g.seen; own = f.own; lead = f.lead; branch = f.branch }) (fit_nobody k.book other);
        held = record {
          leader = view_join Leads s.views id other v x w nobody far mine e (λ h. h) (no_lead w.lead no_right) k.book.leader k.held.leader;
          keepers = λ class made. view_join (KeepsClass class) s.views id other v x w nobody far mine e (λ h. h) (no_class class w.branch no_branch) (k.book.keeper class) (k.held.keepers class made);
          owners = λ pass made. view_join (OwnsPass pass) s.views id other v x w nobody far mine e (λ h. h) (no_pass pass w.own no_own) (k.book.owner pass) (k.held.owners pass made);
        };
      }

pub takes : (id : ℕ) (v : View) (other : ℕ) (w : View) → IsLeadAlone w → Joins Kept id v other w (led v w) nobody
takes id v other w alone s k e apart h = takes_at s k id other v e apart w w.lead alone.0 alone.1 alone.2 (there s.views id other (led v w) w apart h)

pub grafts : (id : ℕ) (v : View) (other : ℕ) (w : View) → v.branch ≡ None → IsBranchAlone w → Joins Kept id v other w (grafted v w) nobody
grafts id v other w free alone s k e apart h = grafts_at s k id other v e apart w w.branch free alone.0 alone.1 alone.2 (there s.views id other (grafted v w) w apart h)

pub hears : (id : ℕ) (v : View) (other : ℕ) (w : View) → w.own ≡ None → w.lead ≡ None → w.branch ≡ None → Joins Kept id v other w (hearing v w) nobody
hears id v other w no_own no_right no_branch s k e apart h = hears_at s k id other v e apart w no_own no_right no_branch (there s.views id other (hearing v w) w apart h)

pub notes : (id : ℕ) (v : View) → Splits Kept id v v (noted v)
notes id v s k e =
    let f = k.views id v e in
    record {
      book = k.book;
      first = k.first;
      words = k.words;
      known = k.known;
      views = fit_snoc k.book (set s.views id v) (noted v) (fit_set k.book s.views id v (λ j u apart h. k.views j u h) f)
          (record { seen = f.seen; heard = prefix_nil k.book.base; own = tt; lead = tt; branch = tt });
      held = held_longer k.book (set s.views id v) (noted v) (held_set k.book s.views id v v e (same_rights v) k.held);
    }
