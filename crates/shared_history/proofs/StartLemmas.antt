-- The table at the start, and a tail or a pass more.
use Rattle.std.proofs.Common.{add-one, ◌≡◌, ℕ, zero, suc, ◌+◌, ◌<◌, ◌≤◌, ◌≢◌, List, [], ◌∷◌, ◌++◌, length, replicate, set, refl, ap, sym, subst, ◌∙◌, arith, zero-le}
use Rattle.std.specs.Prelude.{Option, Some, None}
use mathlib.Core.Option.{some, some-injective, some-ne-none}
use lib.ListN.{get_elem?}
use Rattle.atomic_table.specs.Table.{State, Splits, opening}
use Rattle.carbon_history.specs.declared.entry.Entry.{Entry}
use Rattle.shared_history.specs.declared.view.Own.{Own}
use Rattle.shared_history.specs.declared.view.Lead.{Lead}
use Rattle.shared_history.specs.declared.view.Branch.{Branch}
use Rattle.shared_history.specs.declared.view.View.{View}
use Rattle.shared_history.specs.Views.{view, own, branch, founder, with_class, new_tail, with_pass, new_pass, one_class, new_branch, one_pass, new_own, nobody}
use Rattle.shared_history.specs.Rule.{Book, Fits, FitsOwn, FitsLead, FitsBranch, Kept, word_of, KeepsClass, Leads, OwnsPass}
use Rattle.shared_history.proofs.ListLemmas.{prefix_nil, upd, upd_same, upd_else}
use Rattle.shared_history.proofs.HeldLemmas.{before_next, held_longer, held_set, keeper_moves, owner_moves, same_rights, view_last, view_longer, view_set}
use Rattle.shared_history.proofs.FittingLemmas.{base_no_class, base_no_pass, fit_set, fit_snoc, fit_nobody}
use Rattle.shared_history.proofs.RightLemmas.{seats}

zeros : (n i m : ℕ) → get_elem? (replicate n 0) i ≡ some m → m ≡ 0
zeros zero i m e = absurd (some-ne-none m (sym e))
zeros (suc n) zero m e = sym (some-injective 0 m e)
zeros (suc n) (suc i) m e = zeros n i m e

abbrev pub blank : Book
blank = record { base = []; waiting = None; passes = 0; classes = 0; leader = 0; owner = λ n. 0; keeper = λ k. 0; settled = λ k. 0; runs = λ k. 0 }

blank_words : (i : ℕ) → 0 ≡ word_of blank i
blank_words zero = refl
blank_words (suc i) = refl

first_view : (by : ℕ) (v : View) → get_elem? (founder ∷ []) by ≡ some v → Fits blank by v
first_view zero v e = subst (λ (u : View). Fits blank 0 u) (some-injective founder v e) (record { seen = prefix_nil []; heard = prefix_nil []; own = tt; lead = (refl, refl, refl, refl, refl); branch = tt })
first_view (suc by) v e = absurd (some-ne-none v (sym e))

none_below : (n : ℕ) → n < 0 → ⊥
none_below n h = omega (arith, h)

some_words : (n : ℕ) → 0 < length {A = ℕ} (replicate (n + 1) 0)
some_words n = subst (λ (m : ℕ). 0 < length {A = ℕ} (replicate m 0)) (sym (add-one n)) (omega arith)

pub opens : (n : ℕ) → Kept (opening (replicate (n + 1) 0) [] founder)
opens n = record {
  book = blank;
  first = some_words n;
  words = λ i m e. zeros (n + 1) i m e ∙ blank_words i;
  known = record {
    few_passes = zero-le;
    no_pass = λ k h. refl;
    few = λ k. zero-le;
    no_class = λ k h. refl;
    no_state = λ k h. (refl, refl);
    owed = λ k. record { low = zero-le; high = zero-le };
  };
  views = first_view;
  held = record { leader = (founder, refl, refl); keepers = λ class made. absurd (none_below class made); owners = λ pass made. absurd (none_below pass made) };
}

self_le : (n : ℕ) → n ≤ n
self_le n = omega arith

one_below : (n : ℕ) → n < n + 1
one_below n = omega arith

-- one class more
abbrev pub more_classes : Book → ℕ → Book
more_classes b n = record b { classes = b.classes + 1; keeper = upd b.keeper b.classes n }

classed : (b : Book) (n j : ℕ) (o : Option Branch) → FitsBranch b j o → FitsBranch (more_classes b n) j o
classed b n j None f = tt
classed b n j (Some t) f =
    let lt = f.1 in
    let ne : t.class ≢ b.classes = λ e. omega arith in
    (upd_else b.keeper b.classes t.class n ne ∙ f.0, omega arith, f.2, f.3, f.4)

led_classed : (b : Book) (n j : ℕ) (o : Option Lead) → j ≢ b.leader → FitsLead b j o → FitsLead (more_classes b n) j o
led_classed b n j None apart f = tt
led_classed b n j (Some l) apart f = absurd (apart (sym f.0))

module _ (s : State Entry View) (k : Kept s) (id : ℕ) (seen heard : List Entry) (o : Option Own) (t : Option Branch) where
  tails_at : (l : Option Lead) → get_elem? s.views id ≡ some (view seen heard o l t) → Kept (seats s (set s.views id (view seen heard o (one_class l) t) ++ view [] [] None None (new_branch l) ∷ []))
  tails_at None e =
      let f = k.views id _ e in
      let views = set s.views id (view seen heard o None t) in
      record {
        book = k.book;
        first = k.first;
        words = k.words;
        known = k.known;
        views = fit_snoc k.book views (view [] [] None None None) (fit_set k.book s.views id (view seen heard o None t) (λ j u apart h. k.views j u h) f) (fit_nobody k.book (length views));
        held = held_longer k.book views nobody (held_set k.book s.views id (view seen heard o None t) (view seen heard o None t) e (same_rights (view seen heard o None t)) k.held);
      }
  tails_at (Some l) e =
      let f = k.views id _ e in
      let w : View = view seen heard o (one_class (Some l)) t in
      let old : View = view seen heard o (Some l) t in
      let new : View = view [] [] None None (new_branch (Some l)) in
      let views = set s.views id w in
      let n : ℕ = length views in
      let b = k.book in
      let b' : Book = more_classes b n in
      let kk : ℕ = b.classes in
      let at : l.classes ≡ kk = f.lead.3 in
      let z = k.known.no_state kk (self_le kk) in
      record {
        book = b';
        first = k.first;
        words = k.words;
        known = record {
          few_passes = k.known.few_passes;
          no_pass = k.known.no_pass;
          few = k.known.few;
          no_class = λ m h. k.known.no_class m (omega arith);
          no_state = λ m h. k.known.no_state m (omega arith);
          owed = k.known.owed;
        };
        views = fit_snoc b' views (view [] [] None None (new_branch (Some l)))
            (fit_set b' s.views id w
            (λ j u apart h.
            let g = k.views j u h in
            record { seen = g.seen; heard = g.heard; own = g.own; lead = led_classed b n j u.lead (λ same. apart (same ∙ f.lead.0)) g.lead; branch = classed b n j u.branch g.branch })
            (record { seen = f.seen; heard = f.heard; own = f.own; lead = (f.lead.0, f.lead.1, f.lead.2, ap (λ m. m + 1) at, f.lead.4); branch = classed b n id t f.branch }))
            (record {
              seen = prefix_nil b.base;
              heard = prefix_nil b.base;
              own = tt;
              lead = tt;
              branch = subst (λ (m : ℕ). FitsBranch b' n (Some (branch m [] 0 0))) (sym at)
                  (upd_same b.keeper kk kk n refl, one_below kk, sym (base_no_class b k.known kk (self_le kk)), sym z.0, sym z.1);
            });
        held = record {
          leader = view_longer Leads views new b.leader (view_set Leads s.views id old w e (λ h. h) b.leader k.held.leader);
          keepers = λ class made. keeper_moves (views ++ new ∷ []) b.keeper kk n (view_last (KeepsClass kk) views new at) class
              (λ apart. view_longer (KeepsClass class) views new (b.keeper class)
              (view_set (KeepsClass class) s.views id old w e (λ h. h) (b.keeper class) (k.held.keepers class (before_next class kk made apart))));
          owners = λ pass made. view_longer (OwnsPass pass) views new (b.owner pass) (view_set (OwnsPass pass) s.views id old w e (λ h. h) (b.owner pass) (k.held.owners pass made));
        };
      }

pub tails : (id : ℕ) (v : View) → Splits Kept id v (with_class v) (new_tail v)
tails id v s k e = tails_at s k id v.seen v.heard v.own v.branch v.lead e

-- fewer passes were made than there may be
abbrev pub HasRoom : Option Lead → Type 0
HasRoom None = Unit {0}
HasRoom (Some l) = l.passes < 65535

below_next : (n : ℕ) → n < 65535 → n + 1 ≤ 65535
below_next n h = omega arith

-- one pass more
abbrev pub more_passes : Book → ℕ → Book
more_passes b n = record b { passes = b.passes + 1; owner = upd b.owner b.passes n }

passed : (b : Book) (n j : ℕ) (seen : List Entry) (o : Option Own) → FitsOwn b seen j o → FitsOwn (more_passes b n) seen j o
passed b n j seen None f = tt
passed b n j seen (Some o) f =
    let lt = f.1 in
    let ne : o.number ≢ b.passes = λ e. omega arith in
    (upd_else b.owner b.passes o.number n ne ∙ f.0, omega arith, f.2, f.3, f.4)

led_passed : (b : Book) (n j : ℕ) (o : Option Lead) → j ≢ b.leader → FitsLead b j o → FitsLead (more_passes b n) j o
led_passed b n j None apart f = tt
led_passed b n j (Some l) apart f = absurd (apart (sym f.0))

module _ (s : State Entry View) (k : Kept s) (id : ℕ) (seen heard : List Entry) (o : Option Own) (t : Option Branch) where
  passes_at : (l : Option Lead) → HasRoom l → get_elem? s.views id ≡ some (view seen heard o l t) → Kept (seats s (set s.views id (view seen heard o (one_pass l) t) ++ view [] [] (new_own l) None None ∷ []))
  passes_at None room e =
      let f = k.views id _ e in
      let views = set s.views id (view seen heard o None t) in
      record {
        book = k.book;
        first = k.first;
        words = k.words;
        known = k.known;
        views = fit_snoc k.book views (view [] [] None None None) (fit_set k.book s.views id (view seen heard o None t) (λ j u apart h. k.views j u h) f) (fit_nobody k.book (length views));
        held = held_longer k.book views nobody (held_set k.book s.views id (view seen heard o None t) (view seen heard o None t) e (same_rights (view seen heard o None t)) k.held);
      }
  passes_at (Some l) room e =
      let f = k.views id _ e in
      let w : View = view seen heard o (one_pass (Some l)) t in
      let old : View = view seen heard o (Some l) t in
      let new : View = view [] [] (new_own (Some l)) None None in
      let views = set s.views id w in
      let n : ℕ = length views in
      let b = k.book in
      let b' : Book = more_passes b n in
      let kk : ℕ = b.passes in
      let at : l.passes ≡ kk = f.lead.2 in
      record {
        book = b';
        first = k.first;
        words = k.words;
        known = record {
          few_passes = subst (λ (m : ℕ). m + 1 ≤ 65535) at (below_next l.passes room);
          no_pass = λ m h. k.known.no_pass m (omega arith);
          few = k.known.few;
          no_class = k.known.no_class;
          no_state = k.known.no_state;
          owed = k.known.owed;
        };
        views = fit_snoc b' views (view [] [] (new_own (Some l)) None None)
            (fit_set b' s.views id w
            (λ j u apart h.
            let g = k.views j u h in
            record { seen = g.seen; heard = g.heard; own = passed b n j u.seen u.own g.own; lead = led_passed b n j u.lead (λ same. apart (same ∙ f.lead.0)) g.lead; branch = g.branch })
            (record { seen = f.seen; heard = f.heard; own = passed b n id seen o f.own; lead = (f.lead.0, f.lead.1, ap (λ m. m + 1) at, f.lead.3, f.lead.4); branch = f.branch }))
            (record {
              seen = prefix_nil b.base;
              heard = prefix_nil b.base;
              own = subst (λ (m : ℕ). FitsOwn b' [] n (Some (own m [] [] 0))) (sym at)
                  (upd_same b.owner kk kk n refl, one_below kk, base_no_pass b k.known kk (self_le kk), refl, λ m. (prefix_nil _, zero-le, zero-le));
              lead = tt;
              branch = tt;
            });
        held = record {
          leader = view_longer Leads views new b.leader (view_set Leads s.views id old w e (λ h. h) b.leader k.held.leader);
          keepers = λ class made. view_longer (KeepsClass class) views new (b.keeper class) (view_set (KeepsClass class) s.views id old w e (λ h. h) (b.keeper class) (k.held.keepers class made));
          owners = λ pass made. owner_moves (views ++ new ∷ []) b.owner kk n (view_last (OwnsPass kk) views new at) pass
              (λ apart. view_longer (OwnsPass pass) views new (b.owner pass)
              (view_set (OwnsPass pass) s.views id old w e (λ h. h) (b.owner pass) (k.held.owners pass (before_next pass kk made apart))));
        };
      }

pub passes : (id : ℕ) (v : View) → HasRoom v.lead → Splits Kept id v (with_pass v) (new_pass v)
passes id v room s k e = passes_at s k id v.seen v.heard v.own v.branch v.lead room e
