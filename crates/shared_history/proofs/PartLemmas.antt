-- What the rule says, part by part.
use Rattle.std.proofs.Common.{◌≡◌, ◌==◌, ◌∙◌, ℕ, suc, ◌≤◌, inl, inr, Bool, List, [], ◌∷◌, ◌++◌, length, get_or, refl, ap, sym, subst, arith}
use Rattle.std.specs.Prelude.{Option, Some, None, filter}
use Rattle.std.proofs.lemmas.List.{append-nil}
use mathlib.Core.List.{IsPrefix}
use mathlib.Core.Option.{some}
use Rattle.atomic_table.specs.Table.{State}
use Rattle.carbon_history.specs.declared.entry.Entry.{Entry}
use Rattle.shared_history.specs.declared.view.Own.{Own}
use Rattle.shared_history.specs.declared.view.Lead.{Lead}
use Rattle.shared_history.specs.declared.view.Branch.{Branch}
use Rattle.shared_history.specs.declared.view.View.{View}
use Rattle.carbon_history.specs.Entries.{about_class, is_about, listed, pass_of}
use Rattle.shared_history.specs.Laws.{AllBegin, IsPart, Knows, LooksBehind, LooksOfMade, OneOrder, OneTail, PassesCount}
use Rattle.shared_history.specs.Rule.{FitsBranch, FitsLead, FitsOwn, Kept, OneOwed, whole}
use Rattle.shared_history.specs.Views.{look_at}
use Rattle.shared_history.proofs.CountLemmas.{few_entries}
use Rattle.shared_history.proofs.FittingLemmas.{base_no_class}
use Rattle.shared_history.proofs.GrowthLemmas.{by_bit}
use Rattle.shared_history.proofs.ListLemmas.{at_first, filter_hit, filter_miss, prefix_filter, prefix_more}

-- a part of a list with an entry that may be there
part_at : (f : Entry → Bool) (base : List Entry) (waiting : Option Entry) → IsPart f (base ++ listed waiting) (filter f base)
part_at f base None = inl (ap (filter f) (append-nil base))
part_at f base (Some e) =
    by_bit (f e) (IsPart f (base ++ e ∷ []) (filter f base)) (λ hit. inr (base, e, refl, filter_hit f base e hit)) (λ miss. inl (filter_miss f base e miss))

prefix_of_none : {A : Type 0} (xs ys : List A) → ys ≡ [] → IsPrefix xs ys → xs ≡ []
prefix_of_none [] ys is p = refl
prefix_of_none (x ∷ xs) ys is p = absurd (cc (p.1 ∙ is))

none_below : (n m : ℕ) → n ≤ m → m ≡ 0 → n ≡ 0
none_below n m few is = omega (arith, few, is)

module _ (s : State Entry View) (k : Kept s) where
  lead_fits : (i : ℕ) (v : View) (l : Lead) → Knows s i v → v.lead ≡ Some l → FitsLead k.book i (Some l)
  lead_fits i v l at is = subst (λ (o : Option Lead). FitsLead k.book i o) is (k.views i v at).lead

  branch_fits : (i : ℕ) (v : View) (t : Branch) → Knows s i v → v.branch ≡ Some t → FitsBranch k.book i (Some t)
  branch_fits i v t at is = subst (λ (o : Option Branch). FitsBranch k.book i o) is (k.views i v at).branch

  own_fits : (i : ℕ) (v : View) (o : Own) → Knows s i v → v.own ≡ Some o → FitsOwn k.book v.seen i (Some o)
  own_fits i v o at is = subst (λ (x : Option Own). FitsOwn k.book v.seen i x) is (k.views i v at).own

  pub one_order : OneOrder s (whole k.book)
  one_order = record {
    word = at_first s.words k.first ∙ ap some (k.words 0 (get_or s.words 0 0) (at_first s.words k.first));
    small = few_entries k.book k.known;
    some_seat = (k.book.leader, k.held.leader.0, k.held.leader.1, k.held.leader.2);
    one = λ i j v w l m at there is also. sym (lead_fits i v l at is).0 ∙ (lead_fits j w m there also).0;
    list = λ i v l at is.
        let f = lead_fits i v l at is in
        ap (λ xs. xs ++ listed k.book.waiting) (sym f.1) ∙ ap (λ x. l.all ++ listed x) (sym f.4);
  }

  pub one_tail : OneTail s (whole k.book) k.book.classes
  one_tail = record {
    one = λ i j v w t u at there is also same.
        sym (branch_fits i v t at is).0 ∙ (ap k.book.keeper same ∙ (branch_fits j w u there also).0);
    some_seat = λ class made. let h = k.held.keepers class made in (k.book.keeper class, h.0, h.1, h.2);
    made = λ i v t at is. (branch_fits i v t at is).1;
    part = λ i v t at is.
        subst (λ (xs : List Entry). IsPart (is_about t.class) (whole k.book) xs) (sym (branch_fits i v t at is).2)
        (part_at (is_about t.class) k.book.base k.book.waiting);
    word = λ i v t n at is word. k.words (suc t.class) n word ∙ ap length (sym (branch_fits i v t at is).2);
    owed = λ i v t at is.
        let f = branch_fits i v t at is in
        subst (λ (n : ℕ). OneOwed n t.list) (sym f.3) (subst (λ (xs : List Entry). OneOwed (k.book.settled t.class) xs) (sym f.2) (k.known.owed t.class));
    not_made = λ class n late word. k.words (suc class) n word ∙ ap length (base_no_class k.book k.known class late);
  }

  in_class : (xs : List Entry) (j : ℕ) (w : View) (t : Branch) → IsPrefix xs k.book.base → Knows s j w → w.branch ≡ Some t → IsPrefix (about_class t.class xs) t.list
  in_class xs j w t begins there is =
      subst (λ (ys : List Entry). IsPrefix (about_class t.class xs) ys) (sym (branch_fits j w t there is).2) (prefix_filter (is_about t.class) xs k.book.base begins)

  pub all_begin : AllBegin s (whole k.book)
  all_begin = record {
    seen = λ i v at. prefix_more v.seen k.book.base (listed k.book.waiting) (k.views i v at).seen;
    heard = λ i v at. prefix_more v.heard k.book.base (listed k.book.waiting) (k.views i v at).heard;
    seen_class = λ i j v w t at there is. in_class v.seen j w t (k.views i v at).seen there is;
    heard_class = λ i j v w t at there is. in_class v.heard j w t (k.views i v at).heard there is;
  }

  pub looks_behind : LooksBehind s
  looks_behind i j v w o t at there is also =
      let f = branch_fits j w t there also in
      let look = (own_fits i v o at is).4 t.class in
      record {
        list = subst (λ (xs : List Entry). IsPrefix (look_at t.class o.looks).list xs) (sym f.2) look.0;
        settled = subst (λ (n : ℕ). (look_at t.class o.looks).settled ≤ n) (sym f.3) look.1;
        runs = subst (λ (n : ℕ). (look_at t.class o.looks).runs ≤ n) (sym f.4) look.2;
      }

  pub looks_of_made : LooksOfMade s k.book.classes
  looks_of_made i v o class at is late =
      let look = (own_fits i v o at is).4 class in
      let state = k.known.no_state class late in
      let l = look_at class o.looks in
      record {
        list = prefix_of_none l.list (about_class class k.book.base) (base_no_class k.book k.known class late) look.0;
        settled = none_below l.settled (k.book.settled class) look.1 state.0;
        runs = none_below l.runs (k.book.runs class) look.2 state.1;
      }

  pub passes_count : PassesCount s (whole k.book) k.book.passes k.book.classes
  passes_count = record {
    few = k.known.few_passes;
    one = λ i j v w o p at there is also same. sym (own_fits i v o at is).0 ∙ (ap k.book.owner same ∙ (own_fits j w p there also).0);
    some_seat = λ pass made. let h = k.held.owners pass made in (k.book.owner pass, h.0, h.1, h.2);
    below = λ i v o at is. (own_fits i v o at is).1;
    names = record { none_else = k.known.no_pass };
    about = k.known.no_class;
    most = k.known.few;
    own = λ i v o at is.
        let f = own_fits i v o at is in
        subst (λ (xs : List Entry). IsPart (λ entry. pass_of entry == o.number) (whole k.book) xs) (f.2 ∙ sym f.3)
        (part_at (λ entry. pass_of entry == o.number) k.book.base k.book.waiting);
  }
