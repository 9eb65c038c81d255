-- The list grows, and a class's word follows.
use Rattle.std.proofs.Common.{◌≡◌, ℕ, zero, suc, ◌+◌, ◌%◌, ◌^◌, ◌<◌, ◌≤◌, ◌≢◌, ◌==◌, Bool, true, false, List, [], ◌∷◌, ◌++◌, length, refl, set, ap, sym, subst, ◌∙◌, arith, eq-eqb, eqb-true, ne_eqb, length-append, le_trans}
use Rattle.std.specs.Prelude.{Option, Some, None, filter}
use Rattle.std.proofs.lemmas.List.{append-nil, length-set}
use Rattle.std.proofs.lemmas.List.Elements.{filter-append}
use mathlib.Core.List.{IsPrefix}
use mathlib.Core.Option.{none}
use Rattle.atomic_table.specs.Table.{step, keeps, Allows}
use Rattle.carbon_history.specs.declared.entry.Entry.{Entry}
use Rattle.shared_history.specs.declared.view.Look.{Look}
use Rattle.shared_history.specs.declared.view.Own.{Own}
use Rattle.shared_history.specs.declared.view.Lead.{Lead}
use Rattle.shared_history.specs.declared.view.Branch.{Branch}
use Rattle.shared_history.specs.declared.view.View.{View}
use Rattle.carbon_history.specs.declared.entry.Entry.TheVariants.{Put, Drain, Ask, Fault}
use Rattle.metric_path.specs.Class.{class_of}
use Rattle.carbon_history.specs.Entries.{pass_of, is_about, is_drain, of_pass, about_class, drains, listed}
use Rattle.shared_history.specs.Views.{view, lead, branch, awaiting, entered, branch_with, look_at}
use Rattle.shared_history.specs.Plays.{Awaits, Enters}
use Rattle.shared_history.specs.Rule.{Book, LookFits, OneOwed, Fits, FitsOwn, FitsLead, FitsBranch, Kept, Known, word_of, IsOfClass}
use Rattle.shared_history.proofs.ListLemmas.{filter_fits, filter_hit, filter_longer, filter_miss, no_round, prefix_more, prefix_self, words_set}
use Rattle.shared_history.proofs.CountLemmas.{few_entries}
use Rattle.shared_history.proofs.HeldLemmas.{held_set, same_held}
use Rattle.shared_history.proofs.FittingLemmas.{base_no_class, base_no_pass, fit_set}

pub by_bit : (x : Bool) (P : Type 0) → (x ≡ true → P) → (x ≡ false → P) → P
by_bit true P hit miss = hit refl
by_bit false P hit miss = miss refl

-- an entry is appended, and waits
abbrev pub waited : Book → Entry → Book
waited b e = record b { waiting = Some e }

lead_waits : (b : Book) (e : Entry) (id j : ℕ) (o : Option Lead) → b.leader ≡ id → j ≢ id → FitsLead b j o → FitsLead (waited b e) j o
lead_waits b e id j None leads apart f = tt
lead_waits b e id j (Some l) leads apart f = absurd (apart (sym f.0 ∙ leads))

word_waits : (b : Book) (e : Entry) (j : ℕ) → j ≢ 0 → word_of (waited b e) j ≡ word_of b j
word_waits b e zero apart = absurd (apart refl)
word_waits b e (suc j) apart = refl

one_longer : (xs : List Entry) (e : Entry) (w : Option Entry) → None ≡ w → length (xs ++ e ∷ []) < 2 ^ 64
    → length (xs ++ e ∷ []) ≡ (length (xs ++ listed w) + 1) % 2 ^ 64
one_longer xs e w free small =
    no_round (length (xs ++ e ∷ [])) (length (xs ++ listed w))
    (length-append xs (e ∷ []) ∙ (ap (λ (ys : List Entry). length ys + 1) (sym (append-nil xs)) ∙ ap (λ x. length (xs ++ listed x) + 1) free)) small

-- an entry more in the base, and none waits
abbrev pub grown : Book → Entry → Book
grown b e = record b { base = b.base ++ e ∷ []; waiting = None }

look_grows : (b : Book) (e : Entry) (k : ℕ) (l : Look) → LookFits b k l → LookFits (grown b e) k l
look_grows b e k l f =
    (subst (λ (xs : List Entry). IsPrefix l.list xs) (sym (filter-append (is_about k) b.base (e ∷ []))) (prefix_more l.list (about_class k b.base) (filter (is_about k) (e ∷ [])) f.0), f.1, f.2)

one_more : (m n : ℕ) → m ≡ n + 1 → n < 2 ^ 48 → m ≤ 2 ^ 48
one_more m n e h = omega arith

owed_low : (s d d' : ℕ) → d' ≡ d + 1 → d ≡ s → s ≤ d'
owed_low s d d' longer all = omega arith

owed_high : (s d d' : ℕ) → d' ≡ d + 1 → d ≡ s → d' ≤ s + 1
owed_high s d d' longer all = omega arith

pub owed_drain : (settled : ℕ) (list : List Entry) (e : Entry) → is_drain e ≡ true → drains list ≡ settled → OneOwed settled (list ++ e ∷ [])
owed_drain settled list e drain all =
    let longer : drains (list ++ e ∷ []) ≡ drains list + 1 = ap length (filter_hit is_drain list e drain) ∙ length-append (filter is_drain list) (e ∷ []) in
    record { low = owed_low settled (drains list) (drains (list ++ e ∷ [])) longer all; high = owed_high settled (drains list) (drains (list ++ e ∷ [])) longer all }

pub owed_else : (settled : ℕ) (list : List Entry) (e : Entry) → is_drain e ≡ false → OneOwed settled list → OneOwed settled (list ++ e ∷ [])
owed_else settled list e other before =
    let same : drains list ≡ drains (list ++ e ∷ []) = ap length (sym (filter_miss is_drain list e other)) in
    record { low = subst (λ (n : ℕ). settled ≤ n) same before.low; high = subst (λ (n : ℕ). n ≤ settled + 1) same before.high }

-- what an entry needs, of the one whose seat is id: it is of its pass, and of its class
pub record Grows (b : Book) (id : ℕ) (e : Entry) : Type 0 where
  pub leader : b.leader ≡ id
  pub owner : b.owner (pass_of e) ≡ id
  pub made : pass_of e < b.passes
  pub class : (k : ℕ) → is_about k e ≡ true → (b.keeper k ≡ id) × (k < b.classes)
  pub room : length (of_pass (pass_of e) b.base) < 2 ^ 48
  pub settled : (k : ℕ) → is_about k e ≡ true → is_drain e ≡ true → drains (about_class k b.base) ≡ b.settled k

module _ (b : Book) (id : ℕ) (e : Entry) (g : Grows b id e) where
  own_else : (j : ℕ) (seen : List Entry) (o : Option Own) → j ≢ id → FitsOwn b seen j o → FitsOwn (grown b e) seen j o
  own_else j seen None apart f = tt
  own_else j seen (Some o) apart f =
      let ne : pass_of e ≢ o.number = λ same. apart (sym f.0 ∙ (ap b.owner (sym same) ∙ g.owner)) in
      (f.0, f.1, filter_miss (λ x. pass_of x == o.number) b.base e (ne_eqb (pass_of e) o.number ne) ∙ f.2, f.3, λ k. look_grows b e k (look_at k o.looks) (f.4 k))

  lead_else : (j : ℕ) (l : Option Lead) → j ≢ id → FitsLead b j l → FitsLead (grown b e) j l
  lead_else j None apart f = tt
  lead_else j (Some l) apart f = absurd (apart (sym f.0 ∙ g.leader))

  branch_else : (j : ℕ) (o : Option Branch) → j ≢ id → FitsBranch b j o → FitsBranch (grown b e) j o
  branch_else j None apart f = tt
  branch_else j (Some t) apart f =
      let miss : is_about t.class e ≡ false = by_bit (is_about t.class e) (is_about t.class e ≡ false) (λ h. absurd (apart (sym f.0 ∙ (g.class t.class h).0))) (λ h. h) in
      (f.0, f.1, f.2 ∙ sym (filter_miss (is_about t.class) b.base e miss), f.3, f.4)

  fits_else : (j : ℕ) (u : View) → j ≢ id → Fits b j u → Fits (grown b e) j u
  fits_else j u apart f = record {
    seen = prefix_more u.seen b.base (e ∷ []) f.seen;
    heard = prefix_more u.heard b.base (e ∷ []) f.heard;
    own = own_else j u.seen u.own apart f.own;
    lead = lead_else j u.lead apart f.lead;
    branch = branch_else j u.branch apart f.branch;
  }

  late : (n : ℕ) → b.passes ≤ n → pass_of e ≡ n → ⊥
  late n h same = let m = g.made in omega arith

  below : (k : ℕ) → b.classes ≤ k → k < b.classes → ⊥
  below k h lt = omega arith

  no_pass : Known b → (n : ℕ) → b.passes ≤ n → of_pass n (b.base ++ e ∷ []) ≡ []
  no_pass known n h = filter_miss (λ x. pass_of x == n) b.base e (ne_eqb (pass_of e) n (λ same. late n h same)) ∙ base_no_pass b known n h

  few : Known b → (n : ℕ) → length (of_pass n (b.base ++ e ∷ [])) ≤ 2 ^ 48
  few known n = by_bit (pass_of e == n) (length (of_pass n (b.base ++ e ∷ [])) ≤ 2 ^ 48)
      (λ hit.
      let room : length (of_pass n b.base) < 2 ^ 48 = subst (λ (m : ℕ). length (of_pass m b.base) < 2 ^ 48) (eqb-true (pass_of e) n hit) g.room in
      let longer : length (of_pass n (b.base ++ e ∷ [])) ≡ length (of_pass n b.base) + 1 =
      ap length (filter_hit (λ x. pass_of x == n) b.base e hit) ∙ length-append (of_pass n b.base) (e ∷ []) in
      one_more (length (of_pass n (b.base ++ e ∷ []))) (length (of_pass n b.base)) longer room)
      (λ miss.
      subst (λ (xs : List Entry). length xs ≤ 2 ^ 48) (sym (filter_miss (λ x. pass_of x == n) b.base e miss))
      (le_trans (filter_longer (λ x. pass_of x == n) b.base (listed b.waiting)) (known.few n)))

  no_class : Known b → (k : ℕ) → b.classes ≤ k → about_class k (b.base ++ e ∷ []) ≡ []
  no_class known k h =
      by_bit (is_about k e) (about_class k (b.base ++ e ∷ []) ≡ []) (λ hit. absurd (below k h (g.class k hit).1))
      (λ miss. filter_miss (is_about k) b.base e miss ∙ base_no_class b known k h)

  -- of a class's drains all are settled or all but one, also with this entry
  owed : Known b → (k : ℕ) → OneOwed (b.settled k) (about_class k (b.base ++ e ∷ []))
  owed known k =
      let before = known.owed k in
      by_bit (is_about k e) (OneOwed (b.settled k) (about_class k (b.base ++ e ∷ [])))
      (λ hit.
      subst (λ (xs : List Entry). OneOwed (b.settled k) xs) (sym (filter_hit (is_about k) b.base e hit))
      (by_bit (is_drain e) (OneOwed (b.settled k) (about_class k b.base ++ e ∷ []))
      (λ drain. owed_drain (b.settled k) (about_class k b.base) e drain (g.settled k hit drain))
      (λ other. owed_else (b.settled k) (about_class k b.base) e other before)))
      (λ miss. subst (λ (xs : List Entry). OneOwed (b.settled k) xs) (sym (filter_miss (is_about k) b.base e miss)) before)

  known_waits : Known b → Known (waited b e)
  known_waits known = record {
    few_passes = known.few_passes;
    no_pass = no_pass known;
    few = few known;
    no_class = no_class known;
    no_state = known.no_state;
    owed = known.owed;
  }

  same_list : b.base ++ e ∷ [] ≡ (b.base ++ e ∷ []) ++ []
  same_list = sym (append-nil (b.base ++ e ∷ []))

  known_grows : Known b → Known (grown b e)
  known_grows known = record {
    few_passes = known.few_passes;
    no_pass = λ n h. subst (λ (xs : List Entry). of_pass n xs ≡ []) same_list (no_pass known n h);
    few = λ n. subst (λ (xs : List Entry). length (of_pass n xs) ≤ 2 ^ 48) same_list (few known n);
    no_class = λ k h. subst (λ (xs : List Entry). about_class k xs ≡ []) same_list (no_class known k h);
    no_state = known.no_state;
    owed = owed known;
  }

-- an entry is of one class at most
same_class : (c k : ℕ) (e : Entry) → is_about c e ≡ true → is_about k e ≡ true → k ≡ c
same_class c k (Put pass path time value end) h i = sym (eqb-true (class_of path) k i) ∙ eqb-true (class_of path) c h
same_class c k (Drain pass path now) h i = sym (eqb-true (class_of path) k i) ∙ eqb-true (class_of path) c h
same_class c k (Ask pass number try now) h i = absurd cc
same_class c k (Fault pass class) h i = sym (eqb-true class k i) ∙ eqb-true class c h

-- the entry is of the class whose right is there; or it is of none
abbrev pub IsOf : Option Branch → Entry → Type 0
IsOf None e = (k : ℕ) → is_about k e ≡ false
IsOf (Some t) e = is_about t.class e ≡ true

-- a drain comes where all earlier ones of the class are settled
abbrev pub InTurn : Option Branch → Entry → Type 0
InTurn None e = Unit {0}
InTurn (Some t) e = is_drain e ≡ true → drains t.list ≡ t.settled

grows_by : (b : Book) (id : ℕ) (e : Entry) → b.leader ≡ id → b.owner (pass_of e) ≡ id → pass_of e < b.passes → length (of_pass (pass_of e) b.base) < 2 ^ 48
    → (t : Option Branch) → IsOf t e → InTurn t e → FitsBranch b id t → Grows b id e
grows_by b id e leads owns made room None of turn f = record {
  leader = leads;
  owner = owns;
  made = made;
  class = λ k hit. absurd (cc (of k));
  room = room;
  settled = λ k hit. absurd (cc (of k));
}
grows_by b id e leads owns made room (Some t) of turn f = record {
  leader = leads;
  owner = owns;
  made = made;
  room = room;
  settled = λ k hit drain.
      let same = same_class t.class k e of hit in
      subst (λ (m : ℕ). drains (about_class m b.base) ≡ b.settled m) (sym same) (ap drains (sym f.2) ∙ (turn drain ∙ f.3));
  class = λ k hit. let same = same_class t.class k e of hit in (ap b.keeper same ∙ f.0, subst (λ (m : ℕ). m < b.classes) (sym same) f.1);
}

branch_grows : (b : Book) (id : ℕ) (e : Entry) (t : Option Branch) → IsOf t e → FitsBranch b id t → FitsBranch (grown b e) id (branch_with t e)
branch_grows b id e None of f = tt
branch_grows b id e (Some t) of f = (f.0, f.1, ap (λ xs. xs ++ e ∷ []) f.2 ∙ sym (filter_hit (is_about t.class) b.base e of), f.3, f.4)

grows_own : (b : Book) (id : ℕ) (e : Entry) (o : Own) (seen : List Entry) (t : Option Branch) → b.leader ≡ id → pass_of e ≡ o.number → length o.mine < 2 ^ 48
    → IsOf t e → InTurn t e → FitsOwn b seen id (Some o) → FitsBranch b id t → Grows b id e
grows_own b id e o seen t leads of_it room of turn f branch =
    let mine : of_pass (pass_of e) b.base ≡ o.mine = ap (λ (n : ℕ). of_pass n b.base) of_it ∙ f.2 in
    grows_by b id e leads (ap b.owner of_it ∙ f.0) (subst (λ (m : ℕ). m < b.passes) (sym of_it) f.1)
    (subst (λ (xs : List Entry). length xs < 2 ^ 48) (sym mine) room) t of turn branch

-- a class's right with an entry more
class_stays : (class : ℕ) (t : Option Branch) (e : Entry) → IsOfClass class t → IsOfClass class (branch_with t e)
class_stays class None e h = h
class_stays class (Some t) e h = h

pub awaits : (slots id : ℕ) (seen heard : List Entry) (o : Own) (all : List Entry) (p c : ℕ) (t : Option Branch) (e : Entry)
    → pass_of e ≡ o.number → length o.mine < 2 ^ 48 → IsOf t e → InTurn t e
    → Allows Kept slots id (view seen heard (Some o) (Some (lead all p c None)) t, []) 0 (λ n. (n + 1) % 2 ^ 64)
    (Awaits e (step slots 0 1 0 none) (view seen heard (Some o) (Some (lead all p c None)) t, []))
awaits slots id seen heard o all p c t e of_it room of turn s k wide at low =
    let b = k.book in
    let v : View = view seen heard (Some o) (Some (lead all p c None)) t in
    let f = k.views id v at in
    let g : Grows b id e = grows_own b id e o seen t f.lead.0 of_it room of turn f.own f.branch in
    let b' : Book = waited b e in (
      awaiting e v,
      keeps,
      tt,
      record {
        book = b';
        first = subst (λ (n : ℕ). 0 < n) (sym (length-set s.words 0 _)) k.first;
        words = words_set s.words (word_of b) (word_of b') (λ n. (n + 1) % 2 ^ 64) 0 k.words
            (one_longer b.base e b.waiting f.lead.4 (few_entries b' (known_waits b id e g k.known))) (word_waits b e);
        known = known_waits b id e g k.known;
        views = fit_set b' s.views id (awaiting e v)
            (λ j u apart h.
            let g = k.views j u h in
            record { seen = g.seen; heard = g.heard; own = g.own; lead = lead_waits b e id j u.lead f.lead.0 apart g.lead; branch = g.branch })
            (record { seen = f.seen; heard = f.heard; own = f.own; lead = (f.lead.0, f.lead.1, f.lead.2, f.lead.3, refl); branch = f.branch });
        held = same_held b b' (set s.views id (awaiting e v)) refl refl refl refl refl
            (held_set b s.views id v (awaiting e v) at (record { lead = λ h. h; branch = λ class h. h; own = λ pass h. h }) k.held);
      },
      refl,
    )

-- the entry is in the list, whichever word the step is on
pub enters : (slots id word : ℕ) (seen heard all : List Entry) (o : Own) (p c : ℕ) (w : Option Entry) (e : Entry) (t : Option Branch) → pass_of e ≡ o.number → length o.mine < 2 ^ 48 → IsOf t e → InTurn t e
    → ((b : Book) → w ≡ b.waiting → length (b.base ++ e ∷ []) < 2 ^ 64 → (word_of (grown b e) word ≡ (word_of b word + 1) % 2 ^ 64) × ((j : ℕ) → j ≢ word → word_of (grown b e) j ≡ word_of b j))
    → Allows Kept slots id (view seen heard (Some o) (Some (lead all p c w)) t, []) word (λ n. (n + 1) % 2 ^ 64)
    (Enters e (step slots word 1 0 none) (view seen heard (Some o) (Some (lead all p c w)) t, []))
enters slots id word seen heard all o p c w e t of_it room of turn counts s k wide at low =
    let b = k.book in
    let v : View = view seen heard (Some o) (Some (lead all p c w)) t in
    let f = k.views id v at in
    let g : Grows b id e = grows_own b id e o seen t f.lead.0 of_it room of turn f.own f.branch in
    let hit : (pass_of e == o.number) ≡ true = eq-eqb (pass_of e) o.number of_it in
    let whole : of_pass o.number (b.base ++ e ∷ []) ≡ o.mine ++ e ∷ [] = filter_hit (λ x. pass_of x == o.number) b.base e hit ∙ ap (λ xs. xs ++ e ∷ []) f.own.2 in
    let all_is : all ++ e ∷ [] ≡ b.base ++ e ∷ [] = ap (λ xs. xs ++ e ∷ []) f.lead.1 in
    let mine : of_pass o.number (all ++ e ∷ []) ≡ o.mine ++ e ∷ [] = ap (of_pass o.number) all_is ∙ whole in
    let words = counts b f.lead.4 (few_entries (waited b e) (known_waits b id e g k.known)) in (
      entered e v,
      keeps,
      tt,
      record {
        book = grown b e;
        first = subst (λ (n : ℕ). 0 < n) (sym (length-set s.words word _)) k.first;
        words = words_set s.words (word_of b) (word_of (grown b e)) (λ n. (n + 1) % 2 ^ 64) word k.words words.0 words.1;
        known = known_grows b id e g k.known;
        views = fit_set (grown b e) s.views id (entered e v) (λ j u apart h. fits_else b id e g j u apart (k.views j u h))
            (record {
              seen = subst (λ (xs : List Entry). IsPrefix xs (b.base ++ e ∷ [])) (sym all_is) (prefix_self (b.base ++ e ∷ []));
              heard = prefix_more heard b.base (e ∷ []) f.heard;
              own = (f.own.0, f.own.1, whole, mine, λ m. look_grows b e m (look_at m o.looks) (f.own.4 m));
              lead = (f.lead.0, all_is, f.lead.2, f.lead.3, refl);
              branch = branch_grows b id e t of f.branch;
            });
        held = same_held b (grown b e) (set s.views id (entered e v)) refl refl refl refl refl
            (held_set b s.views id v (entered e v) at (record { lead = λ h. h; branch = λ class h. class_stays class t e h; own = λ pass h. h }) k.held);
      },
      (
        refl,
        subst (λ (xs : List Entry). IsPrefix seen xs) (sym f.lead.1) f.seen,
        mine,
        record { none_else = λ n h. ap (of_pass n) all_is ∙ no_pass b id e g k.known n (subst (λ (m : ℕ). m ≤ n) f.lead.2 h) },
      ),
    )

miss_else : (e : Entry) (k m : ℕ) → is_about k e ≡ true → m ≢ k → is_about m e ≡ false
miss_else e k m hit ne = by_bit (is_about m e) (is_about m e ≡ false) (λ h. absurd (ne (same_class k m e hit h))) (λ h. h)

class_same : (b : Book) (e : Entry) (m : ℕ) → is_about m e ≡ false → word_of (grown b e) (suc m) ≡ word_of b (suc m)
class_same b e m miss = ap length (filter_miss (is_about m) b.base e miss)

class_else : (e : Entry) (k : ℕ) → is_about k e ≡ true → (b : Book) → Some e ≡ b.waiting → (j : ℕ) → j ≢ suc k → word_of (grown b e) j ≡ word_of b j
class_else e k hit b waits zero apart = ap length (append-nil (b.base ++ e ∷ [])) ∙ ap (λ x. length (b.base ++ listed x)) waits
class_else e k hit b waits (suc m) apart = class_same b e m (miss_else e k m hit (λ same. apart (ap suc same)))

below_all : (m n : ℕ) → m ≤ n → n < 2 ^ 64 → m < 2 ^ 64
below_all m n le lt = omega (arith, le, lt)

class_longer : (b : Book) (e : Entry) (k : ℕ) → is_about k e ≡ true → length (b.base ++ e ∷ []) < 2 ^ 64 → word_of (grown b e) (suc k) ≡ (word_of b (suc k) + 1) % 2 ^ 64
class_longer b e k hit small =
    no_round (length (about_class k (b.base ++ e ∷ []))) (length (about_class k b.base))
    (ap length (filter_hit (is_about k) b.base e hit) ∙ length-append (about_class k b.base) (e ∷ []))
    (below_all _ _ (filter_fits (is_about k) (b.base ++ e ∷ [])) small)

-- the word of the class counts the entry that waits
pub class_counts : (e : Entry) (k word : ℕ) → word ≡ suc k → is_about k e ≡ true → (b : Book) → Some e ≡ b.waiting → length (b.base ++ e ∷ []) < 2 ^ 64
    → (word_of (grown b e) word ≡ (word_of b word + 1) % 2 ^ 64) × ((j : ℕ) → j ≢ word → word_of (grown b e) j ≡ word_of b j)
class_counts e k word is hit b waits small = (
  subst (λ (i : ℕ). word_of (grown b e) i ≡ (word_of b i + 1) % 2 ^ 64) (sym is) (class_longer b e k hit small),
  λ j apart. class_else e k hit b waits j (λ same. apart (same ∙ sym is)),
)

ask_else : (e : Entry) → ((k : ℕ) → is_about k e ≡ false) → (b : Book) → (j : ℕ) → j ≢ 0 → word_of (grown b e) j ≡ word_of b j
ask_else e away b zero apart = absurd (apart refl)
ask_else e away b (suc m) apart = class_same b e m (away m)

-- an entry of no class is in the list at once
pub ask_counts : (e : Entry) → ((k : ℕ) → is_about k e ≡ false) → (b : Book) → None ≡ b.waiting → length (b.base ++ e ∷ []) < 2 ^ 64
    → (word_of (grown b e) 0 ≡ (word_of b 0 + 1) % 2 ^ 64) × ((j : ℕ) → j ≢ 0 → word_of (grown b e) j ≡ word_of b j)
ask_counts e away b waits small = (ap length (append-nil (b.base ++ e ∷ [])) ∙ one_longer b.base e b.waiting waits small, ask_else e away b)
