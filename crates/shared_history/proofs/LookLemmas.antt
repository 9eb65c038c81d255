-- Steps that read: what they tell, and what they change.
use Rattle.std.proofs.Common.{◌≡◌, ℕ, zero, suc, ◌+◌, ◌<◌, ◌≤◌, ◌≢◌, ◌==◌, inl, inr, Bool, cond, List, [], ◌∷◌, ◌++◌, length, get_or, refl, set, ap, sym, subst, ◌∙◌, arith, eq-eqb, ne_eqb, le_trans}
use Rattle.std.specs.Prelude.{Option, Some, None}
use Rattle.std.proofs.lemmas.List.{append-nil, length-set}
use mathlib.Core.List.{IsPrefix}
use mathlib.Core.Option.{none}
use native.Mathlib.Decide.{ℕ_discrete, dec_le}
use Rattle.atomic_table.specs.Table.{Step, step, Me, keeps, Allows}
use Rattle.carbon_history.specs.declared.entry.Entry.{Entry}
use Rattle.shared_history.specs.declared.view.Look.{Look}
use Rattle.shared_history.specs.declared.view.Own.{Own}
use Rattle.shared_history.specs.declared.view.Lead.{Lead}
use Rattle.shared_history.specs.declared.view.Branch.{Branch}
use Rattle.shared_history.specs.declared.view.View.{View}
use Rattle.carbon_history.specs.Entries.{listed, pass_of, is_about, of_pass, about_class, drains}
use Rattle.shared_history.specs.Views.{view, branch, look, sighted, own_sees, marked, look_at}
use Rattle.shared_history.specs.Plays.{Sees, Learns, Agrees, Settles, Runs, Marks, HasOwn, Closes}
use Rattle.shared_history.specs.Rule.{IsOfPass, Book, LookFits, OneOwed, Fits, FitsOwn, FitsBranch, Kept, Known, whole, word_of}
use Rattle.shared_history.proofs.ListLemmas.{at_first, prefix_nil, prefix_self, prefix_shorter, prefix_filter, prefix_whole, prefix_length, words_set, upd, upd_same, upd_else}
use Rattle.shared_history.proofs.HeldLemmas.{HasAll, held_set, same_held}
use Rattle.shared_history.proofs.FittingLemmas.{base_no_pass, fit_set}

-- a load of the first word, which counts the history
reads : (slots id : ℕ) (v : View) (c : List (ℕ × Entry)) (then : ℕ → Me Entry View → Type 0)
    → ((b : Book) → Known b → Fits b id v → (w : View) × Fits b id w × HasAll v w × ((n : ℕ) → n ≡ length (whole b) → then n (w, c)))
    → Allows Kept slots id (v, c) 0 (λ n. n) then
reads slots id v c then next s k wide e low =
    let t = next k.book k.known (k.views id v e) in (
      t.0,
      keeps,
      tt,
      record {
        book = k.book;
        first = subst (λ (n : ℕ). 0 < n) (sym (length-set s.words 0 _)) k.first;
        words = words_set s.words (word_of k.book) (word_of k.book) (λ n. n) 0 k.words refl (λ j apart. refl);
        known = k.known;
        views = fit_set k.book s.views id t.0 (λ j u apart h. k.views j u h) t.1;
        held = held_set k.book s.views id v t.0 e t.2 k.held;
      },
      t.3 (get_or s.words 0 0) (k.words 0 (get_or s.words 0 0) (at_first s.words k.first)),
    )

-- a pass that sees is the pass that it was
pass_stays : (pass : ℕ) (o : Option Own) → IsOfPass pass o → IsOfPass pass (own_sees o)
pass_stays pass None h = h
pass_stays pass (Some o) h = h

own_sees_fits : (b : Book) (id : ℕ) (seen all : List Entry) (o : Option Own) → all ≡ b.base → FitsOwn b seen id o → FitsOwn b all id (own_sees o)
own_sees_fits b id seen all None e f = tt
own_sees_fits b id seen all (Some o) e f = (f.0, f.1, f.2, ap (of_pass o.number) e ∙ f.2, f.4)

own_sees_has : (b : Book) (id : ℕ) (seen all : List Entry) (o : Option Own) → all ≡ b.base → FitsOwn b seen id o → HasOwn (own_sees o) all
own_sees_has b id seen all None e f = tt
own_sees_has b id seen all (Some o) e f = ap (of_pass o.number) e ∙ f.2

pub sees : (slots id : ℕ) (seen heard : List Entry) (o : Option Own) (l : Lead) (t : Option Branch)
    → Allows Kept slots id (view seen heard o (Some l) t, []) 0 (λ n. n) (Sees (step slots 0 0 0 none) (view seen heard o (Some l) t, []))
sees slots id seen heard o l t = reads slots id (view seen heard o (Some l) t) [] (Sees (step slots 0 0 0 none) (view seen heard o (Some l) t, []))
    (λ b known f. (
      sighted (view seen heard o (Some l) t),
      record { seen = subst (λ (xs : List Entry). IsPrefix xs b.base) (sym f.lead.1) (prefix_self b.base); heard = f.heard; own = own_sees_fits b id seen l.all o f.lead.1 f.own; lead = f.lead; branch = f.branch },
      record { lead = λ h. h; branch = λ class h. h; own = λ pass h. pass_stays pass o h },
      λ n count. (
        refl,
        subst (λ (xs : List Entry). IsPrefix seen xs) (sym f.lead.1) f.seen,
        own_sees_has b id seen l.all o f.lead.1 f.own,
        record { none_else = λ m h. ap (of_pass m) f.lead.1 ∙ base_no_pass b known m (subst (λ (q : ℕ). q ≤ m) f.lead.2 h) },
      ),
    ))

pub agrees : (slots id : ℕ) (seen heard : List Entry) (o : Option Own) (l : Lead) (k : ℕ) (list : List Entry) (x y : ℕ)
    → Allows Kept slots id (view seen heard o (Some l) (Some (branch k list x y)), []) 0 (λ n. n) (Agrees (step slots 0 0 0 none) (view seen heard o (Some l) (Some (branch k list x y)), []))
agrees slots id seen heard o l k list x y =
    reads slots id (view seen heard o (Some l) (Some (branch k list x y))) [] (Agrees (step slots 0 0 0 none) (view seen heard o (Some l) (Some (branch k list x y)), []))
    (λ b known f. (
      view seen heard o (Some l) (Some (branch k list x y)),
      f,
      record { lead = λ h. h; branch = λ class h. h; own = λ pass h. h },
      λ n count. (refl, f.branch.2 ∙ ap (about_class k) (sym f.lead.1)),
    ))

pub closes : (slots id : ℕ) (seen heard : List Entry) (o : Option Own) (l : Lead) (t : Option Branch)
    → Allows Kept slots id (view seen heard o (Some l) t, []) 0 (λ n. n) (Closes (step slots 0 0 0 none) (view seen heard o (Some l) t, []))
closes slots id seen heard o l t =
    reads slots id (view seen heard o (Some l) t) [] (Closes (step slots 0 0 0 none) (view seen heard o (Some l) t, []))
    (λ b known f. (
      view seen heard o (Some l) t,
      f,
      record { lead = λ h. h; branch = λ class h. h; own = λ pass h. h },
      λ n count. (
        refl,
        record { none_else = λ m h. ap (of_pass m) f.lead.1 ∙ base_no_pass b known m (subst (λ (q : ℕ). q ≤ m) f.lead.2 h) },
        λ free. count ∙ (ap (λ x. length (b.base ++ listed x)) (sym f.lead.4 ∙ free) ∙ ap length (append-nil b.base ∙ sym f.lead.1)),
      ),
    ))

look_cases : (b : Book) (k m : ℕ) (l : Look) (ls : List Look) → l.class ≡ k → LookFits b k l → LookFits b m (look_at m ls) → Dec (k ≡ m) → LookFits b m (look_at m (l ∷ ls))
look_cases b k m l ls is new old (yes same) = subst (λ (x : Bool). LookFits b m (cond x l (look_at m ls))) (sym (eq-eqb l.class m (is ∙ same))) (subst (λ (n : ℕ). LookFits b n l) same new)
look_cases b k m l ls is new old (no ne) = subst (λ (x : Bool). LookFits b m (cond x l (look_at m ls))) (sym (ne_eqb l.class m (λ e. ne (sym is ∙ e)))) old

le_is : (m n : ℕ) → m ≡ n → m ≤ n
le_is m n e = omega arith

pub marks : (slots id : ℕ) (seen heard : List Entry) (o : Own) (h : Option Lead) (k : ℕ) (list : List Entry) (x y : ℕ)
    → Allows Kept slots id (view seen heard (Some o) h (Some (branch k list x y)), []) 0 (λ n. n) (Marks (step slots 0 0 0 none) (view seen heard (Some o) h (Some (branch k list x y)), []))
marks slots id seen heard o h k list x y =
    let t : Branch = branch k list x y in
    let v : View = view seen heard (Some o) h (Some t) in
    reads slots id v [] (Marks (step slots 0 0 0 none) (v, []))
    (λ b known f.
    let whole : list ≡ about_class k b.base = f.branch.2 in
    let before = f.own.4 k in
    let fresh : LookFits b k (look k list x y ((look_at k o.looks).times + 1)) = (subst (λ (xs : List Entry). IsPrefix list xs) whole (prefix_self list), le_is _ _ f.branch.3, le_is _ _ f.branch.4) in (
      marked v,
      record { seen = f.seen; heard = f.heard; own = (f.own.0, f.own.1, f.own.2, f.own.3, λ m. look_cases b k m (look k list x y ((look_at k o.looks).times + 1)) o.looks refl fresh (f.own.4 m) (ℕ_discrete k m)); lead = f.lead; branch = f.branch },
      record { lead = λ h. h; branch = λ class h. h; own = λ pass h. h },
      λ n count. (
        refl,
        (
          subst (λ (xs : List Entry). IsPrefix (look_at k o.looks).list xs) (sym whole) before.0,
          subst (λ (z : ℕ). (look_at k o.looks).settled ≤ z) (sym f.branch.3) before.1,
          subst (λ (z : ℕ). (look_at k o.looks).runs ≤ z) (sym f.branch.4) before.2,
          subst (λ (xs : List Entry). IsPrefix (about_class k seen) xs) (sym whole) (prefix_filter (is_about k) seen b.base f.seen),
        ),
      ),
    ))

-- a list between two with the same own entries has these too
own_between : (b : Book) (id : ℕ) (seen heard : List Entry) (o : Option Own) → IsPrefix seen heard → IsPrefix heard b.base → FitsOwn b seen id o → FitsOwn b heard id o
own_between b id seen heard None p q f = tt
own_between b id seen heard (Some o) p q f =
    let n = o.number in
    let low : IsPrefix (of_pass n seen) (of_pass n heard) = prefix_filter (λ x. pass_of x == n) seen heard p in
    let high : IsPrefix (of_pass n heard) (of_pass n b.base) = prefix_filter (λ x. pass_of x == n) heard b.base q in
    let fits : length (of_pass n heard) ≤ length (of_pass n seen) =
    subst (λ (xs : List Entry). length (of_pass n heard) ≤ length xs) (f.2 ∙ sym f.3) (prefix_length (of_pass n heard) (of_pass n b.base) high) in
    let same : of_pass n seen ≡ of_pass n heard = prefix_whole (of_pass n seen) (of_pass n heard) low fits in
    (f.0, f.1, f.2, sym same ∙ f.3, f.4)

own_has : (b : Book) (id : ℕ) (seen : List Entry) (o : Option Own) → FitsOwn b seen id o → HasOwn o seen
own_has b id seen None f = tt
own_has b id seen (Some o) f = f.3

learns_at : (b : Book) (id : ℕ) (seen heard : List Entry) (o : Option Own) (l : Option Lead) (t : Option Branch) (m : Step Entry) → Fits b id (view seen heard o l t) → Dec (length seen ≤ length heard)
    → (w : View) × Fits b id w × HasAll (view seen heard o l t) w × ((n : ℕ) → n ≡ length (whole b) → Learns m (view seen heard o l t, []) n (w, []))
learns_at b id seen heard o l t m f (yes le) =
    let p : IsPrefix seen heard = prefix_shorter seen heard b.base f.seen f.heard le in
    let own' : FitsOwn b heard id o = own_between b id seen heard o p f.heard f.own in (
      view heard [] o l t,
      record { seen = f.heard; heard = prefix_nil b.base; own = own'; lead = f.lead; branch = f.branch },
      record { lead = λ h. h; branch = λ class h. h; own = λ pass h. h },
      λ n count. (refl, inr refl, p, prefix_self heard, own_has b id heard o own'),
    )
learns_at b id seen heard o l t m f (no lt) =
    let p : IsPrefix heard seen = prefix_shorter heard seen b.base f.heard f.seen (omega arith) in (
      view seen [] o l t,
      record { seen = f.seen; heard = prefix_nil b.base; own = f.own; lead = f.lead; branch = f.branch },
      record { lead = λ h. h; branch = λ class h. h; own = λ pass h. h },
      λ n count. (refl, inl refl, prefix_self seen, p, own_has b id seen o f.own),
    )

pub learns : (slots id : ℕ) (v : View) → Allows Kept slots id (v, []) 0 (λ n. n) (Learns (step slots 0 0 0 none) (v, []))
learns slots id v = reads slots id v [] (Learns (step slots 0 0 0 none) (v, []))
    (λ b known f. learns_at b id v.seen v.heard v.own v.lead v.branch (step slots 0 0 0 none) f (dec_le (length v.seen) (length v.heard)))

-- the state of a class rises
abbrev pub raised : Book → (ℕ → ℕ) → (ℕ → ℕ) → Book
raised b s r = record b { settled = s; runs = r }

upd_up : (f : ℕ → ℕ) (k m : ℕ) → Dec (m ≡ k) → f m ≤ upd f k (f k + 1) m
upd_up f k m (yes same) = let e = upd_same f k m (f k + 1) same in let g = ap f same in omega (arith, e, g)
upd_up f k m (no ne) = let e = upd_else f k m (f k + 1) ne in omega (arith, e)

raise_own : (b : Book) (s r : ℕ → ℕ) (j : ℕ) (seen : List Entry) (o : Option Own) → ((k : ℕ) → b.settled k ≤ s k) → ((k : ℕ) → b.runs k ≤ r k) → FitsOwn b seen j o → FitsOwn (raised b s r) seen j o
raise_own b s r j seen None up up' f = tt
raise_own b s r j seen (Some o) up up' f = (f.0, f.1, f.2, f.3, λ k. ((f.4 k).0, le_trans (f.4 k).1 (up k), le_trans (f.4 k).2 (up' k)))

raise_branch : (b : Book) (s r : ℕ → ℕ) (id k j : ℕ) (o : Option Branch) → b.keeper k ≡ id → j ≢ id → ((m : ℕ) → m ≢ k → (s m ≡ b.settled m) × (r m ≡ b.runs m)) → FitsBranch b j o → FitsBranch (raised b s r) j o
raise_branch b s r id k j None held apart others f = tt
raise_branch b s r id k j (Some t) held apart others f =
    let ne : t.class ≢ k = λ same. apart (sym f.0 ∙ (ap b.keeper same ∙ held)) in
    let o = others t.class ne in
    (f.0, f.1, f.2, f.3 ∙ sym o.0, f.4 ∙ sym o.1)

raised_words : (b : Book) (s r : ℕ → ℕ) (j : ℕ) → j ≢ 0 → word_of (raised b s r) j ≡ word_of b j
raised_words b s r zero apart = refl
raised_words b s r (suc j) apart = refl

apart_from : (n m k : ℕ) → n ≤ m → k < n → m ≢ k
apart_from n m k h lt e = omega arith

-- new states of the classes, of which class k's has these numbers and each other's is as it was
record Raise (b : Book) (k settled_now runs_now : ℕ) : Type 0 where
  settled : ℕ → ℕ
  runs : ℕ → ℕ
  more_settled : (m : ℕ) → b.settled m ≤ settled m
  more_runs : (m : ℕ) → b.runs m ≤ runs m
  others : (m : ℕ) → m ≢ k → (settled m ≡ b.settled m) × (runs m ≡ b.runs m)
  settled_is : settled_now ≡ settled k
  runs_is : runs_now ≡ runs k
  owed : (m : ℕ) → OneOwed (settled m) (about_class m b.base)

-- the seat of a class raises its state
raises : (slots id : ℕ) (seen heard : List Entry) (o : Option Own) (h : Option Lead) (k : ℕ) (list : List Entry) (x y x' y' : ℕ) (then : ℕ → Me Entry View → Type 0)
    → ((n : ℕ) → then n (view seen heard o h (Some (branch k list x' y')), []))
    → ((b : Book) → list ≡ about_class k b.base → ((m : ℕ) → OneOwed (b.settled m) (about_class m b.base)) → x ≡ b.settled k → y ≡ b.runs k → Raise b k x' y')
    → Allows Kept slots id (view seen heard o h (Some (branch k list x y)), []) 0 (λ n. n) then
raises slots id seen heard o h k list x y x' y' then told up s kept wide at low =
    let b = kept.book in
    let v : View = view seen heard o h (Some (branch k list x y)) in
    let w : View = view seen heard o h (Some (branch k list x' y')) in
    let f = kept.views id v at in
    let t = up b f.branch.2 kept.known.owed f.branch.3 f.branch.4 in
    let b' : Book = raised b t.settled t.runs in (
      w,
      keeps,
      tt,
      record {
        book = b';
        first = subst (λ (n : ℕ). 0 < n) (sym (length-set s.words 0 _)) kept.first;
        words = words_set s.words (word_of b) (word_of b') (λ n. n) 0 kept.words refl (raised_words b t.settled t.runs);
        known = record {
          few_passes = kept.known.few_passes;
          no_pass = kept.known.no_pass;
          few = kept.known.few;
          no_class = kept.known.no_class;
          no_state = λ m h.
              let ne : m ≢ k = apart_from b.classes m k h f.branch.1 in
              let z = kept.known.no_state m h in
              ((t.others m ne).0 ∙ z.0, (t.others m ne).1 ∙ z.1);
          owed = t.owed;
        };
        views = fit_set b' s.views id w
            (λ j u apart there.
            let g = kept.views j u there in
            record {
              seen = g.seen;
              heard = g.heard;
              own = raise_own b t.settled t.runs j u.seen u.own t.more_settled t.more_runs g.own;
              lead = g.lead;
              branch = raise_branch b t.settled t.runs id k j u.branch f.branch.0 apart t.others g.branch;
            })
            (record {
              seen = f.seen;
              heard = f.heard;
              own = raise_own b t.settled t.runs id seen o t.more_settled t.more_runs f.own;
              lead = f.lead;
              branch = (f.branch.0, f.branch.1, f.branch.2, t.settled_is, t.runs_is);
            });
        held = same_held b b' (set s.views id w) refl refl refl refl refl
            (held_set b s.views id v w at (record { lead = λ h. h; branch = λ class h. h; own = λ pass h. h }) kept.held);
      },
      told (get_or s.words 0 0),
    )

next_low : (s d : ℕ) → s < d → s + 1 ≤ d
next_low s d h = omega arith

next_high : (s d : ℕ) → d ≤ s + 1 → d ≤ (s + 1) + 1
next_high s d h = omega arith

owed_raised : (b : Book) (k m : ℕ) (list : List Entry) (x : ℕ) → list ≡ about_class k b.base → x ≡ b.settled k → x < drains list → OneOwed (b.settled m) (about_class m b.base) → Dec (m ≡ k)
    → OneOwed (upd b.settled k (b.settled k + 1) m) (about_class m b.base)
owed_raised b k m list x is e owes before (yes same) =
    let now : b.settled k < drains (about_class k b.base) = subst (λ (xs : List Entry). b.settled k < drains xs) is (subst (λ (n : ℕ). n < drains list) e owes) in
    let here : OneOwed (b.settled k) (about_class k b.base) = subst (λ (n : ℕ). OneOwed (b.settled n) (about_class n b.base)) same before in
    let new : OneOwed (b.settled k + 1) (about_class k b.base) = record {
      low = next_low (b.settled k) (drains (about_class k b.base)) now;
      high = next_high (b.settled k) (drains (about_class k b.base)) here.high;
    } in
    subst (λ (n : ℕ). OneOwed n (about_class m b.base)) (sym (upd_same b.settled k m (b.settled k + 1) same))
    (subst (λ (n : ℕ). OneOwed (b.settled k + 1) (about_class n b.base)) (sym same) new)
owed_raised b k m list x is e owes before (no ne) =
    subst (λ (n : ℕ). OneOwed n (about_class m b.base)) (sym (upd_else b.settled k m (b.settled k + 1) ne)) before

pub settles : (slots id : ℕ) (seen heard : List Entry) (o : Option Own) (h : Option Lead) (k : ℕ) (list : List Entry) (x y : ℕ) → x < drains list
    → Allows Kept slots id (view seen heard o h (Some (branch k list x y)), []) 0 (λ n. n)
    (Settles (step slots 0 0 0 none) (view seen heard o h (Some (branch k list x y)), []))
settles slots id seen heard o h k list x y owes =
    raises slots id seen heard o h k list x y (x + 1) y (Settles (step slots 0 0 0 none) (view seen heard o h (Some (branch k list x y)), [])) (λ n. refl)
    (λ b is owed e e'. record {
      settled = upd b.settled k (b.settled k + 1);
      runs = b.runs;
      more_settled = λ m. upd_up b.settled k m (ℕ_discrete m k);
      more_runs = λ m. le_is (b.runs m) (b.runs m) refl;
      others = λ m ne. (upd_else b.settled k m (b.settled k + 1) ne, refl);
      settled_is = ap (λ n. n + 1) e ∙ sym (upd_same b.settled k k (b.settled k + 1) refl);
      runs_is = e';
      owed = λ m. owed_raised b k m list x is e owes (owed m) (ℕ_discrete m k);
    })

pub runs : (slots id : ℕ) (seen heard : List Entry) (o : Option Own) (h : Option Lead) (k : ℕ) (list : List Entry) (x y : ℕ)
    → Allows Kept slots id (view seen heard o h (Some (branch k list x y)), []) 0 (λ n. n)
    (Runs (step slots 0 0 0 none) (view seen heard o h (Some (branch k list x y)), []))
runs slots id seen heard o h k list x y =
    raises slots id seen heard o h k list x y x (y + 1) (Runs (step slots 0 0 0 none) (view seen heard o h (Some (branch k list x y)), [])) (λ n. refl)
    (λ b is owed e e'. record {
      settled = b.settled;
      runs = upd b.runs k (b.runs k + 1);
      more_settled = λ m. le_is (b.settled m) (b.settled m) refl;
      more_runs = λ m. upd_up b.runs k m (ℕ_discrete m k);
      others = λ m ne. (refl, upd_else b.runs k m (b.runs k + 1) ne);
      settled_is = e;
      runs_is = ap (λ n. n + 1) e' ∙ sym (upd_same b.runs k k (b.runs k + 1) refl);
      owed = owed;
    })
