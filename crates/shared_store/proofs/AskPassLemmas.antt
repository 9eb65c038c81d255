-- What a pass looks at and enters in a question.
use Rattle.std.proofs.Common.{◌≡◌, ◌≢◌, ◌⊎◌, inl, inr, ◌∙◌, ℕ, zero, suc, ◌<◌, ◌≤◌, ◌+◌, ◌==◌, ◌^◌, if◌then◌else◌, Bool, true, false, cond, List, [], ◌∷◌, ◌++◌, length, refl, sym, ap, subst, arith, length-append}
use Rattle.std.specs.Prelude.{Contains, filter, slice_index_or, slice_set}
use Rattle.std.proofs.lemmas.Grind.{get_or-set_at}
use Rattle.std.proofs.lemmas.Bool.Decides.{eqb_tells}
use Rattle.std.proofs.lemmas.List.{append_assoc, append_cancel_left, append-nil, get_or-set_other}
use Rattle.std.proofs.lemmas.List.Elements.{Contains-append_left, Contains-append_right, Contains-append_cases, filter-append}
use Rattle.std.specs.declared.sync.MutexGuard.{MutexGuard}
use mathlib.Core.List.{IsPrefix}
use Rattle.metric_path.specs.Class.{class_of, fnv1a}
use Rattle.std.proofs.Math.Nat.{mod-lt}
use Rattle.carbon_history.specs.declared.entry.Entry.{Entry}
use Rattle.carbon_history.specs.declared.entry.Entry.TheVariants.{Ask, Drain, Fault}
use Rattle.carbon_history.specs.Entries.{NamesPasses, about_class, is_about, of_pass}
use Rattle.carbon_model.specs.State.{State}
use Rattle.carbon_model.specs.Replay.{IsLegalHistory}
use Rattle.carbon_model.proofs.HistoryLemmas.{legal_more}
use Rattle.render_need.specs.declared.need.Need.{Need}
use Rattle.shared_history.specs.declared.view.Look.{Look}
use Rattle.shared_history.specs.Events.{MayAsk, ask_by}
use Rattle.shared_history.specs.Parts.{IsNoMore, OrderValue, PassValue, TailValue, greatest_ask, look_now, order_with, own_entries, pass_looking, pass_seeing}
use Rattle.shared_history.specs.Views.{look_at}
use Rattle.shared_history.proofs.ListLemmas.{prefix_self}
use Rattle.shared_store.specs.Asking.{AreDesksOf, EntersBehind, EntersFault, EntersTries, EntersTry, HadSeen, MarksAll, MarksClass, OnlyLooks, SeesDesks, SeesMore, Tries, WasDrained}
use Rattle.shared_store.specs.Desks.{DeskValue}
use Rattle.shared_store.specs.Passes.{Enters, EntersLast, IsNoLess, LooksOn, SameLooks}
use Rattle.shared_store.proofs.LookLemmas.{looked}

-- ---- lists

pub prefix_both : {A : Type 0} (xs ys zs : List A) → IsPrefix xs ys → IsPrefix ys zs → IsPrefix xs zs
prefix_both xs ys zs p q = (p.0 ++ q.0, sym (append_assoc xs p.0 q.0) ∙ (ap (λ w. w ++ q.0) p.1 ∙ q.1))

-- what ends with one more than it had
pub behind_last : {A : Type 0} (xs rest before : List A) (x : A) → xs ++ rest ≡ before ++ x ∷ [] → (rest ≡ [] → ⊥)
    → (between : List A) × (before ++ x ∷ [] ≡ (xs ++ between) ++ x ∷ [])
behind_last xs [] before x e some = absurd (some refl)
behind_last [] (y ∷ rest) before x e some = (before, refl)
behind_last (z ∷ xs) (y ∷ rest) [] x e some = absurd (omega (arith, ap length e, length-append xs (y ∷ rest)))
behind_last (z ∷ xs) (y ∷ rest) (w ∷ before) x e some =
    let more = behind_last xs (y ∷ rest) before x (cc e) some in
    let first : w ≡ z = cc e in
    (more.0, ap (λ l. w ∷ l) more.1 ∙ ap (λ v. v ∷ ((xs ++ more.0) ++ x ∷ [])) first)

-- one that is put into its place
pub put_one : {X : Type 0} (P : X → Type 0) (xs : List X) (i k : ℕ) (y d : X) → i < length xs → (k ≢ i → P (slice_index_or xs k d)) → (k ≡ i → P y) → P (slice_index_or (slice_set xs i y) k d)
put_one P xs i k y d within others here = by (eqb_tells k i)
  where
    by : (((k == i) ≡ true) × (k ≡ i)) ⊎ (((k == i) ≡ false) × (k ≢ i)) → P (slice_index_or (slice_set xs i y) k d)
    by (inl same) = subst P (sym (get_or-set_at xs i k y d same.1 within)) (here same.1)
    by (inr apart) = subst P (sym (get_or-set_other xs i k y d apart.1)) (others apart.1)

pub below_apart : (k i : ℕ) → k < i + 1 → k ≢ i → k < i
below_apart zero zero less apart = absurd (apart refl)
below_apart zero (suc i) less apart = omega arith
below_apart (suc k) zero less apart = absurd (omega (arith, less))
below_apart (suc k) (suc i) less apart = omega (arith, below_apart k i (omega (arith, less)) (λ e. apart (ap suc e)))

-- ---- looks

le_refl : (a : ℕ) → a ≤ a
le_refl a = omega arith

le_both : (a b c : ℕ) → a ≤ b → b ≤ c → a ≤ c
le_both a b c p q = omega (arith, p, q)

no_less_itself : (l : Look) → IsNoLess l l
no_less_itself l = record { list = prefix_self l.list; settled = le_refl l.settled; runs = le_refl l.runs; times = le_refl l.times }

no_less_both : (a b c : Look) → IsNoLess a b → IsNoLess b c → IsNoLess a c
no_less_both a b c p q = record {
  list = prefix_both a.list b.list c.list p.list q.list;
  settled = le_both a.settled b.settled c.settled p.settled q.settled;
  runs = le_both a.runs b.runs c.runs p.runs q.runs;
  times = le_both a.times b.times c.times p.times q.times;
}

pub on_same : (old new : PassValue) → SameLooks old new → LooksOn old new
on_same old new same = record {
  classes = λ k. subst (λ (ls : List Look). IsNoLess (look_at k old.looks) (look_at k ls)) (sym same.looks) (no_less_itself (look_at k old.looks));
  sights = same.sights;
}

pub on_both : (old mid new : PassValue) → LooksOn old mid → LooksOn mid new → LooksOn old new
on_both old mid new p q = record {
  classes = λ k. no_less_both (look_at k old.looks) (look_at k mid.looks) (look_at k new.looks) (p.classes k) (q.classes k);
  sights = le_both old.sights mid.sights new.sights p.sights q.sights;
}

pub on_itself : (pass : PassValue) → LooksOn pass pass
on_itself pass = record { classes = λ k. no_less_itself (look_at k pass.looks); sights = le_refl pass.sights }

pub only_itself : (pass : PassValue) → OnlyLooks pass pass
only_itself pass = record { table = refl; number = refl; seen = refl; on = on_itself pass }

pub only_both : (old mid new : PassValue) → OnlyLooks old mid → OnlyLooks mid new → OnlyLooks old new
only_both old mid new p q = record {
  table = q.table ∙ p.table;
  number = q.number ∙ p.number;
  seen = q.seen ∙ p.seen;
  on = on_both old mid new p.on q.on;
}

pub own_same : (old new : PassValue) → OnlyLooks old new → own_entries new ≡ own_entries old
own_same old new only = λ i. of_pass (only.number i) (only.seen i)

same_sights : (a b : ℕ) → b ≡ a → a ≤ b
same_sights a b e = omega (arith, e)

one_time : (n : ℕ) → n ≤ n + 1
one_time n = omega arith

pub marks_class : (tail : TailValue) (old new : PassValue) → new ≡ pass_looking old (look_now tail old) → IsNoMore (look_at tail.class old.looks) tail
    → MarksClass tail.class tail.list old new
marks_class tail old new is more =
    let l = looked tail old new is in record {
      only = record {
        table = l.table;
        number = l.number;
        seen = l.seen;
        on = record { classes = λ k. by k (eqb_tells k tail.class) l.here l.others; sights = same_sights old.sights new.sights l.sights };
      };
      before = more.list;
      has = ap (λ (x : Look). x.list) l.here;
      others = l.others;
    }
  where
    here : look_at tail.class new.looks ≡ look_now tail old → IsNoLess (look_at tail.class old.looks) (look_at tail.class new.looks)
    here e = subst (λ (x : Look). IsNoLess (look_at tail.class old.looks) x) (sym e)
        (record { list = more.list; settled = more.settled; runs = more.runs; times = one_time (look_at tail.class old.looks).times })

    by : (k : ℕ) → (((k == tail.class) ≡ true) × (k ≡ tail.class)) ⊎ (((k == tail.class) ≡ false) × (k ≢ tail.class)) → look_at tail.class new.looks ≡ look_now tail old
        → ((other : ℕ) → other ≢ tail.class → look_at other new.looks ≡ look_at other old.looks) → IsNoLess (look_at k old.looks) (look_at k new.looks)
    by k (inl same) e others = subst (λ (j : ℕ). IsNoLess (look_at j old.looks) (look_at j new.looks)) (sym same.1) (here e)
    by k (inr apart) e others = subst (λ (x : Look). IsNoLess (look_at k old.looks) x) (sym (others k apart.1)) (no_less_itself (look_at k old.looks))

-- ---- entries

pub enters_both : (start : State) (passes : ℕ) (xs ys : List Entry) (old mid new : PassValue) → Enters start passes xs old mid → Enters start passes ys mid new
    → Enters start passes (xs ++ ys) old new
enters_both start passes xs ys old mid new p q = record {
  table = q.table ∙ p.table;
  number = q.number ∙ p.number;
  begins = prefix_both old.seen mid.seen new.seen p.begins q.begins;
  legal = q.legal;
  made = q.made;
  once = q.once ∙ (ap (λ (es : List Entry). es ++ ys) p.once ∙ append_assoc (own_entries old) xs ys);
}

-- looks before and behind them
pub enters_only : (start : State) (passes : ℕ) (xs : List Entry) (old mid new : PassValue) → Enters start passes xs old mid → OnlyLooks mid new
    → Enters start passes xs old new
enters_only start passes xs old mid new p only = record {
  table = only.table ∙ p.table;
  number = only.number ∙ p.number;
  begins = subst (IsPrefix old.seen) (sym only.seen) p.begins;
  legal = subst (IsLegalHistory start) (sym only.seen) p.legal;
  made = subst (NamesPasses passes) (sym only.seen) p.made;
  once = own_same mid new only ∙ p.once;
}

pub only_enters : (start : State) (passes : ℕ) (xs : List Entry) (old mid new : PassValue) → OnlyLooks old mid → Enters start passes xs mid new
    → Enters start passes xs old new
only_enters start passes xs old mid new only p = record {
  table = p.table ∙ only.table;
  number = p.number ∙ only.number;
  begins = subst (λ (l : List Entry). IsPrefix l new.seen) only.seen p.begins;
  legal = p.legal;
  made = p.made;
  once = p.once ∙ ap (λ (es : List Entry). es ++ xs) (own_same old mid only);
}

longer : (n m : ℕ) → n ≡ m → m ≡ n + 1 → ⊥
longer n m e more = omega (arith, e, more)

-- the entry that was made last is behind all that was seen before
pub enters_fault : (start : State) (passes class : ℕ) (tail : TailValue) (old new : PassValue) → tail.class ≡ class
    → EntersLast start passes tail (Fault old.number tail.class) old new → EntersFault start passes class old new
enters_fault start passes class tail old new here last =
    let e : Entry = Fault old.number tail.class in
    let behind = behind_last old.seen last.enters.begins.0 last.before e (last.enters.begins.1 ∙ last.last) (some last.enters.begins.0 last.enters.begins.1) in
    subst (λ (k : ℕ). EntersFault start passes k old new) here (record {
      enters = last.enters;
      between = behind.0;
      last = last.last ∙ behind.1;
      on = on_same old new last.same;
    })
  where
    some : (rest : List Entry) → old.seen ++ rest ≡ new.seen → rest ≡ [] → ⊥
    some rest is none =
        let seen : new.seen ≡ old.seen = sym is ∙ (ap (λ (l : List Entry). old.seen ++ l) none ∙ append-nil old.seen) in
        let own : own_entries new ≡ own_entries old = λ i. of_pass (last.enters.number i) (seen i) in
        longer (length (own_entries new)) (length (own_entries old ++ Fault old.number tail.class ∷ []))
        (ap length last.enters.once) (length-append (own_entries old) (Fault old.number tail.class ∷ []) ∙ ap (λ (es : List Entry). length es + 1) (sym own))

pub fault_behind : (start : State) (passes class : ℕ) (old mid new : PassValue) → OnlyLooks old mid → EntersFault start passes class mid new
    → EntersFault start passes class old new
fault_behind start passes class old mid new only fault = record {
  enters = subst (λ (n : ℕ). Enters start passes (Fault n class ∷ []) old new) only.number (only_enters start passes (Fault mid.number class ∷ []) old mid new only fault.enters);
  between = fault.between;
  last = fault.last ∙ (λ i. (only.seen i ++ fault.between) ++ Fault (only.number i) class ∷ []);
  on = on_both old mid new only.on fault.on;
}

-- ---- a try is entered

pub enters_try : (start : State) (passes : ℕ) (order order' : OrderValue) (old new : PassValue) (try now : ℕ) → order.passes ≡ passes → IsLegalHistory start order.list
    → order' ≡ order_with order (ask_by old try now) → new ≡ pass_seeing old order'.list → own_entries new ≡ own_entries old ++ ask_by old try now ∷ []
    → IsPrefix old.seen order.list → NamesPasses order'.passes order'.list
    → EntersTry start passes order.list (ask_by old try now) old new
enters_try start passes order order' old new try now count legal order_is new_is once begins made =
    let e : Entry = ask_by old try now in
    let seen : new.seen ≡ order.list ++ e ∷ [] = ap (λ (p : PassValue). p.seen) new_is ∙ ap (λ (o : OrderValue). o.list) order_is in
    record {
      enters = record {
        table = ap (λ (p : PassValue). p.table) new_is;
        number = ap (λ (p : PassValue). p.number) new_is;
        begins = subst (IsPrefix old.seen) (sym seen) (prefix_both old.seen order.list (order.list ++ e ∷ []) begins (e ∷ [], refl));
        legal = subst (IsLegalHistory start) (sym seen) (legal_more start order.list e legal tt);
        made = subst (NamesPasses passes) (sym (ap (λ (p : PassValue). p.seen) new_is))
            (subst (λ (n : ℕ). NamesPasses n order'.list) (ap (λ (o : OrderValue). o.passes) order_is ∙ count) made);
        once = once;
      };
      begins = begins;
      seen = seen;
      same = record { looks = ap (λ (p : PassValue). p.looks) new_is; sights = same_sights old.sights new.sights (ap (λ (p : PassValue). p.sights) new_is) };
    }

-- a try is about no class
pub ask_out : (k : ℕ) (list : List Entry) (pass : PassValue) (try now : ℕ) → about_class k (list ++ ask_by pass try now ∷ []) ≡ about_class k list
ask_out k list pass try now = filter-append (is_about k) list (ask_by pass try now ∷ []) ∙ append-nil (about_class k list)

pub desks_entered : (list : List Entry) (pass : PassValue) (try now : ℕ) (seen : List Entry) (desks : List (MutexGuard DeskValue)) → seen ≡ list ++ ask_by pass try now ∷ []
    → AreDesksOf list desks → AreDesksOf seen desks
desks_entered list pass try now seen desks is are = λ k d less. let it = are k d less in record {
  class = it.class;
  list = it.list ∙ (sym (ask_out k list pass try now) ∙ ap (about_class k) (sym is));
}

pub enters_behind : (start : State) (passes : ℕ) (list : List Entry) (entry : Entry) (old new : PassValue) → EntersTry start passes list entry old new
    → EntersBehind start passes entry old new
enters_behind start passes list entry old new e = record {
  between = e.begins.0;
  seen = e.seen ∙ ap (λ (l : List Entry). l ++ entry ∷ []) (sym e.begins.1);
  enters = e.enters;
  same = e.same;
}

-- before a look at all classes
pub enters_tries : (start : State) (passes : ℕ) (old mid new : PassValue) (try now : ℕ) → EntersBehind start passes (ask_by old try now) old mid → MarksAll mid.seen mid new
    → EntersTries start passes now try old new
enters_tries start passes old mid new try now enters marks = record {
  between = enters.between;
  seen = marks.only.seen ∙ enters.seen;
  enters = enters_only start passes (ask_by old try now ∷ []) old mid new enters.enters marks.only;
  had = λ k few. record {
    begins = subst (λ (l : List Entry). IsPrefix (look_at k old.looks).list l) (ap (about_class k) enters.seen ∙ ask_out k (old.seen ++ enters.between) old try now)
        (subst (λ (ls : List Look). IsPrefix (look_at k ls).list (about_class k mid.seen)) enters.same.looks (marks.had k few).begins);
  };
  on = on_both old mid new (on_same old mid enters.same) marks.only.on;
}

-- ---- more was seen before a try

pub more_itself : (pass : PassValue) → SeesMore pass pass
more_itself pass = record { table = refl; number = refl; begins = prefix_self pass.seen; once = refl; on = on_itself pass }

pub more_both : (first old new : PassValue) → SeesMore first old → SeesMore old new → SeesMore first new
more_both first old new p q = record {
  table = q.table ∙ p.table;
  number = q.number ∙ p.number;
  begins = prefix_both first.seen old.seen new.seen p.begins q.begins;
  once = q.once ∙ p.once;
  on = on_both first old new p.on q.on;
}

pub sees_more : (start : State) (passes : ℕ) (old new : PassValue) → Enters start passes [] old new → LooksOn old new → SeesMore old new
sees_more start passes old new enters on = record {
  table = enters.table;
  number = enters.number;
  begins = enters.begins;
  once = enters.once ∙ append-nil (own_entries old);
  on = on;
}

-- the pass sees the history that all desks have, and looks at them
pub sees_desks : (start : State) (passes : ℕ) (old mid new : PassValue) → Enters start passes [] old mid → SameLooks old mid → MarksAll mid.seen mid new → SeesDesks old new
sees_desks start passes old mid new enters same marks = record {
  more = sees_more start passes old new (enters_only start passes [] old mid new enters marks.only) (on_both old mid new (on_same old mid same) marks.only.on);
  had = λ k few. record {
    begins = subst (λ (l : List Entry). IsPrefix (look_at k old.looks).list (about_class k l)) (sym marks.only.seen)
        (subst (λ (ls : List Look). IsPrefix (look_at k ls).list (about_class k mid.seen)) same.looks (marks.had k few).begins);
  };
}

pub enters_later : (start : State) (passes : ℕ) (xs : List Entry) (first old new : PassValue) → SeesMore first old → Enters start passes xs old new → Enters start passes xs first new
enters_later start passes xs first old new more p = record {
  table = p.table ∙ more.table;
  number = p.number ∙ more.number;
  begins = prefix_both first.seen old.seen new.seen more.begins p.begins;
  legal = p.legal;
  made = p.made;
  once = p.once ∙ ap (λ (es : List Entry). es ++ xs) more.once;
}

asks_as : (try now : ℕ) (first old : PassValue) → SeesMore first old → ask_by old try now ≡ ask_by first try now
asks_as try now first old more =
    λ i. Ask (more.number i) (if try == 1 then greatest_ask (more.once i) + 1 else greatest_ask (more.once i)) try now

pub tries_later : (start : State) (passes now try : ℕ) (first old new : PassValue) → SeesMore first old → EntersTries start passes now try old new → EntersTries start passes now try first new
tries_later start passes now try first old new more t =
    let e : ask_by old try now ≡ ask_by first try now = asks_as try now first old more in
    let behind : old.seen ++ t.between ≡ first.seen ++ (more.begins.0 ++ t.between) =
    ap (λ (l : List Entry). l ++ t.between) (sym more.begins.1) ∙ append_assoc first.seen more.begins.0 t.between in
    record {
      between = more.begins.0 ++ t.between;
      seen = t.seen ∙ (λ i. behind i ++ e i ∷ []);
      enters = enters_later start passes (ask_by first try now ∷ []) first old new more (subst (λ (x : Entry). Enters start passes (x ∷ []) old new) e t.enters);
      had = λ k few. record {
        begins = subst (λ (l : List Entry). IsPrefix (look_at k first.looks).list (about_class k l)) behind
            (prefix_both (look_at k first.looks).list (look_at k old.looks).list (about_class k (old.seen ++ t.between)) (more.on.classes k).list (t.had k few).begins);
      };
      on = on_both first old new more.on t.on;
    }

pub may_later : (try : ℕ) (first old : PassValue) → SeesMore first old → MayAsk first try → MayAsk old try
may_later try first old more may = record {
  first = may.first;
  last = may.last;
  asked = λ other. subst (λ (es : List Entry). 0 < greatest_ask es) (sym more.once) (may.asked other);
  room = subst (λ (es : List Entry). length es < 2 ^ 48) (sym more.once) may.room;
}

pub room_later : (first old : PassValue) → SeesMore first old → length (own_entries first) + 2 ≤ 2 ^ 48 → length (own_entries old) + 2 ≤ 2 ^ 48
room_later first old more room = subst (λ (es : List Entry). length es + 2 ≤ 2 ^ 48) (sym more.once) room

-- desks that have the entries of two histories, and others that have those of the first, have those of the second
pub desks_too : (list more : List Entry) (desks others : List (MutexGuard DeskValue)) → length desks ≡ 16 → length others ≡ 16 → AreDesksOf list desks → AreDesksOf more desks
    → AreDesksOf list others → AreDesksOf more others
desks_too list more desks others all sixteen are too these = λ k d less.
    let within : k < length desks = omega (arith, all, sixteen, less) in
    let one = these k d less in record { class = one.class; list = one.list ∙ (sym (are k d within).list ∙ (too k d within).list) }

-- ---- what moved on was drained meanwhile

kept_one : {A : Type 0} (p : A → Bool) (x : A) (b : Bool) (y : A) → p x ≡ b → Contains (cond (p x) (x ∷ []) []) y → x ≡ y
kept_one p x true y is c = first (subst (λ (b : Bool). Contains (cond b (x ∷ []) []) y) is c)
  where
    first : Contains (x ∷ []) y → x ≡ y
    first (zero, l, e) = e
    first (suc k, l, e) = absurd (omega (arith, l))
kept_one p x false y is c = none (subst (λ (b : Bool). Contains (cond b (x ∷ []) []) y) is c)
  where
    none : Contains [] y → x ≡ y
    none (k, l, e) = absurd (omega (arith, l))

pub from_filter : {A : Type 0} (p : A → Bool) (xs : List A) (y : A) → Contains (filter p xs) y → Contains xs y
from_filter p [] y c = c
from_filter p (x ∷ xs) y c = elim (Contains-append_cases (cond (p x) (x ∷ []) []) (filter p xs) y (subst (λ l. Contains l y) (filter-append p (x ∷ []) xs) c)) [
  | inl here ↦ (0, omega arith, kept_one p x (p x) y refl here)
  | inr later ↦ Contains-append_right (x ∷ []) xs y (from_filter p xs y later)
]

few_classes : (path : List ℕ) → class_of path < 16
few_classes path = mod-lt (fnv1a path) (omega arith)

pub was_drained_meanwhile : (path : List ℕ) (old : PassValue) (between : List Entry) → HadSeen (old.seen ++ between) old (class_of path) → (was : WasDrained path old)
    → Contains between (Drain was.by path was.at)
was_drained_meanwhile path old between heard was =
    let k : ℕ = class_of path in
    let seen : List Entry = about_class k old.seen in
    let drain : Entry = Drain was.by path was.at in
    let whole : seen ++ (was.rest ++ heard.begins.0) ≡ seen ++ about_class k between =
    sym (append_assoc seen was.rest heard.begins.0)
    ∙ (ap (λ (l : List Entry). l ++ heard.begins.0) (sym was.list) ∙ (heard.begins.1 ∙ filter-append (is_about k) old.seen between)) in
    let cut : was.rest ++ heard.begins.0 ≡ about_class k between = append_cancel_left seen (was.rest ++ heard.begins.0) (about_class k between) whole in
    from_filter (is_about k) between drain (subst (λ (l : List Entry). Contains l drain) cut (Contains-append_left was.rest heard.begins.0 drain was.drained))

pub tries_entered : (start : State) (passes now : ℕ) (needs : List Need) (try : ℕ) (old new : PassValue) → EntersTries start passes now try old new
    → Tries start passes now needs try old new
tries_entered start passes now needs try old new e = record {
  between = e.between;
  seen = e.seen;
  enters = e.enters;
  since = λ moved. record {
    path = moved.path;
    read = moved.one;
    pass = moved.was.by;
    at = moved.was.at;
    drained = was_drained_meanwhile moved.path old e.between (e.had (class_of moved.path) (few_classes moved.path)) moved.was;
  };
}

pub tries_looked : (start : State) (passes now : ℕ) (needs : List Need) (try : ℕ) (old mid new : PassValue) → Tries start passes now needs try old mid → OnlyLooks mid new
    → Tries start passes now needs try old new
tries_looked start passes now needs try old mid new tries only = record {
  between = tries.between;
  seen = only.seen ∙ tries.seen;
  enters = enters_only start passes (ask_by old try now ∷ []) old mid new tries.enters only;
  since = tries.since;
}
