-- Calls that drain, one after the other, drain whole classes where they stand alone.
use Rattle.std.proofs.Common.{◌≡◌, ◌≢◌, ◌⊎◌, inl, inr, ◌∙◌, ℕ, suc, ◌<◌, ◌≤◌, ◌+◌, ◌-◌, ◌^◌, ◌==◌, Bool, true, false, cond, List, [], ◌∷◌, ◌++◌, length, refl, sym, ap, subst, arith, append_assoc, length-append, ne_eqb, add-one}
use Rattle.std.specs.Prelude.{filter, Result, Ok, Err}
use Rattle.std.proofs.lemmas.List.{append-nil, append_cancel_left, append_cancel_right}
use Rattle.std.proofs.lemmas.List.Elements.{filter-append}
use Rattle.std.proofs.lemmas.Bool.{cases_order}
use Rattle.std.proofs.lemmas.Bool.Decides.{eqb_tells, nat_tests}
use mathlib.Core.List.{IsPrefix}
use Rattle.metric_path.specs.Class.{class_of}
use Rattle.carbon_history.specs.declared.entry.Entry.{Entry}
use Rattle.carbon_history.specs.declared.entry.Entry.TheVariants as entry
use Rattle.carbon_history.specs.Entries.{NamesPasses, about_class, drains, is_about, is_drain, of_pass, pass_of}
use Rattle.carbon_model.specs.State.{State}
use Rattle.carbon_model.specs.Replay.{DrainsAll, DrainsClasses, DrainsSome, DrainsUpTo, IsDrainOf, IsLegalHistory, after, replay}
use Rattle.carbon_model.proofs.HistoryLemmas.{legal_parts, replay-append}
use Rattle.shared_history.proofs.ListLemmas.{filter_fits, prefix_self}
use Rattle.shared_history.specs.declared.view.Look.{Look}
use Rattle.shared_history.specs.Views.{look_at}
use Rattle.shared_history.specs.Parts.{PassValue, own_entries}
use Rattle.shared_store.specs.declared.drain_end.Stop.{Stop}
use Rattle.shared_store.specs.declared.drain_end.Stop.TheVariants as stop
use Rattle.shared_store.specs.declared.drain_end.DrainEnd.TheVariants as done
use Rattle.shared_store.specs.Passes.{Enters, HasRoom, IsNoLess, IsSettled, IsUnderWay, LooksAgain, LooksOn, SameLooks, planned_in, settled_in}
use Rattle.shared_store.specs.Steps.{FailedPlan, NeedsNoWrite, TookMetric, WasIdle}
use Rattle.shared_store.specs.Drains.{AreDrainsOf, DrainsFailing, DrainsFew, DrainsHere, DrainsNext, DrainsOne, DrainsPart, DrainsPartly, DrainsTo, DrainsToFault, EndsUnwritten, FailedRun, HasPlanned, IsOwed, IsWhole, LooksIn, RiseWithin, StoodAlone, StopsIn, StopsWriting, WritesTo, WritesWhole, drained_in, end_of}
use Rattle.shared_store.proofs.LookLemmas.{prefix_both}

-- ---- looks

no_less : (a : Look) → IsNoLess a a
no_less a = record { list = prefix_self a.list; settled = omega arith; runs = omega arith; times = omega arith }

no_less_both : (a b c : Look) → IsNoLess a b → IsNoLess b c → IsNoLess a c
no_less_both a b c first next = record {
  list = prefix_both a.list b.list c.list first.list next.list;
  settled = omega (arith, first.settled, next.settled);
  runs = omega (arith, first.runs, next.runs);
  times = omega (arith, first.times, next.times);
}

pub in_none : (class : ℕ) (pass : PassValue) → LooksIn class pass pass
in_none class pass = record { here = no_less (look_at class pass.looks); others = λ other apart. refl; sights = omega arith }

pub in_same : (class : ℕ) (old new : PassValue) → SameLooks old new → LooksIn class old new
in_same class old new same = record {
  here = subst (IsNoLess (look_at class old.looks)) (sym (ap (look_at class) same.looks)) (no_less (look_at class old.looks));
  others = λ other apart. ap (look_at other) same.looks;
  sights = same.sights;
}

pub in_again : (class : ℕ) (old new : PassValue) → LooksAgain class old new → LooksIn class old new
in_again class old new again = record {
  here = record { list = again.grows; settled = again.settled; runs = again.runs; times = omega (arith, again.times) };
  others = again.others;
  sights = again.sights;
}

pub in_both : (class : ℕ) (old mid new : PassValue) → LooksIn class old mid → LooksIn class mid new → LooksIn class old new
in_both class old mid new first next = record {
  here = no_less_both (look_at class old.looks) (look_at class mid.looks) (look_at class new.looks) first.here next.here;
  others = λ other apart. next.others other apart ∙ first.others other apart;
  sights = omega (arith, first.sights, next.sights);
}

pub on_none : (pass : PassValue) → LooksOn pass pass
on_none pass = record { classes = λ class. no_less (look_at class pass.looks); sights = omega arith }

pub on_more : (class : ℕ) (old mid new : PassValue) → LooksOn old mid → LooksIn class mid new → LooksOn old new
on_more class old mid new first next = record {
  classes = λ k. no_less_both (look_at k old.looks) (look_at k mid.looks) (look_at k new.looks) (first.classes k) (here k);
  sights = omega (arith, first.sights, next.sights);
}
  where
    here : (k : ℕ) → IsNoLess (look_at k mid.looks) (look_at k new.looks)
    here k = elim (eqb_tells k class) [
      | inl same ↦ subst (λ (c : ℕ). IsNoLess (look_at c mid.looks) (look_at c new.looks)) (sym same.1) next.here
      | inr other ↦ subst (IsNoLess (look_at k mid.looks)) (sym (next.others k other.1)) (no_less (look_at k mid.looks))
    ]

-- ---- what a pass made

-- the pass made these entries, whatever it sees besides
pub record Leads (made : List Entry) (old new : PassValue) : Type 0 where
  pub table : new.table ≡ old.table
  pub number : new.number ≡ old.number
  pub begins : IsPrefix old.seen new.seen
  pub once : own_entries new ≡ own_entries old ++ made

pub leads_none : (pass : PassValue) → Leads [] pass pass
leads_none pass = record { table = refl; number = refl; begins = prefix_self pass.seen; once = sym (append-nil (own_entries pass)) }

pub leads_both : (a b : List Entry) (old mid new : PassValue) → Leads a old mid → Leads b mid new → Leads (a ++ b) old new
leads_both a b old mid new first next = record {
  table = next.table ∙ first.table;
  number = next.number ∙ first.number;
  begins = prefix_both old.seen mid.seen new.seen first.begins next.begins;
  once = next.once ∙ (ap (λ (l : List Entry). l ++ b) first.once ∙ append_assoc (own_entries old) a b);
}

-- of a list that a filter leaves whole it leaves the front whole
front_left : {A : Type 0} (f : A → Bool) (xs ys : List A) → filter f xs ++ filter f ys ≡ xs ++ ys → filter f xs ≡ xs
front_left f [] ys e = refl
front_left {A} f (x ∷ xs) ys e = by (f x) e (front_left f xs ys)
  where
    by : (b : Bool) → cond b (x ∷ filter f xs) (filter f xs) ++ filter f ys ≡ x ∷ (xs ++ ys) → (filter f xs ++ filter f ys ≡ xs ++ ys → filter f xs ≡ xs)
        → cond b (x ∷ filter f xs) (filter f xs) ≡ x ∷ xs
    by true e more = ap (λ (l : List A). x ∷ l) (more (cc e))
    by false e more =
        absurd (omega (arith, ap length e, length-append (filter f xs) (filter f ys), length-append xs ys, filter_fits f xs, filter_fits f ys))

-- a call that stood alone did so in each of its parts
pub alone_parts : (a b : List Entry) (old mid new : PassValue) → Leads a old mid → Leads b mid new → StoodAlone (a ++ b) old new
    → StoodAlone a old mid × StoodAlone b mid new
alone_parts a b old mid new first next alone =
    let x = first.begins.0 in
    let y = next.begins.0 in
    let n = old.number in
    let mine : Entry → Bool = λ e. pass_of e == n in
    let both : x ++ y ≡ a ++ b = append_cancel_left old.seen (x ++ y) (a ++ b)
    (sym (append_assoc old.seen x y) ∙ (ap (λ (l : List Entry). l ++ y) first.begins.1 ∙ (next.begins.1 ∙ alone))) in
    let own_x : filter mine x ≡ a = append_cancel_left (filter mine old.seen) (filter mine x) a
    (sym (filter-append mine old.seen x) ∙ (ap (filter mine) first.begins.1 ∙ (ap (λ (k : ℕ). of_pass k mid.seen) (sym first.number) ∙ first.once))) in
    let own_y : filter mine y ≡ b = append_cancel_left (filter mine mid.seen) (filter mine y) b
    (sym (filter-append mine mid.seen y) ∙ (ap (filter mine) next.begins.1 ∙ (ap (λ (k : ℕ). of_pass k new.seen) (sym (next.number ∙ first.number))
    ∙ (next.once ∙ ap (λ (k : ℕ). of_pass k mid.seen ++ b) first.number)))) in
    let x_is : x ≡ a = sym (front_left mine x y ((λ i. own_x i ++ own_y i) ∙ sym both)) ∙ own_x in
    let y_is : y ≡ b = append_cancel_left a y b (ap (λ (l : List Entry). l ++ y) (sym x_is) ∙ both) in
    (sym first.begins.1 ∙ ap (λ (l : List Entry). old.seen ++ l) x_is, sym next.begins.1 ∙ ap (λ (l : List Entry). mid.seen ++ l) y_is)

-- ---- drains of a class

pub are_both : (pass class now : ℕ) (xs ys : List Entry) → AreDrainsOf pass class now xs → AreDrainsOf pass class now ys → AreDrainsOf pass class now (xs ++ ys)
are_both pass class now [] ys first next = next
are_both pass class now (x ∷ xs) ys first next = (first.0, are_both pass class now xs ys first.1 next)

are_some : (s : State) (pass class now : ℕ) (xs : List Entry) → AreDrainsOf pass class now xs → IsLegalHistory s xs → DrainsSome s pass class now xs
are_some s pass class now [] are legal = tt
are_some s pass class now (x ∷ xs) are legal = (are.0, (legal.0, are_some (after s x) pass class now xs are.1 legal.1))

-- they are about no other class
not_about : (pass class now k : ℕ) (e : Entry) → IsDrainOf pass class now e → k ≢ class → is_about k e ≡ false
not_about pass class now k (entry.Put by path time value end) is apart = absurd is
not_about pass class now k (entry.Drain by path at) is apart = ne_eqb (class_of path) k (λ same. apart (sym same ∙ is.1.0))
not_about pass class now k (entry.Ask by number try at) is apart = absurd is
not_about pass class now k (entry.Fault by of_class) is apart = absurd is

are_apart : (pass class now k : ℕ) (xs : List Entry) → AreDrainsOf pass class now xs → k ≢ class → about_class k xs ≡ []
are_apart pass class now k [] are apart = refl
are_apart pass class now k (x ∷ xs) are apart =
    ap (λ (b : Bool). cond b (x ∷ about_class k xs) (about_class k xs)) (not_about pass class now k x are.0 apart) ∙ are_apart pass class now k xs are.1 apart

fault_apart : (pass class k : ℕ) → k ≢ class → about_class k (entry.Fault pass class ∷ []) ≡ []
fault_apart pass class k apart = ap (λ (b : Bool). cond b (entry.Fault pass class ∷ []) []) (ne_eqb class k (λ same. apart (sym same)))

fault_none : (pass class k : ℕ) → filter is_drain (about_class k (entry.Fault pass class ∷ [])) ≡ []
fault_none pass class k = by (class == k)
  where
    by : (b : Bool) → filter is_drain (cond b (entry.Fault pass class ∷ []) []) ≡ []
    by true = refl
    by false = refl

fault_drains : (pass class k : ℕ) (xs : List Entry) → drains (xs ++ about_class k (entry.Fault pass class ∷ [])) ≡ drains xs
fault_drains pass class k xs =
    ap length (filter-append is_drain xs (about_class k (entry.Fault pass class ∷ []))
    ∙ (ap (λ (l : List Entry). filter is_drain xs ++ l) (fault_none pass class k) ∙ append-nil (filter is_drain xs)))

-- what is whole in a class stays so where nothing of the class is entered, and no look at it is had
still_whole : (k : ℕ) (more : List Entry) (old new : PassValue) → IsWhole k old → look_at k new.looks ≡ look_at k old.looks → new.seen ≡ old.seen ++ more
    → about_class k more ≡ [] → IsWhole k new
still_whole k more old new whole look seen none =
    let same : about_class k new.seen ≡ about_class k old.seen =
    ap (about_class k) seen ∙ (filter-append (is_about k) old.seen more ∙ (ap (λ (l : List Entry). about_class k old.seen ++ l) none ∙ append-nil (about_class k old.seen))) in record {
      all = ap (λ (l : Look). drains l.list) look ∙ (whole.all ∙ ap drains (sym same));
      settled = subst (λ (l : Look). drains l.list ≡ l.settled) (sym look) whole.settled;
    }

-- ---- drains in rising class

rise_from : (pass now low class : ℕ) (xs : List Entry) → low ≤ class → AreDrainsOf pass class now xs → RiseWithin pass now low (suc class) xs
rise_from pass now low class [] le are = omega (arith, le)
rise_from pass now low class (x ∷ xs) le are = (class, le, (omega arith, (are.0, rise_from pass now class class xs (omega arith) are.1)))

rise_more : (pass now low class : ℕ) (xs ys : List Entry) → RiseWithin pass now low class xs → AreDrainsOf pass class now ys
    → RiseWithin pass now low (suc class) (xs ++ ys)
rise_more pass now low class [] ys rise are = rise_from pass now low class ys rise are
rise_more pass now low class (x ∷ xs) ys rise are =
    (rise.0, rise.1, (omega (arith, rise.2.0), (rise.2.1.0, rise_more pass now rise.0 class xs ys rise.2.1.1 are)))

rise_wider : (pass now low class most : ℕ) (xs : List Entry) → class ≤ most → RiseWithin pass now low class xs → RiseWithin pass now low most xs
rise_wider pass now low class most [] le rise = omega (arith, le, rise)
rise_wider pass now low class most (x ∷ xs) le rise =
    (rise.0, rise.1, (omega (arith, le, rise.2.0), (rise.2.1.0, rise_wider pass now rise.0 class most xs le rise.2.1.1)))

rise_apart : (pass now low most k : ℕ) (xs : List Entry) → most ≤ k → RiseWithin pass now low most xs → about_class k xs ≡ []
rise_apart pass now low most k [] le rise = refl
rise_apart pass now low most k (x ∷ xs) le rise =
    ap (λ (b : Bool). cond b (x ∷ about_class k xs) (about_class k xs)) (not_about pass rise.0 now k x rise.2.1.0 (λ same. omega (arith, le, rise.2.0, same)))
    ∙ rise_apart pass now rise.0 most k xs le rise.2.1.1

about_here : (class k : ℕ) → class ≡ k → (class == k) ≡ true
about_here class k same = grind (arith, nat_tests, same)

less_owed : (a b n m : ℕ) → a ≤ b → b < n → n ≡ m → a < m
less_owed a b n m le lt is = omega (arith, le, lt, is)

none_owed : (planned settled all : ℕ) → planned ≡ all → planned ≡ settled → settled < all → ⊥
none_owed planned settled all is even lt = omega (arith, is, even, lt)

-- ---- what the calls tell, one after the other

room_kept : (old new : PassValue) → Leads [] old new → HasRoom old → HasRoom new
room_kept old new leads room = subst (λ (l : List Entry). length l + 4 ≤ 2 ^ 48) (sym (leads.once ∙ append-nil (own_entries old))) room

-- a list of no elements
no_more : {A : Type 0} (xs : List A) → length xs ≡ 0 → xs ≡ []
no_more [] none = refl
no_more (x ∷ xs) none = absurd (omega (arith, none))

-- ---- how many metrics of a class were drained

-- a pass that made entries drained those among them
drained_more : (class : ℕ) (made : List Entry) (old new : PassValue) → Leads made old new → drained_in class new ≡ drained_in class old + drains (about_class class made)
drained_more class made old new leads =
    let own : List Entry = about_class class (own_entries old) in
    ap (λ (l : List Entry). drains (about_class class l)) leads.once
    ∙ (ap drains (filter-append (is_about class) (own_entries old) made)
    ∙ (ap length (filter-append is_drain own (about_class class made)) ∙ length-append (filter is_drain own) (filter is_drain (about_class class made))))

plus_none : (n : ℕ) (xs : List Entry) → filter is_drain xs ≡ [] → n + drains xs ≡ n
plus_none n xs none = subst (λ (l : List Entry). n + length l ≡ n) (sym none) (omega arith)

-- those of no other class, and no fault of a disk
drained_apart : (class : ℕ) (made : List Entry) (old new : PassValue) → Leads made old new → about_class class made ≡ [] → drained_in class new ≡ drained_in class old
drained_apart class made old new leads none =
    drained_more class made old new leads ∙ plus_none (drained_in class old) (about_class class made) (ap (filter is_drain) none)

drained_fault : (class k pass : ℕ) (old new : PassValue) → Leads (entry.Fault pass class ∷ []) old new → drained_in k new ≡ drained_in k old
drained_fault class k pass old new leads =
    drained_more k (entry.Fault pass class ∷ []) old new leads ∙ plus_none (drained_in k old) (about_class k (entry.Fault pass class ∷ [])) (fault_none pass class k)

one_entry : (class : ℕ) (e : Entry) → drains (about_class class (e ∷ [])) ≤ 1
one_entry class e = by (is_about class e)
  where
    only : (b : Bool) → length (cond b (e ∷ []) []) ≤ 1
    only true = omega arith
    only false = omega arith

    by : (b : Bool) → length (filter is_drain (cond b (e ∷ []) [])) ≤ 1
    by true = only (is_drain e)
    by false = omega arith

-- a pass has seen more
pub record Follows (old new : PassValue) : Type 0 where
  pub number : new.number ≡ old.number
  pub begins : IsPrefix old.seen new.seen

-- one number is below another, or not
ltb_or : (k n : ℕ) → (k < n) ⊎ (n ≤ k)
ltb_or k n = elim (cases_order k n) [
  | inl same ↦ inr (omega (arith, same))
  | inr differs ↦ elim differs [
    | inl below ↦ inl below
    | inr above ↦ inr (omega (arith, above))
  ]
]

-- Of a class so many metrics were drained at most, of those that were pending when the call came to it.
pub record DrainsMost (start : State) (class most turns : ℕ) (old new : PassValue) : Type 0 where
  pub came : List Entry
  pub behind : IsPrefix old.seen came
  pub begins : IsPrefix came new.seen
  pub none : drains (about_class class (of_pass old.number came)) ≡ drained_in class old
  pub count : most ≡ length ((replay start came).pending class)
  pub few : drained_in class new ≤ drained_in class old + turns

-- of the first classes no more were drained than were pending, and of the others none was
pub record DrainsFewFirst (start : State) (count : ℕ) (old new : PassValue) : Type 0 where
  pub few : (k : ℕ) → k < count → DrainsFew start k old new
  pub none : (k : ℕ) → count ≤ k → drained_in k new ≡ drained_in k old

module _ (start : State) where
  pub most_more : (class most turns : ℕ) (old mid new : PassValue) → DrainsMost start class most turns old mid → IsPrefix mid.seen new.seen → drained_in class new ≤ drained_in class mid + 1
      → DrainsMost start class most (turns + 1) old new
  most_more class most turns old mid new first begins one = record {
    came = first.came;
    behind = first.behind;
    begins = prefix_both first.came mid.seen new.seen first.begins begins;
    none = first.none;
    count = first.count;
    few = omega (arith, first.few, one);
  }

  pub most_few : (class most turns : ℕ) (old new : PassValue) → turns ≤ most → DrainsMost start class most turns old new → DrainsFew start class old new
  most_few class most turns old new within first = record {
    came = first.came;
    behind = first.behind;
    begins = first.begins;
    none = first.none;
    few = omega (arith, first.few, first.count, within);
  }

  -- no metric of a class was drained
  few_none : (k : ℕ) (old new : PassValue) → IsPrefix old.seen new.seen → drained_in k new ≡ drained_in k old → DrainsFew start k old new
  few_none k old new begins same = record { came = old.seen; behind = prefix_self old.seen; begins = begins; none = refl; few = omega (arith, same) }

  -- nor behind those that were
  few_more : (k : ℕ) (old mid new : PassValue) → DrainsFew start k old mid → IsPrefix mid.seen new.seen → drained_in k new ≡ drained_in k mid → DrainsFew start k old new
  few_more k old mid new first begins same = record {
    came = first.came;
    behind = first.behind;
    begins = prefix_both first.came mid.seen new.seen first.begins begins;
    none = first.none;
    few = omega (arith, first.few, same);
  }

  -- nor before them
  few_behind : (k : ℕ) (old mid new : PassValue) → IsPrefix old.seen mid.seen → mid.number ≡ old.number → drained_in k mid ≡ drained_in k old → DrainsFew start k mid new → DrainsFew start k old new
  few_behind k old mid new begins number same next = record {
    came = next.came;
    behind = prefix_both old.seen mid.seen next.came begins next.behind;
    begins = next.begins;
    none = ap (λ (n : ℕ). drains (about_class k (of_pass n next.came))) (sym number) ∙ (next.none ∙ same);
    few = omega (arith, next.few, same);
  }

-- ---- calls so far

-- so many metrics of the class were drained, or another pass drained there: no more are pending than are left of the first count
pub record DrainsTurns (start : State) (passes class now most turns : ℕ) (old new : PassValue) : Type 0 where
  pub part : DrainsPart start passes class now old new
  pub left : StoodAlone part.made old new → length ((replay start new.seen).pending class) + turns ≤ most
  pub whole : IsWhole class new
  pub room : HasRoom new

-- the first classes, so many, were drained
pub record DrainsFirst (start : State) (passes now count : ℕ) (old new : PassValue) : Type 0 where
  pub made : List Entry
  pub leads : Leads made old new
  pub seen : 0 < count → IsLegalHistory start new.seen × NamesPasses passes new.seen
  pub rise : RiseWithin old.number now 0 count made
  pub alone : StoodAlone made old new → DrainsClasses (replay start old.seen) old.number count now made
  pub written : StoodAlone made old new → (k : ℕ) → k < count → IsWhole k new

module _ (start : State) (passes : ℕ) where
  pub leads_of : (made : List Entry) (old new : PassValue) → Enters start passes made old new → Leads made old new
  leads_of made old new enters = record { table = enters.table; number = enters.number; begins = enters.begins; once = enters.once }

  pub enters_more : (a b : List Entry) (old mid new : PassValue) → Leads a old mid → Enters start passes b mid new → Enters start passes (a ++ b) old new
  enters_more a b old mid new first next =
      let both = leads_both a b old mid new first (leads_of b mid new next) in record {
        table = both.table;
        number = both.number;
        begins = both.begins;
        legal = next.legal;
        made = next.made;
        once = both.once;
      }

  pub enters_room : (old new : PassValue) → Enters start passes [] old new → HasRoom old → HasRoom new
  enters_room old new enters room = room_kept old new (leads_of [] old new enters) room

  -- a part and then another
  abbrev pub part_both : (class now : ℕ) (old mid new : PassValue) → DrainsPart start passes class now old mid → DrainsPart start passes class now mid new
      → DrainsPart start passes class now old new
  part_both class now old mid new first next = record {
    made = first.made ++ next.made;
    enters = enters_more first.made next.made old mid new (leads_of first.made old mid first.enters) next.enters;
    each = are_both old.number class now first.made next.made first.each
        (subst (λ (n : ℕ). AreDrainsOf n class now next.made) first.enters.number next.each);
  }

  abbrev pub part_none : (class now : ℕ) (old new : PassValue) → Enters start passes [] old new → DrainsPart start passes class now old new
  part_none class now old new enters = record { made = []; enters = enters; each = tt }

  -- the state that a pass sees, behind that which it saw
  seen_after : (made : List Entry) (old new : PassValue) → StoodAlone made old new → replay start new.seen ≡ replay (replay start old.seen) made
  seen_after made old new alone = ap (replay start) alone ∙ replay-append start old.seen made

  -- ---- the drain whose run failed

  -- what a part leaves owed is owed from before it, or the last of it
  abbrev pub LeavesOwed : ℕ → List Entry → PassValue → PassValue → Type 0
  LeavesOwed class made old new =
      StoodAlone made old new → IsOwed class new → (IsOwed class old × (about_class class made ≡ [])) ⊎ EndsUnwritten (replay start old.seen) class made

  ends_behind : (class : ℕ) (first made : List Entry) (s s' : State) → s' ≡ replay s first → EndsUnwritten s' class made → EndsUnwritten s class (first ++ made)
  ends_behind class first made s s' same ends = record {
    before = first ++ ends.before;
    pass = ends.pass;
    path = ends.path;
    now = ends.now;
    is = ap (λ (l : List Entry). first ++ l) ends.is ∙ sym (append_assoc first ends.before (entry.Drain ends.pass ends.path ends.now ∷ []));
    here = ends.here;
    needs = λ none. ends.needs
        (subst (λ (t : State). NeedsNoWrite t ends.path ends.now) (replay-append s first ends.before ∙ ap (λ (t : State). replay t ends.before) (sym same)) none);
  }

  run_behind : (class : ℕ) (first made fault : List Entry) (old mid new : PassValue) → Leads first old mid → Leads (made ++ fault) mid new
      → LeavesOwed class first old mid → (about_class class made ≡ [] → made ≡ [])
      → (StoodAlone (made ++ fault) mid new → (IsOwed class mid × (about_class class made ≡ [])) ⊎ EndsUnwritten (replay start mid.seen) class made)
      → StoodAlone (first ++ (made ++ fault)) old new
      → (IsOwed class old × (about_class class (first ++ made) ≡ [])) ⊎ EndsUnwritten (replay start old.seen) class (first ++ made)
  run_behind class first made fault old mid new leads next leaves none whose alone =
      let parts = alone_parts first (made ++ fault) old mid new leads next alone in
      elim (whose parts.1) [
        | inl owed ↦
            let front : first ≡ first ++ made = sym (append-nil first) ∙ ap (λ (l : List Entry). first ++ l) (sym (none owed.1)) in
            subst (λ (l : List Entry). (IsOwed class old × (about_class class l ≡ [])) ⊎ EndsUnwritten (replay start old.seen) class l) front
            (leaves parts.0 owed.0)
        | inr ends ↦ inr (ends_behind class first made (replay start old.seen) (replay start mid.seen) (seen_after first old mid parts.0) ends)
      ]

  are_about : (pass class now : ℕ) (xs : List Entry) → AreDrainsOf pass class now xs → about_class class xs ≡ [] → xs ≡ []
  are_about pass class now [] are none = refl
  are_about pass class now (entry.Put by path time value end ∷ xs) are none = absurd are.0
  are_about pass class now (entry.Drain by path at ∷ xs) are none =
      absurd (cc (sym (ap (λ (b : Bool). cond b (entry.Drain by path at ∷ about_class class xs) (about_class class xs)) (about_here (class_of path) class are.0.1.0)) ∙ none))
  are_about pass class now (entry.Ask by number try at ∷ xs) are none = absurd are.0
  are_about pass class now (entry.Fault by of_class ∷ xs) are none = absurd are.0

  -- a part that made nothing leaves owed what was
  pub leaves_none : (class : ℕ) (old new : PassValue) → settled_in class old ≤ settled_in class new → LeavesOwed class [] old new
  leaves_none class old new less alone owed =
      inl (
        less_owed (settled_in class old) (settled_in class new) (drains (about_class class new.seen)) (drains (about_class class old.seen)) less owed
            (ap (λ (l : List Entry). drains (about_class class l)) (alone ∙ append-nil old.seen)),
        refl,
      )

  -- nor does one that drained lower classes alone
  pub leaves_lower : (class now : ℕ) (old new : PassValue) (made : List Entry) → RiseWithin old.number now 0 class made → settled_in class old ≤ settled_in class new
      → LeavesOwed class made old new
  leaves_lower class now old new made rise less alone owed =
      let none = rise_apart old.number now 0 class class made (omega arith) rise in
      inl (
        less_owed (settled_in class old) (settled_in class new) (drains (about_class class new.seen)) (drains (about_class class old.seen)) less owed
            (ap drains (ap (about_class class) alone ∙ (filter-append (is_about class) old.seen made
            ∙ (ap (λ (l : List Entry). about_class class old.seen ++ l) none ∙ append-nil (about_class class old.seen))))),
        none,
      )

  -- one behind which all is written leaves nothing
  pub leaves_whole : (class : ℕ) (made : List Entry) (old new : PassValue) → IsWhole class new → LeavesOwed class made old new
  leaves_whole class made old new whole alone owed =
      absurd (none_owed (planned_in class new) (settled_in class new) (drains (about_class class new.seen)) whole.all whole.settled owed)

  -- a metric that was taken is what is owed then, and has something to write
  pub leaves_took : (class now : ℕ) (path : List ℕ) (old new : PassValue) → new.number ≡ old.number → HasPlanned class new → TookMetric start class now path new
      → LeavesOwed class (entry.Drain old.number path now ∷ []) old new
  leaves_took class now path old new number planned took alone owed =
      let drain = entry.Drain old.number path now ∷ [] in
      let before : took.before ≡ old.seen =
      append_cancel_right took.before old.seen drain
      (ap (λ (n : ℕ). took.before ++ entry.Drain n path now ∷ []) (sym number) ∙ (sym took.last ∙ alone)) in
      inr (record {
        before = [];
        pass = old.number;
        path = path;
        now = now;
        is = refl;
        here = took.here;
        needs = λ none. none_owed (planned_in class new) (settled_in class new) (drains (about_class class new.seen)) planned
            (took.nothing.1 (subst (λ (l : List Entry). NeedsNoWrite (replay start l) path now) (sym before) none)) owed;
      })

  run_more : (class now : ℕ) (old mid new : PassValue) (first : DrainsPart start passes class now old mid) (next : DrainsFailing start passes class now mid new)
      → LeavesOwed class first.made old mid → FailedPlan start class new ⊎ FailedRun start class next.made mid new
      → FailedPlan start class new ⊎ FailedRun start class (first.made ++ next.made) old new
  run_more class now old mid new first next leaves (inl failed) = inl failed
  run_more class now old mid new first next leaves (inr run) =
      let fault = entry.Fault mid.number class ∷ [] in
      let told : (first.made ++ next.made) ++ entry.Fault old.number class ∷ [] ≡ first.made ++ (next.made ++ fault) =
      ap (λ (n : ℕ). (first.made ++ next.made) ++ entry.Fault n class ∷ []) (sym first.enters.number) ∙ append_assoc first.made next.made fault in
      inr (record {
        under = run.under;
        whose = λ alone. run_behind class first.made next.made fault old mid new (leads_of first.made old mid first.enters)
            (leads_of (next.made ++ fault) mid new next.enters) leaves (are_about mid.number class now next.made next.each) run.whose
            (subst (λ (l : List Entry). StoodAlone l old new) told alone);
      })

  pub stops_more : (class now : ℕ) (stop : Stop) (old mid new : PassValue) (first : DrainsPart start passes class now old mid) → LeavesOwed class first.made old mid
      → StopsIn start passes class now stop mid new → StopsIn start passes class now stop old new
  stops_more class now stop.DiskFault old mid new first leaves next = record {
    made = first.made ++ next.made;
    enters = subst (λ (l : List Entry). Enters start passes l old new)
        (sym (append_assoc first.made next.made (entry.Fault mid.number class ∷ []))
        ∙ ap (λ (n : ℕ). (first.made ++ next.made) ++ entry.Fault n class ∷ []) first.enters.number)
        (enters_more first.made (next.made ++ entry.Fault mid.number class ∷ []) old mid new (leads_of first.made old mid first.enters) next.enters);
    each = are_both old.number class now first.made next.made first.each
        (subst (λ (n : ℕ). AreDrainsOf n class now next.made) first.enters.number next.each);
    planned = next.planned;
    either = run_more class now old mid new first next leaves next.either;
  }
  stops_more class now stop.Spent old mid new first leaves next = (part_both class now old mid new first next.0, next.1)
  stops_more class now stop.NoMemory old mid new first leaves next = (part_both class now old mid new first next.0, next.1)

  -- ---- a drain is written to its end

  pub has_planned : (class : ℕ) (old new : PassValue) → LooksAgain class old new → HasPlanned class new
  has_planned class old new look = ap drains look.list

  pub write_done : (class : ℕ) (old mid new : PassValue) → Leads [] old mid → Enters start passes [] mid new → LooksAgain class mid new → IsSettled class new
      → HasRoom mid → WritesWhole start passes class old new
  write_done class old mid new first next look settled room = record {
    enters = enters_more [] [] old mid new first next;
    whole = record { all = has_planned class mid new look; settled = settled };
    room = enters_room mid new next room;
  }

  pub write_fails : (class : ℕ) (old mid new : PassValue) → Leads [] old mid → LooksIn class old mid → Enters start passes (entry.Fault mid.number class ∷ []) mid new
      → LooksAgain class mid new → IsUnderWay class new → (now : ℕ) → DrainsFailing start passes class now old new
  write_fails class old mid new first before next look under now = record {
    made = [];
    enters = subst (λ (n : ℕ). Enters start passes (entry.Fault n class ∷ []) old new) first.number
        (enters_more [] (entry.Fault mid.number class ∷ []) old mid new first next);
    each = tt;
    planned = has_planned class mid new look;
    either = inr (record {
      under = under;
      whose = λ alone. inl (
        owed_before (planned_in class new) (settled_in class old) (settled_in class mid) (settled_in class new) (drains (about_class class old.seen)) under
            before.here.settled look.settled
            (has_planned class mid new look ∙ ap drains (ap (about_class class) alone ∙ filter-append (is_about class) old.seen (entry.Fault old.number class ∷ []))
            ∙ fault_drains old.number class class (about_class class old.seen)),
        refl,
      );
    });
  }
    where
      owed_before : (planned a b c all : ℕ) → planned ≡ c + 1 → a ≤ b → b ≤ c → planned ≡ all → a < all
      owed_before planned a b c all under le more is = omega (arith, under, le, more, is)

  -- ---- the next metric of a class

  abbrev pub part_took : (class now : ℕ) (path : List ℕ) (old new : PassValue) → Enters start passes (entry.Drain old.number path now ∷ []) old new
      → TookMetric start class now path new → DrainsPart start passes class now old new
  part_took class now path old new enters took = record { made = entry.Drain old.number path now ∷ []; enters = enters; each = ((refl, (took.here, refl)), tt) }

  pending_fewer : (class : ℕ) (seen seen' before before' : List Entry) → seen ≡ seen' → before ≡ before'
      → length ((replay start seen).pending class) < length ((replay start before).pending class)
      → length ((replay start seen').pending class) < length ((replay start before').pending class)
  pending_fewer class seen seen' before before' one other less =
      subst (λ (l : List Entry). length ((replay start l).pending class) < length ((replay start before').pending class)) one
      (subst (λ (l : List Entry). length ((replay start seen).pending class) < length ((replay start l).pending class)) other less)

  pub next_took : (class now : ℕ) (path : List ℕ) (old mid new : PassValue) → Enters start passes (entry.Drain old.number path now ∷ []) old mid
      → TookMetric start class now path mid → WritesWhole start passes class mid new → DrainsOne start passes class now old new
  next_took class now path old mid new enters took writes =
      let drain = entry.Drain old.number path now ∷ [] in
      let parts = λ (alone : StoodAlone drain old new). alone_parts drain [] old mid new (leads_of drain old mid enters) (leads_of [] mid new writes.enters) alone in record {
        part = part_both class now old mid new (part_took class now path old mid enters took) (part_none class now mid new writes.enters);
        fewer = λ alone. pending_fewer class mid.seen new.seen took.before old.seen (sym ((parts alone).1 ∙ append-nil mid.seen))
            (append_cancel_right took.before old.seen drain
            (ap (λ (n : ℕ). took.before ++ entry.Drain n path now ∷ []) (sym enters.number) ∙ (sym took.last ∙ (parts alone).0)))
            took.fewer;
        whole = writes.whole;
        room = writes.room;
      }

  pub next_busy : (class now : ℕ) (old mid new : PassValue) → IsWhole class old → Enters start passes [] old mid
      → LooksAgain class old mid → IsUnderWay class mid → WritesWhole start passes class mid new → DrainsOne start passes class now old new
  next_busy class now old mid new whole enters look under writes =
      let parts = λ (alone : StoodAlone [] old new). alone_parts [] [] old mid new (leads_of [] old mid enters) (leads_of [] mid new writes.enters) alone in record {
        part = part_none class now old new (enters_more [] [] old mid new (leads_of [] old mid enters) writes.enters);
        fewer = λ alone. absurd (never ((parts alone).0 ∙ append-nil old.seen));
        whole = writes.whole;
        room = writes.room;
      }
    where
      never_owed : (planned settled planned' settled' : ℕ) → planned ≡ settled → settled ≤ settled' → planned' ≡ settled' + 1 → planned' ≡ planned → ⊥
      never_owed planned settled planned' settled' even le one same = omega (arith, even, le, one, same)

      never : mid.seen ≡ old.seen → ⊥
      never seen =
          never_owed (planned_in class old) (settled_in class old) (planned_in class mid) (settled_in class mid) whole.settled look.settled under
          (has_planned class old mid look ∙ (ap (λ (l : List Entry). drains (about_class class l)) seen ∙ sym whole.all))

  pub next_idle : (class now : ℕ) (old new : PassValue) → Enters start passes [] old new → LooksAgain class old new → WasIdle start class old new
      → HasRoom old → DrainsHere start passes class now old new
  next_idle class now old new enters look idle room = record {
    part = part_none class now old new enters;
    none = λ alone. idle.none;
    whole = record { all = has_planned class old new look; settled = idle.settled };
    room = enters_room old new enters room;
  }

  pub next_fails : (class now : ℕ) (old new : PassValue) → Enters start passes (entry.Fault old.number class ∷ []) old new
      → LooksAgain class old new → FailedPlan start class new → StopsIn start passes class now stop.DiskFault old new
  next_fails class now old new enters look failed = record {
    made = [];
    enters = enters;
    each = tt;
    planned = has_planned class old new look;
    either = inl failed;
  }

  -- however the write of the drain ended
  pub stops_writing : (class now : ℕ) (stop : Stop) (old mid new : PassValue) (part : DrainsPart start passes class now old mid) → LeavesOwed class part.made old mid
      → StopsWriting start passes class stop mid new → StopsIn start passes class now stop old new
  stops_writing class now stop.DiskFault old mid new part leaves writes = stops_more class now stop.DiskFault old mid new part leaves (writes now)
  stops_writing class now stop.Spent old mid new part leaves writes = (subst (DrainsPart start passes class now old) (sym writes.0) part, writes.1)
  stops_writing class now stop.NoMemory old mid new part leaves writes = absurd writes

  pub took_whole : (class now : ℕ) (path : List ℕ) (result : Result Bool Stop) (old mid new : PassValue) → Enters start passes (entry.Drain old.number path now ∷ []) old mid
      → LooksAgain class old mid → TookMetric start class now path mid → WritesTo start passes class result mid new → DrainsNext start passes class now result old new
  took_whole class now path (Ok true) old mid new enters look took writes = next_took class now path old mid new enters took writes
  took_whole class now path (Ok false) old mid new enters look took writes = absurd writes
  took_whole class now path (Err stop) old mid new enters look took writes =
      stops_writing class now stop old mid new (part_took class now path old mid enters took)
      (leaves_took class now path old mid enters.number (has_planned class old mid look) took) writes

  pub busy_whole : (class now : ℕ) (result : Result Bool Stop) (old mid new : PassValue) → IsWhole class old → Enters start passes [] old mid
      → LooksAgain class old mid → IsUnderWay class mid → WritesTo start passes class result mid new → DrainsNext start passes class now result old new
  busy_whole class now (Ok true) old mid new whole enters look under writes = next_busy class now old mid new whole enters look under writes
  busy_whole class now (Ok false) old mid new whole enters look under writes = absurd writes
  busy_whole class now (Err stop) old mid new whole enters look under writes =
      stops_writing class now stop old mid new (part_none class now old mid enters) (leaves_none class old mid look.settled) writes

  -- ---- a class

  pub turns_begin : (class now most : ℕ) (old mid new : PassValue) → Enters start passes [] old mid
      → most ≡ length ((replay start mid.seen).pending class) → WritesWhole start passes class mid new → DrainsTurns start passes class now most 0 old new
  turns_begin class now most old mid new first count writes = record {
    part = part_none class now old new (enters_more [] [] old mid new (leads_of [] old mid first) writes.enters);
    left = λ alone.
        let seen : new.seen ≡ mid.seen = (alone_parts [] [] old mid new (leads_of [] old mid first) (leads_of [] mid new writes.enters) alone).1 ∙ append-nil mid.seen in
        omega (arith, count, ap (λ (l : List Entry). length ((replay start l).pending class)) seen);
    whole = writes.whole;
    room = writes.room;
  }

  pub turns_more : (class now most turns : ℕ) (old mid new : PassValue) → DrainsTurns start passes class now most turns old mid → DrainsOne start passes class now mid new
      → DrainsTurns start passes class now most (turns + 1) old new
  turns_more class now most turns old mid new first next = record {
    part = part_both class now old mid new first.part next.part;
    left = λ alone.
        let parts = alone_parts first.part.made next.part.made old mid new (leads_of first.part.made old mid first.part.enters)
        (leads_of next.part.made mid new next.part.enters) alone in
        omega (arith, first.left parts.0, next.fewer parts.1);
    whole = next.whole;
    room = next.room;
  }

  pub here_more : (class now : ℕ) (old mid new : PassValue) → DrainsPart start passes class now old mid → DrainsHere start passes class now mid new
      → DrainsHere start passes class now old new
  here_more class now old mid new first next = record {
    part = part_both class now old mid new first next.part;
    none = λ alone. next.none (alone_parts first.made next.part.made old mid new (leads_of first.made old mid first.enters)
        (leads_of next.part.made mid new next.part.enters) alone).1;
    whole = next.whole;
    room = next.room;
  }

  -- as many as were pending, and so none is left where the call stood alone
  pub here_all : (class now most turns : ℕ) (old new : PassValue) → most ≤ turns → DrainsTurns start passes class now most turns old new → DrainsHere start passes class now old new
  here_all class now most turns old new all first = record {
    part = first.part;
    none = λ alone. no_more ((replay start new.seen).pending class) (omega (arith, all, first.left alone));
    whole = first.whole;
    room = first.room;
  }

  -- ---- all classes

  pub first_none : (now : ℕ) (pass : PassValue) → DrainsFirst start passes now 0 pass pass
  first_none now pass = record {
    made = [];
    leads = leads_none pass;
    seen = λ some. absurd (omega (arith, some));
    rise = omega arith;
    alone = λ alone. refl;
    written = λ alone k lt. absurd (omega (arith, lt));
  }

  some_of : (class now : ℕ) (made more : List Entry) (mid new : PassValue) → AreDrainsOf mid.number class now made → IsLegalHistory start new.seen
      → new.seen ≡ mid.seen ++ (made ++ more) → DrainsSome (replay start mid.seen) mid.number class now made
  some_of class now made more mid new are legal seen =
      are_some (replay start mid.seen) mid.number class now made are
      (legal_parts (replay start mid.seen) made more (legal_parts start mid.seen (made ++ more) (subst (IsLegalHistory start) seen legal)).1).0

  -- and those of one class more behind them
  some_behind : (class now : ℕ) (first made : List Entry) (old mid : PassValue) → mid.number ≡ old.number → StoodAlone first old mid
      → DrainsSome (replay start mid.seen) mid.number class now made → DrainsSome (replay (replay start old.seen) first) old.number class now made
  some_behind class now first made old mid number alone some =
      subst (λ (n : ℕ). DrainsSome (replay (replay start old.seen) first) n class now made) number
      (subst (λ (s : State). DrainsSome s mid.number class now made) (seen_after first old mid alone) some)

  not_below : (k class : ℕ) → k < class → k ≢ class
  not_below k class lt same = omega (arith, lt, same)

  below_or_here : (k class : ℕ) → k < suc class → (k ≡ class) ⊎ (k < class)
  below_or_here k class lt = elim (eqb_tells k class) [
    | inl same ↦ inl same.1
    | inr other ↦ inr (omega (arith, lt, λ (e : k ≡ class). other.1 e))
  ]

  pub first_more : (now class : ℕ) (old mid new : PassValue) → DrainsFirst start passes now class old mid → DrainsHere start passes class now mid new → LooksIn class mid new
      → DrainsFirst start passes now (suc class) old new
  first_more now class old mid new first next looks =
      let made = next.part.made in
      let leads = leads_of made mid new next.part.enters in
      let parts = λ (alone : StoodAlone (first.made ++ made) old new). alone_parts first.made made old mid new first.leads leads alone in record {
        made = first.made ++ made;
        leads = leads_both first.made made old mid new first.leads leads;
        seen = λ some. (next.part.enters.legal, next.part.enters.made);
        rise = rise_more old.number now 0 class first.made made first.rise (subst (λ (n : ℕ). AreDrainsOf n class now made) first.leads.number next.part.each);
        alone = λ alone. (
          first.made,
          made,
          (
            refl,
            (
              first.alone (parts alone).0,
              record {
                drains = some_behind class now first.made made old mid first.leads.number (parts alone).0
                    (some_of class now made [] mid new next.part.each next.part.enters.legal ((parts alone).1 ∙ ap (λ (l : List Entry). mid.seen ++ l) (sym (append-nil made))));
                none_pending = subst (λ (s : State). s.pending class ≡ [])
                    (seen_after made mid new (parts alone).1 ∙ ap (λ (s : State). replay s made) (seen_after first.made old mid (parts alone).0))
                    (next.none (parts alone).1);
              },
            ),
          ),
        );
        written = λ alone k lt. elim (below_or_here k class lt) [
          | inl same ↦ subst (λ (c : ℕ). IsWhole c new) (sym same) next.whole
          | inr below ↦ still_whole k made mid new (first.written (parts alone).0 k below) (looks.others k (not_below k class below)) (parts alone).1
              (are_apart mid.number class now k made next.part.each (not_below k class below))
        ];
      }

  pub all_done : (now class count : ℕ) (old new : PassValue) → class ≡ 16 → DrainsFirst start passes now class old new
      → (before left : ℕ) → before + length (own_entries old) ≡ 2 ^ 48 → left + length (own_entries new) ≡ 2 ^ 48 → count ≡ before - left → HasRoom new
      → DrainsTo start passes now (done.Done count) old new
  unfolding DrainsAll
  all_done now class count old new all first before left room room' is has_room = (
    record {
      made = first.made;
      enters = record {
        table = first.leads.table;
        number = first.leads.number;
        begins = first.leads.begins;
        legal = (first.seen (omega (arith, all))).0;
        made = (first.seen (omega (arith, all))).1;
        once = first.leads.once;
      };
      rise = subst (λ (k : ℕ). RiseWithin old.number now 0 k first.made) all first.rise;
      counted = counts (length (own_entries old)) (length (own_entries new)) (length first.made) count before left
          (ap length first.leads.once ∙ length-append (own_entries old) first.made) room room' is;
      alone = λ alone. subst (λ (k : ℕ). DrainsClasses (replay start old.seen) old.number k now first.made) all (first.alone alone);
      written = λ alone k lt. first.written alone k (subst (λ (n : ℕ). k < n) (sym all) lt);
    },
    has_room,
  )
    where
      counts : (old_own new_own made count before left : ℕ) → new_own ≡ old_own + made → before + old_own ≡ 2 ^ 48 → left + new_own ≡ 2 ^ 48 → count ≡ before - left
          → made ≡ count
      counts old_own new_own made count before left own room room' is = omega (arith, own, room, room', is)

  up_to : (now class : ℕ) (made more : List Entry) (old mid new : PassValue) → (first : DrainsFirst start passes now class old mid) → AreDrainsOf mid.number class now made
      → Leads (made ++ more) mid new → IsLegalHistory start new.seen → StoodAlone (first.made ++ (made ++ more)) old new
      → DrainsUpTo (replay start old.seen) old.number class now (first.made ++ made)
  up_to now class made more old mid new first are leads legal alone =
      let parts = alone_parts first.made (made ++ more) old mid new first.leads leads alone in (
        first.made,
        made,
        (
          refl,
          (
            first.alone parts.0,
            some_behind class now first.made made old mid first.leads.number parts.0
                (some_of class now made more mid new are legal parts.1),
          ),
        ),
      )

  pub partly : (now class : ℕ) (old mid new : PassValue) → class < 16 → DrainsFirst start passes now class old mid → DrainsPart start passes class now mid new
      → DrainsPartly start passes now old new
  partly now class old mid new within first next = record {
    made = first.made ++ next.made;
    class = class;
    within = omega (arith, within);
    enters = enters_more first.made next.made old mid new first.leads next.enters;
    rise = rise_wider old.number now 0 (suc class) 16 (first.made ++ next.made) (omega (arith, within))
        (rise_more old.number now 0 class first.made next.made first.rise (subst (λ (n : ℕ). AreDrainsOf n class now next.made) first.leads.number next.each));
    alone = λ alone. up_to now class next.made [] old mid new first next.each
        (subst (λ (l : List Entry). Leads l mid new) (sym (append-nil next.made)) (leads_of next.made mid new next.enters)) next.enters.legal
        (subst (λ (l : List Entry). StoodAlone (first.made ++ l) old new) (sym (append-nil next.made)) alone);
  }

  run_first : (now class : ℕ) (old mid new : PassValue) (first : DrainsFirst start passes now class old mid) → LooksOn old mid
      → (next : DrainsFailing start passes class now mid new) → FailedPlan start class new ⊎ FailedRun start class next.made mid new
      → FailedPlan start class new ⊎ FailedRun start class (first.made ++ next.made) old new
  run_first now class old mid new first on next (inl failed) = inl failed
  run_first now class old mid new first on next (inr run) =
      let fault = entry.Fault mid.number class ∷ [] in
      let told : (first.made ++ next.made) ++ entry.Fault old.number class ∷ [] ≡ first.made ++ (next.made ++ fault) =
      ap (λ (n : ℕ). (first.made ++ next.made) ++ entry.Fault n class ∷ []) (sym first.leads.number) ∙ append_assoc first.made next.made fault in
      inr (record {
        under = run.under;
        whose = λ alone. run_behind class first.made next.made fault old mid new first.leads (leads_of (next.made ++ fault) mid new next.enters)
            (leaves_lower class now old mid first.made first.rise (on.classes class).settled) (are_about mid.number class now next.made next.each) run.whose
            (subst (λ (l : List Entry). StoodAlone l old new) told alone);
      })

  pub to_fault : (now class : ℕ) (old mid new : PassValue) → class < 16 → DrainsFirst start passes now class old mid → LooksOn old mid
      → DrainsFailing start passes class now mid new → LooksIn class mid new → DrainsToFault start passes now class old new
  to_fault now class old mid new within first on next looks =
      let fault = entry.Fault mid.number class ∷ [] in
      let leads = leads_of (next.made ++ fault) mid new next.enters in
      let told : first.made ++ (next.made ++ fault) ≡ (first.made ++ next.made) ++ entry.Fault old.number class ∷ [] =
      sym (append_assoc first.made next.made fault) ∙ ap (λ (n : ℕ). (first.made ++ next.made) ++ entry.Fault n class ∷ []) first.leads.number in record {
        within = within;
        made = first.made ++ next.made;
        enters = subst (λ (l : List Entry). Enters start passes l old new) told
            (enters_more first.made (next.made ++ fault) old mid new first.leads next.enters);
        rise = rw add-one (rise_more old.number now 0 class first.made next.made first.rise
            (subst (λ (n : ℕ). AreDrainsOf n class now next.made) first.leads.number next.each));
        alone = λ alone. up_to now class next.made fault old mid new first next.each leads next.enters.legal
            (subst (λ (l : List Entry). StoodAlone l old new) (sym told) alone);
        written = λ alone k lt.
            let parts = alone_parts first.made (next.made ++ fault) old mid new first.leads leads (subst (λ (l : List Entry). StoodAlone l old new) (sym told) alone) in
            still_whole k (next.made ++ fault) mid new (first.written parts.0 k lt) (looks.others k (not_below k class lt)) parts.1
            (filter-append (is_about k) next.made fault ∙ (λ i. are_apart mid.number class now k next.made next.each (not_below k class lt) i
            ++ fault_apart mid.number class k (not_below k class lt) i));
        planned = next.planned;
        either = run_first now class old mid new first on next next.either;
      }

  pub all_stop : (now class : ℕ) (stop : Stop) (old mid new : PassValue) → class < 16 → DrainsFirst start passes now class old mid → LooksOn old mid
      → StopsIn start passes class now stop mid new → LooksIn class mid new → DrainsTo start passes now (end_of stop class) old new
  all_stop now class stop.DiskFault old mid new within first on next looks = to_fault now class old mid new within first on next looks
  all_stop now class stop.Spent old mid new within first on next looks = (partly now class old mid new within first next.0, next.1)
  all_stop now class stop.NoMemory old mid new within first on next looks = (partly now class old mid new within first next.0, next.1)

  -- ---- how many were drained

  pub undrained : (class : ℕ) (old mid new : PassValue) → Leads [] old mid → Enters start passes [] mid new → drained_in class new ≡ drained_in class old
  undrained class old mid new first next = drained_apart class [] old new (leads_both [] [] old mid new first (leads_of [] mid new next)) refl

  pub undrained_fault : (class : ℕ) (old mid new : PassValue) → Leads [] old mid → Enters start passes (entry.Fault mid.number class ∷ []) mid new → drained_in class new ≡ drained_in class old
  undrained_fault class old mid new first next =
      drained_fault class class mid.number old new (leads_both [] (entry.Fault mid.number class ∷ []) old mid new first (leads_of (entry.Fault mid.number class ∷ []) mid new next))

  -- a step, and then none
  pub drained_none : (class : ℕ) (old mid new : PassValue) → Enters start passes [] old mid → drained_in class new ≡ drained_in class mid → drained_in class new ≤ drained_in class old + 1
  drained_none class old mid new enters same = omega (arith, same, drained_apart class [] old mid (leads_of [] old mid enters) refl)

  pub drained_one : (class : ℕ) (e : Entry) (old mid new : PassValue) → Enters start passes (e ∷ []) old mid → drained_in class new ≡ drained_in class mid
      → drained_in class new ≤ drained_in class old + 1
  drained_one class e old mid new enters same = omega (arith, same, drained_more class (e ∷ []) old mid (leads_of (e ∷ []) old mid enters), one_entry class e)

  -- a call comes to a class
  came_to : (class most : ℕ) (old mid new : PassValue) → Enters start passes [] old mid → most ≡ length ((replay start mid.seen).pending class) → IsPrefix mid.seen new.seen
      → drained_in class new ≡ drained_in class mid → DrainsMost start class most 0 old new
  came_to class most old mid new enters count begins same =
      let none : drained_in class mid ≡ drained_in class old = drained_apart class [] old mid (leads_of [] old mid enters) refl in record {
        came = mid.seen;
        behind = enters.begins;
        begins = begins;
        none = ap (λ (n : ℕ). drains (about_class class (of_pass n mid.seen))) (sym enters.number) ∙ none;
        count = count;
        few = omega (arith, same, none);
      }

  pub most_begin : (class most : ℕ) (old mid new : PassValue) → Enters start passes [] old mid → most ≡ length ((replay start mid.seen).pending class) → WritesWhole start passes class mid new
      → drained_in class new ≡ drained_in class mid → DrainsMost start class most 0 old new
  most_begin class most old mid new enters count writes same = came_to class most old mid new enters count writes.enters.begins same

  stops_begin : (class : ℕ) (stop : Stop) (old new : PassValue) → StopsWriting start passes class stop old new → IsPrefix old.seen new.seen
  stops_begin class stop.DiskFault old new writes = (writes 0).enters.begins
  stops_begin class stop.Spent old new writes = subst (λ (pass : PassValue). IsPrefix old.seen pass.seen) (sym writes.0) (prefix_self old.seen)
  stops_begin class stop.NoMemory old new writes = absurd writes

  pub few_unwritten : (class most : ℕ) (stop : Stop) (old mid new : PassValue) → Enters start passes [] old mid → most ≡ length ((replay start mid.seen).pending class)
      → StopsWriting start passes class stop mid new → drained_in class new ≡ drained_in class mid → DrainsFew start class old new
  few_unwritten class most stop old mid new enters count writes same =
      most_few start class most 0 old new (omega arith) (came_to class most old mid new enters count (stops_begin class stop mid new writes) same)

  pub most_next : (class now most turns : ℕ) (old mid new : PassValue) → DrainsMost start class most turns old mid → DrainsOne start passes class now mid new
      → drained_in class new ≤ drained_in class mid + 1 → DrainsMost start class most (turns + 1) old new
  most_next class now most turns old mid new first next one = most_more start class most turns old mid new first next.part.enters.begins one

  pub few_here : (class now most turns : ℕ) (old mid new : PassValue) → turns < most → DrainsMost start class most turns old mid → DrainsHere start passes class now mid new
      → drained_in class new ≤ drained_in class mid + 1 → DrainsFew start class old new
  few_here class now most turns old mid new within first next one =
      most_few start class most (turns + 1) old new (omega (arith, within)) (most_more start class most turns old mid new first next.part.enters.begins one)

  stop_begins : (class now : ℕ) (stop : Stop) (old new : PassValue) → StopsIn start passes class now stop old new → IsPrefix old.seen new.seen
  stop_begins class now stop.DiskFault old new stops = stops.enters.begins
  stop_begins class now stop.Spent old new stops = stops.0.enters.begins
  stop_begins class now stop.NoMemory old new stops = stops.0.enters.begins

  pub few_stopped : (class now most turns : ℕ) (stop : Stop) (old mid new : PassValue) → turns < most → DrainsMost start class most turns old mid → StopsIn start passes class now stop mid new
      → drained_in class new ≤ drained_in class mid + 1 → DrainsFew start class old new
  few_stopped class now most turns stop old mid new within first stops one =
      most_few start class most (turns + 1) old new (omega (arith, within)) (most_more start class most turns old mid new first (stop_begins class now stop mid new stops) one)

  -- ---- of all classes

  here_kept : (class now k : ℕ) (old new : PassValue) → DrainsHere start passes class now old new → k ≢ class → drained_in k new ≡ drained_in k old
  here_kept class now k old new here apart =
      let made : List Entry = here.part.made in
      drained_apart k made old new (leads_of made old new here.part.enters) (are_apart old.number class now k made here.part.each apart)

  stop_kept : (class now k : ℕ) (stop : Stop) (old new : PassValue) → StopsIn start passes class now stop old new → k ≢ class → drained_in k new ≡ drained_in k old
  stop_kept class now k stop.DiskFault old new stops apart =
      let made : List Entry = stops.made in
      let fault : List Entry = entry.Fault old.number class ∷ [] in
      drained_apart k (made ++ fault) old new (leads_of (made ++ fault) old new stops.enters)
      (filter-append (is_about k) made fault ∙ (λ i. are_apart old.number class now k made stops.each apart i ++ fault_apart old.number class k apart i))
  stop_kept class now k stop.Spent old new stops apart =
      let made : List Entry = stops.0.made in drained_apart k made old new (leads_of made old new stops.0.enters) (are_apart old.number class now k made stops.0.each apart)
  stop_kept class now k stop.NoMemory old new stops apart =
      let made : List Entry = stops.0.made in drained_apart k made old new (leads_of made old new stops.0.enters) (are_apart old.number class now k made stops.0.each apart)

  pub few_first : (pass : PassValue) → DrainsFewFirst start 0 pass pass
  few_first pass = record { few = λ k lt. absurd (omega (arith, lt)); none = λ k le. refl }

  -- one class more
  few_with : (class : ℕ) (old mid new : PassValue) → Follows old mid → DrainsFewFirst start class old mid → IsPrefix mid.seen new.seen → DrainsFew start class mid new
      → ((k : ℕ) → k ≢ class → drained_in k new ≡ drained_in k mid) → DrainsFewFirst start (suc class) old new
  few_with class old mid new leads first begins here kept = record {
    few = λ k lt. elim (below_or_here k class lt) [
      | inl same ↦ subst (λ (c : ℕ). DrainsFew start c old new) (sym same) (few_behind start class old mid new leads.begins leads.number (first.none class (omega arith)) here)
      | inr below ↦ few_more start k old mid new (first.few k below) begins (kept k (not_below k class below))
    ];
    none = λ k le. kept k (λ same. omega (arith, le, same)) ∙ first.none k (omega (arith, le));
  }

  pub few_class : (now class : ℕ) (old mid new : PassValue) → DrainsFirst start passes now class old mid → DrainsFewFirst start class old mid → DrainsHere start passes class now mid new
      → DrainsFew start class mid new → DrainsFewFirst start (suc class) old new
  few_class now class old mid new so_far first next here =
      few_with class old mid new (record { number = so_far.leads.number; begins = so_far.leads.begins }) first next.part.enters.begins here (λ k apart. here_kept class now k mid new next apart)

  pub few_all : (class : ℕ) (old new : PassValue) → class ≡ 16 → DrainsFewFirst start class old new → (k : ℕ) → k < 16 → DrainsFew start k old new
  few_all class old new all first k lt = first.few k (subst (λ (n : ℕ). k < n) (sym all) lt)

  pub few_at_stop : (now class : ℕ) (stop : Stop) (old mid new : PassValue) → DrainsFirst start passes now class old mid → DrainsFewFirst start class old mid
      → StopsIn start passes class now stop mid new → DrainsFew start class mid new → (k : ℕ) → k < 16 → DrainsFew start k old new
  few_at_stop now class stop old mid new so_far first stops here k lt =
      let begins : IsPrefix mid.seen new.seen = stop_begins class now stop mid new stops in
      let all : DrainsFewFirst start (suc class) old new =
      few_with class old mid new (record { number = so_far.leads.number; begins = so_far.leads.begins }) first begins here (λ k apart. stop_kept class now k stop mid new stops apart) in
      elim (ltb_or k (suc class)) [
        | inl below ↦ all.few k below
        | inr above ↦ few_none start k old new (prefix_both old.seen mid.seen new.seen so_far.leads.begins begins) (all.none k above)
      ]
