-- An entry that may come in a class may come in the history, and is counted.
use Rattle.std.proofs.Common.{◌≡◌, ℕ, ◌+◌, ◌≤◌, Bool, true, false, cond, List, [], ◌∷◌, ◌++◌, sym, ap, subst, ◌∙◌, arith}
use Rattle.std.proofs.lemmas.List.{append_assoc}
use mathlib.Core.List.{IsPrefix}
use Rattle.std.specs.Prelude.{count_by}
use Rattle.std.proofs.lemmas.List.Sums.{sum_by-append}
use Rattle.carbon_history.specs.declared.entry.Entry.{Entry}
use Rattle.carbon_history.specs.declared.entry.PutEnd.TheVariants.{Stored, Replaced, Full}
use Rattle.carbon_history.specs.Entries.{NamesPasses, about_class, is_about, is_drain}
use Rattle.shared_history.specs.declared.event.Event.{Event}
use Rattle.shared_history.specs.Events.{entry_by}
use Rattle.shared_history.specs.Parts.{OrderValue, PassValue, TailValue, order_with, own_entries, pass_seeing}
use Rattle.carbon_model.specs.State.{State}
use Rattle.carbon_model.specs.Replay.{IsLegal, IsLegalHistory, replay}
use Rattle.carbon_model.proofs.HistoryLemmas.{legal_more}
use Rattle.carbon_model.proofs.PartLemmas.{legal_alike, replay_alike, same_part, same_sym}
use Rattle.shared_store.specs.Passes.{EntersLast}
use Rattle.shared_store.specs.Tallies.{capped, counted, is_put, tally_of, tally_with}

pub legal_entry : (start : State) (list : List Entry) (class : ℕ) (e : Entry) → is_about class e ≡ true → IsLegalHistory start list
    → IsLegal (replay start (about_class class list)) e → IsLegalHistory start (list ++ e ∷ [])
legal_entry start list class e about legal here =
    let same = same_sym class (replay start list) (replay start (about_class class list)) (replay_alike class start start list (same_part class start)) in
    legal_more start list e legal (legal_alike class (replay start (about_class class list)) (replay start list) e same about here)

count_one : (n : ℕ) (b : Bool) → counted (capped n) b ≡ capped (n + cond b 1 0)
count_one n true = omega arith
count_one n false = omega arith

count_more : (p : Entry → Bool) (list : List Entry) (e : Entry) → counted (capped (count_by p list)) (p e) ≡ capped (count_by p (list ++ e ∷ []))
count_more p list e = count_one (count_by p list) (p e) ∙ ap capped (sym (sum_by-append (λ x. cond (p x) 1 0) list (e ∷ []) ∙ omega arith))

pub tally_more : (list : List Entry) (e : Entry) → tally_with (tally_of list) e ≡ tally_of (list ++ e ∷ [])
unfolding tally_of
tally_more list e = λ i. record {
  stored = count_more (is_put Stored) list e i;
  replaced = count_more (is_put Replaced) list e i;
  full = count_more (is_put Full) list e i;
  drains = count_more is_drain list e i;
}

-- ---- what an entry makes of a pass

le_of_eq : (a b : ℕ) → a ≡ b → a ≤ b
le_of_eq a b e = omega (arith, e)

pub enters_last : (start : State) (passes : ℕ) (order agreed order' : OrderValue) (tail tail' : TailValue) (old new : PassValue) (event : Event)
    → agreed ≡ order → tail' ≡ tail → tail.list ≡ about_class tail.class order.list
    → order.passes ≡ passes → IsLegalHistory start order.list
    → is_about tail.class (entry_by old tail event) ≡ true → IsLegal (replay start tail.list) (entry_by old tail event)
    → order' ≡ order_with agreed (entry_by old tail' event) → new ≡ pass_seeing old order'.list
    → own_entries new ≡ own_entries old ++ entry_by old tail' event ∷ [] → IsPrefix old.seen agreed.list → NamesPasses order'.passes order'.list
    → EntersLast start passes tail (entry_by old tail event) old new
enters_last start passes order agreed order' tail tail' old new event agreed_is tail_is agree count legal about may order_is new_is once begins made =
    let e : Entry = entry_by old tail event in
    let whole : order' ≡ order_with order e = order_is ∙ (λ i. order_with (agreed_is i) (entry_by old (tail_is i) event)) in
    let seen : new.seen ≡ order.list ++ e ∷ [] = ap (λ (p : PassValue). p.seen) new_is ∙ ap (λ (o : OrderValue). o.list) whole in
    let front : old.seen ++ begins.0 ≡ order.list = begins.1 ∙ ap (λ (o : OrderValue). o.list) agreed_is in
    let here : IsLegal (replay start (about_class tail.class order.list)) e = subst (λ (l : List Entry). IsLegal (replay start l) e) agree may in
    let made_by : NamesPasses passes order'.list = subst (λ (n : ℕ). NamesPasses n order'.list) (ap (λ (o : OrderValue). o.passes) whole ∙ count) made in
    record {
      enters = record {
        table = ap (λ (p : PassValue). p.table) new_is;
        number = ap (λ (p : PassValue). p.number) new_is;
        begins = (begins.0 ++ e ∷ [], sym (append_assoc old.seen begins.0 (e ∷ [])) ∙ ap (λ (l : List Entry). l ++ e ∷ []) front ∙ sym seen);
        legal = subst (IsLegalHistory start) (sym seen) (legal_entry start order.list tail.class e about legal here);
        made = subst (NamesPasses passes) (sym (ap (λ (p : PassValue). p.seen) new_is)) made_by;
        once = once ∙ ap (λ (t : TailValue). own_entries old ++ entry_by old t event ∷ []) tail_is;
      };
      before = order.list;
      last = seen;
      class = sym agree;
      same = record {
        looks = ap (λ (p : PassValue). p.looks) new_is;
        sights = le_of_eq old.sights new.sights (sym (ap (λ (p : PassValue). p.sights) new_is));
      };
    }
