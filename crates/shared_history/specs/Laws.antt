-- What the rule says of a state of the table, in the words of the history alone.
use Rattle.std.specs.Prelude.{◌≡◌, ℕ, suc, ◌<◌, ◌≤◌, ◌==◌, ◌^◌, ◌⊎◌, Bool, true, filter, List, [], ◌∷◌, ◌++◌, length, Some}
use mathlib.Core.List.{IsPrefix}
use mathlib.Core.Option.{some}
use lib.ListN.{get_elem?}
use Rattle.atomic_table.specs.Table.{State}
use Rattle.carbon_history.specs.declared.entry.Entry.{Entry}
use Rattle.shared_history.specs.declared.view.Look.{Look}
use Rattle.shared_history.specs.declared.view.Own.{Own}
use Rattle.shared_history.specs.declared.view.Lead.{Lead}
use Rattle.shared_history.specs.declared.view.Branch.{Branch}
use Rattle.shared_history.specs.declared.view.View.{View}
use Rattle.carbon_history.specs.Entries.{NamesPasses, about_class, is_about, listed, of_pass, pass_of}
use Rattle.shared_history.specs.Rule.{IsOfClass, IsOfPass, OneOwed, has_lead}
use Rattle.shared_history.specs.Views.{look_at}

-- the seat of this number knows this
abbrev pub Knows : State Entry View → ℕ → View → Type 0
Knows s seat v = get_elem? s.views seat ≡ some v

-- a part of the history is this list, or has its last entry besides
abbrev pub IsPart : (Entry → Bool) → List Entry → List Entry → Type 0
IsPart passes history list =
    (filter passes history ≡ list)
    ⊎ ((front : List Entry) × (last : Entry) × (history ≡ front ++ last ∷ []) × (filter passes history ≡ list ++ last ∷ []))

-- The first word is the length of the history, which never comes to the word's end. Just one seat has the right to append, and knows the
-- history: the list that it has, and then the entry that waits, if one does.
pub record OneOrder (s : State Entry View) (history : List Entry) : Type 0 where
  pub word : get_elem? s.words 0 ≡ some (length history)
  pub small : length history < 2 ^ 64
  pub some_seat : (i : ℕ) × (v : View) × Knows s i v × (has_lead v.lead ≡ true)
  pub one : (i j : ℕ) (v w : View) (l m : Lead) → Knows s i v → Knows s j w → v.lead ≡ Some l → w.lead ≡ Some m → i ≡ j
  pub list : (i : ℕ) (v : View) (l : Lead) → Knows s i v → v.lead ≡ Some l → history ≡ l.all ++ listed l.waits

-- Just one seat has the right of a class that was made. Its list is the history's entries about the class, but perhaps the last one; the class's word is
-- the length of the list; all its drains are settled, or all but one. The word of a class that was not made is 0.
pub record OneTail (s : State Entry View) (history : List Entry) (classes : ℕ) : Type 0 where
  pub one : (i j : ℕ) (v w : View) (t u : Branch)
      → Knows s i v → Knows s j w → v.branch ≡ Some t → w.branch ≡ Some u → t.class ≡ u.class → i ≡ j
  pub some_seat : (class : ℕ) → class < classes → (i : ℕ) × (v : View) × Knows s i v × IsOfClass class v.branch
  pub made : (i : ℕ) (v : View) (t : Branch) → Knows s i v → v.branch ≡ Some t → t.class < classes
  pub part : (i : ℕ) (v : View) (t : Branch) → Knows s i v → v.branch ≡ Some t → IsPart (is_about t.class) history t.list
  pub word : (i : ℕ) (v : View) (t : Branch) (n : ℕ)
      → Knows s i v → v.branch ≡ Some t → get_elem? s.words (suc t.class) ≡ some n → n ≡ length t.list
  pub owed : (i : ℕ) (v : View) (t : Branch) → Knows s i v → v.branch ≡ Some t → OneOwed t.settled t.list
  pub not_made : (class n : ℕ) → classes ≤ class → get_elem? s.words (suc class) ≡ some n → n ≡ 0

-- What any seat has seen, or was told, begins the history, and its entries about a class begin that class's list.
pub record AllBegin (s : State Entry View) (history : List Entry) : Type 0 where
  pub seen : (i : ℕ) (v : View) → Knows s i v → IsPrefix v.seen history
  pub heard : (i : ℕ) (v : View) → Knows s i v → IsPrefix v.heard history
  pub seen_class : (i j : ℕ) (v w : View) (t : Branch)
      → Knows s i v → Knows s j w → w.branch ≡ Some t → IsPrefix (about_class t.class v.seen) t.list
  pub heard_class : (i j : ℕ) (v w : View) (t : Branch)
      → Knows s i v → Knows s j w → w.branch ≡ Some t → IsPrefix (about_class t.class v.heard) t.list

-- a look is of a beginning of the class's list, with at most the drains settled and the runs written that the class has
pub record IsBehind (look : Look) (t : Branch) : Type 0 where
  pub list : IsPrefix look.list t.list
  pub settled : look.settled ≤ t.settled
  pub runs : look.runs ≤ t.runs

abbrev pub LooksBehind : State Entry View → Type 0
LooksBehind s = (i j : ℕ) (v w : View) (o : Own) (t : Branch)
    → Knows s i v → Knows s j w → v.own ≡ Some o → w.branch ≡ Some t → IsBehind (look_at t.class o.looks) t

-- a look that found nothing
pub record IsEmptyLook (look : Look) : Type 0 where
  pub list : look.list ≡ []
  pub settled : look.settled ≡ 0
  pub runs : look.runs ≡ 0

-- of a class that was not made a pass has no other look
abbrev pub LooksOfMade : State Entry View → ℕ → Type 0
LooksOfMade s classes = (i : ℕ) (v : View) (o : Own) (class : ℕ)
    → Knows s i v → v.own ≡ Some o → classes ≤ class → IsEmptyLook (look_at class o.looks)

-- Just one seat has each pass that was made. Every entry names a pass that was made and is about none of the classes that
-- were not; the history has at most 2^48 entries of each pass; what a pass has seen has all of these, but perhaps the last one.
pub record PassesCount (s : State Entry View) (history : List Entry) (passes classes : ℕ) : Type 0 where
  pub few : passes ≤ 65535
  pub one : (i j : ℕ) (v w : View) (o p : Own)
      → Knows s i v → Knows s j w → v.own ≡ Some o → w.own ≡ Some p → o.number ≡ p.number → i ≡ j
  pub some_seat : (pass : ℕ) → pass < passes → (i : ℕ) × (v : View) × Knows s i v × IsOfPass pass v.own
  pub below : (i : ℕ) (v : View) (o : Own) → Knows s i v → v.own ≡ Some o → o.number < passes
  pub names : NamesPasses passes history
  pub about : (class : ℕ) → classes ≤ class → about_class class history ≡ []
  pub most : (pass : ℕ) → length (of_pass pass history) ≤ 2 ^ 48
  pub own : (i : ℕ) (v : View) (o : Own) → Knows s i v → v.own ≡ Some o
      → IsPart (λ entry. pass_of entry == o.number) history (of_pass o.number v.seen)
