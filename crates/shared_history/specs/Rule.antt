-- The rule: what holds of the words and of what all seats know, between any two steps.
use Rattle.std.specs.Prelude.{◌≡◌, ℕ, zero, suc, ◌<◌, ◌≤◌, ◌+◌, ◌^◌, Bool, true, false, List, [], ◌++◌, length, Option, Some, None}
use mathlib.Core.List.{IsPrefix}
use mathlib.Core.Option.{some}
use lib.ListN.{get_elem?}
use Rattle.atomic_table.specs.Table.{State}
use Rattle.carbon_history.specs.declared.entry.Entry.{Entry}
use Rattle.shared_history.specs.declared.view.Look.{Look}
use Rattle.shared_history.specs.declared.view.Own.{Own}
use Rattle.shared_history.specs.declared.view.Lead.{Lead}
use Rattle.shared_history.specs.declared.view.Branch.{Branch}
use Rattle.shared_history.specs.declared.view.View.{View}
use Rattle.carbon_history.specs.Entries.{of_pass, about_class, drains, listed}
use Rattle.shared_history.specs.Views.{look_at}

-- What no thread holds whole. The history is the base, and then the entry that waits for its class to count it. The leader is the seat with
-- the right to append; a pass has its owner's seat, and a class its keeper's.
pub record Book : Type 0 where
  pub base : List Entry
  pub waiting : Option Entry
  pub passes : ℕ
  pub classes : ℕ
  pub leader : ℕ
  pub owner : ℕ → ℕ
  pub keeper : ℕ → ℕ
  pub settled : ℕ → ℕ
  pub runs : ℕ → ℕ

-- the history
abbrev pub whole : Book → List Entry
whole b = b.base ++ listed b.waiting

-- what the words count: the first one the history, each other the entries about a class
abbrev pub word_of : Book → ℕ → ℕ
word_of b zero = length (whole b)
word_of b (suc class) = length (about_class class b.base)

-- of some drains all are settled, or all but one
pub record OneOwed (settled : ℕ) (list : List Entry) : Type 0 where
  pub low : settled ≤ drains list
  pub high : drains list ≤ settled + 1

abbrev pub LookFits : Book → ℕ → Look → Type 0
LookFits b class l = IsPrefix l.list (about_class class b.base) × (l.settled ≤ b.settled class) × (l.runs ≤ b.runs class)

abbrev pub FitsOwn : Book → List Entry → ℕ → Option Own → Type 0
FitsOwn b seen by None = Unit {0}
FitsOwn b seen by (Some o) =
    (b.owner o.number ≡ by) × (o.number < b.passes) × (of_pass o.number b.base ≡ o.mine) × (of_pass o.number seen ≡ o.mine)
    × ((class : ℕ) → LookFits b class (look_at class o.looks))

abbrev pub FitsLead : Book → ℕ → Option Lead → Type 0
FitsLead b by None = Unit {0}
FitsLead b by (Some l) =
    (b.leader ≡ by) × (l.all ≡ b.base) × (l.passes ≡ b.passes) × (l.classes ≡ b.classes) × (l.waits ≡ b.waiting)

abbrev pub FitsBranch : Book → ℕ → Option Branch → Type 0
FitsBranch b by None = Unit {0}
FitsBranch b by (Some t) =
    (b.keeper t.class ≡ by) × (t.class < b.classes) × (t.list ≡ about_class t.class b.base)
    × (t.settled ≡ b.settled t.class) × (t.runs ≡ b.runs t.class)

-- what a seat knows is so
pub record Fits (b : Book) (by : ℕ) (v : View) : Type 0 where
  pub seen : IsPrefix v.seen b.base
  pub heard : IsPrefix v.heard b.base
  pub own : FitsOwn b v.seen by v.own
  pub lead : FitsLead b by v.lead
  pub branch : FitsBranch b by v.branch

-- nothing is of a pass or a class that was not made, no pass has too many entries, and of each class's drains all are settled or all but one
pub record Known (b : Book) : Type 0 where
  pub few_passes : b.passes ≤ 65535
  pub no_pass : (pass : ℕ) → b.passes ≤ pass → of_pass pass (whole b) ≡ []
  pub few : (pass : ℕ) → length (of_pass pass (whole b)) ≤ 2 ^ 48
  pub no_class : (class : ℕ) → b.classes ≤ class → about_class class (whole b) ≡ []
  pub no_state : (class : ℕ) → b.classes ≤ class → (b.settled class ≡ 0) × (b.runs class ≡ 0)
  pub owed : (class : ℕ) → OneOwed (b.settled class) (about_class class b.base)

-- ---- the rights are there

abbrev pub has_lead : Option Lead → Bool
has_lead None = false
has_lead (Some l) = true

abbrev pub has_branch : Option Branch → Bool
has_branch None = false
has_branch (Some t) = true

abbrev pub IsOfClass : ℕ → Option Branch → Type 0
IsOfClass class None = ⊥
IsOfClass class (Some t) = t.class ≡ class

abbrev pub IsOfPass : ℕ → Option Own → Type 0
IsOfPass pass None = ⊥
IsOfPass pass (Some o) = o.number ≡ pass

abbrev pub Leads : View → Type 0
Leads v = has_lead v.lead ≡ true

abbrev pub KeepsClass : ℕ → View → Type 0
KeepsClass class v = IsOfClass class v.branch

abbrev pub OwnsPass : ℕ → View → Type 0
OwnsPass pass v = IsOfPass pass v.own

-- a view with the right to append alone, or with the right of a class alone
abbrev pub IsLeadAlone : View → Type 0
IsLeadAlone v = (has_lead v.lead ≡ true) × (v.own ≡ None) × (v.branch ≡ None)

abbrev pub IsBranchAlone : View → Type 0
IsBranchAlone v = (has_branch v.branch ≡ true) × (v.own ≡ None) × (v.lead ≡ None)

-- the seat of this number has such a view
abbrev pub HasView : List View → ℕ → (View → Type 0) → Type 0
HasView views seat P = (v : View) × (get_elem? views seat ≡ some v) × P v

-- the leader has the right to append, each keeper that of its class, and each owner its pass
pub record Held (b : Book) (views : List View) : Type 0 where
  pub leader : HasView views b.leader Leads
  pub keepers : (class : ℕ) → class < b.classes → HasView views (b.keeper class) (KeepsClass class)
  pub owners : (pass : ℕ) → pass < b.passes → HasView views (b.owner pass) (OwnsPass pass)

pub record Kept (s : State Entry View) : Type 0 where
  pub book : Book
  pub first : 0 < length s.words
  pub words : (i n : ℕ) → get_elem? s.words i ≡ some n → n ≡ word_of book i
  pub known : Known book
  pub views : (by : ℕ) (v : View) → get_elem? s.views by ≡ some v → Fits book by v
  pub held : Held book s.views
