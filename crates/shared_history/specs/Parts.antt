-- What contracts see of the parts, and the view of each one's seat at rest.
use Rattle.std.specs.Prelude.{◌≡◌, ℕ, ◌≤◌, ◌+◌, List, [], ◌∷◌, ◌++◌, max, slice_get, Option, Some, None}
use mathlib.Core.List.{IsPrefix}
use Rattle.atomic_table.specs.Seated.{TableId}
use Rattle.carbon_history.specs.declared.entry.Entry.{Entry}
use Rattle.shared_history.specs.declared.view.Look.{Look}
use Rattle.shared_history.specs.declared.view.Own.{Own}
use Rattle.shared_history.specs.declared.view.Branch.{Branch}
use Rattle.shared_history.specs.declared.view.View.{View}
use Rattle.carbon_history.specs.Entries.{about_class, of_pass, ask_number}
use Rattle.shared_history.specs.Views.{view, own, lead, branch, look, look_at}

-- the table that it is of, the history, and how many passes and classes were made
pub record OrderValue : Type 0 where
  pub table : TableId
  pub list : List Entry
  pub passes : ℕ
  pub classes : ℕ

-- a class: its entries, how many of its drains are settled, and how many of its runs were written
pub record TailValue : Type 0 where
  pub table : TableId
  pub class : ℕ
  pub list : List Entry
  pub settled : ℕ
  pub runs : ℕ

-- a pass: what it has seen of the history, its looks at classes, the last one first, and how often it has seen the whole
pub record PassValue : Type 0 where
  pub table : TableId
  pub number : ℕ
  pub seen : List Entry
  pub looks : List Look
  pub sights : ℕ

-- what a pass had seen
pub record NoteValue : Type 0 where
  pub table : TableId
  pub list : List Entry

-- the pass's own entries: what it has seen has all of them
abbrev pub own_entries : PassValue → List Entry
own_entries pass = of_pass pass.number pass.seen

-- the greatest number of a question, or 0
abbrev pub greatest_ask : List Entry → ℕ
greatest_ask [] = 0
greatest_ask (entry ∷ entries) = max (ask_number entry) (greatest_ask entries)

-- ---- what a call makes of them

abbrev pub order_with : OrderValue → Entry → OrderValue
order_with order entry = record order { list = order.list ++ entry ∷ [] }

abbrev pub tail_with : TailValue → Entry → TailValue
tail_with tail entry = record tail { list = tail.list ++ entry ∷ [] }

abbrev pub pass_seeing : PassValue → List Entry → PassValue
pass_seeing pass list = record pass { seen = list }

-- the whole history is seen once more
abbrev pub pass_sighting : PassValue → List Entry → PassValue
pass_sighting pass list = record pass { seen = list; sights = pass.sights + 1 }

abbrev pub tail_settled : TailValue → TailValue
tail_settled tail = record tail { settled = tail.settled + 1 }

abbrev pub tail_ran : TailValue → TailValue
tail_ran tail = record tail { runs = tail.runs + 1 }

abbrev pub pass_looking : PassValue → Look → PassValue
pass_looking pass new = record pass { looks = new ∷ pass.looks }

-- the look that is the state of the class now
abbrev pub look_now : TailValue → PassValue → Look
look_now tail pass = look tail.class tail.list tail.settled tail.runs ((look_at tail.class pass.looks).times + 1)

-- a look that came before is no more than the state of the class now
pub record IsNoMore (before : Look) (tail : TailValue) : Type 0 where
  pub list : IsPrefix before.list tail.list
  pub settled : before.settled ≤ tail.settled
  pub runs : before.runs ≤ tail.runs

-- the empty history, with so many passes and classes
pub record IsNewOrder (passes classes : ℕ) (order : OrderValue) : Type 0 where
  pub list : order.list ≡ []
  pub pass_count : order.passes ≡ passes
  pub class_count : order.classes ≡ classes

abbrev pub more_tails : OrderValue → OrderValue
more_tails order = record order { classes = order.classes + 1 }

abbrev pub more_passes : OrderValue → OrderValue
more_passes order = record order { passes = order.passes + 1 }

-- the tail of a class that has nothing yet
pub record IsNewTail (table : TableId) (class : ℕ) (tail : TailValue) : Type 0 where
  pub same : tail.table ≡ table
  pub number : tail.class ≡ class
  pub list : tail.list ≡ []
  pub settled : tail.settled ≡ 0
  pub runs : tail.runs ≡ 0

-- a pass that has seen nothing yet
pub record IsNewPass (table : TableId) (number : ℕ) (pass : PassValue) : Type 0 where
  pub same : pass.table ≡ table
  pub place : pass.number ≡ number
  pub seen : pass.seen ≡ []
  pub looks : pass.looks ≡ []
  pub sights : pass.sights ≡ 0

-- ---- the end

-- what a pass has seen begins the history, and has all its own entries
pub record HasSeen (history : List Entry) (pass : PassValue) : Type 0 where
  pub begins : IsPrefix pass.seen history
  pub own : of_pass pass.number history ≡ own_entries pass

-- these passes have, each at its place
abbrev pub AllSeen : List Entry → List PassValue → Type 0
AllSeen history passes = (k : ℕ) (pass : PassValue) → slice_get passes k ≡ Some pass → HasSeen history pass

-- these tails have the entries about their classes
abbrev pub AllAgree : List Entry → List TailValue → Type 0
AllAgree history tails =
    (k : ℕ) (tail : TailValue) → slice_get tails k ≡ Some tail → tail.list ≡ about_class tail.class history

-- these are the tails of the first classes, or the first passes, and new
abbrev pub AreNewTails : TableId → List TailValue → Type 0
AreNewTails table tails = (k : ℕ) (tail : TailValue) → slice_get tails k ≡ Some tail → IsNewTail table k tail

abbrev pub AreNewPasses : TableId → List PassValue → Type 0
AreNewPasses table passes = (k : ℕ) (pass : PassValue) → slice_get passes k ≡ Some pass → IsNewPass table k pass

-- these passes, or tails, are of this table
abbrev pub PassesOfTable : TableId → List PassValue → Type 0
PassesOfTable table passes = (k : ℕ) (pass : PassValue) → slice_get passes k ≡ Some pass → pass.table ≡ table

abbrev pub TailsOfTable : TableId → List TailValue → Type 0
TailsOfTable table tails = (k : ℕ) (tail : TailValue) → slice_get tails k ≡ Some tail → tail.table ≡ table

-- the history that an order holds, if there is one
abbrev pub held_list : Option OrderValue → List Entry
held_list None = []
held_list (Some order) = order.list

-- ---- the views at rest

abbrev pub mine_of : Option Own → List Entry
mine_of None = []
mine_of (Some o) = o.mine

abbrev pub looks_of : Option Own → List Look
looks_of None = []
looks_of (Some o) = o.looks

abbrev pub sights_of : Option Own → ℕ
sights_of None = 0
sights_of (Some o) = o.sights

abbrev pub list_of : Option Branch → List Entry
list_of None = []
list_of (Some t) = t.list

abbrev pub settled_of : Option Branch → ℕ
settled_of None = 0
settled_of (Some t) = t.settled

abbrev pub runs_of : Option Branch → ℕ
runs_of None = 0
runs_of (Some t) = t.runs

abbrev pub order_view : List Entry → ℕ → ℕ → View
order_view all passes classes = view [] [] None (Some (lead all passes classes None)) None

abbrev pub tail_view : ℕ → List Entry → ℕ → ℕ → View
tail_view class list settled runs = view [] [] None None (Some (branch class list settled runs))

abbrev pub pass_view : List Entry → ℕ → List Entry → List Look → ℕ → View
pass_view seen number mine looks sights = view seen [] (Some (own number mine looks sights)) None None
