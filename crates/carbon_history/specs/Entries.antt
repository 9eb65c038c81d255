-- The parts of a list of entries.
use Rattle.std.specs.Prelude.{◌≡◌, ℕ, ◌≤◌, ◌==◌, Bool, true, false, List, [], ◌∷◌, length, filter, Option, Some, None}
use Rattle.carbon_history.specs.declared.entry.Entry.{Entry}
use Rattle.carbon_history.specs.declared.entry.Entry.TheVariants.{Put, Drain, Ask, Fault}
use Rattle.metric_path.specs.Class.{class_of}

-- the pass that made an entry
abbrev pub pass_of : Entry → ℕ
pass_of (Put pass path time value end) = pass
pass_of (Drain pass path now) = pass
pass_of (Ask pass number try now) = pass
pass_of (Fault pass class) = pass

-- whether an entry is about a class: a question is about none
abbrev pub is_about : ℕ → Entry → Bool
is_about class (Put pass path time value end) = class_of path == class
is_about class (Drain pass path now) = class_of path == class
is_about class (Ask pass number try now) = false
is_about class (Fault pass of_class) = of_class == class

abbrev pub is_drain : Entry → Bool
is_drain (Put pass path time value end) = false
is_drain (Drain pass path now) = true
is_drain (Ask pass number try now) = false
is_drain (Fault pass class) = false

-- the entries of a pass
abbrev pub of_pass : ℕ → List Entry → List Entry
of_pass pass entries = filter (λ entry. pass_of entry == pass) entries

-- the entries about a class
abbrev pub about_class : ℕ → List Entry → List Entry
about_class class entries = filter (is_about class) entries

-- how many drains there are
abbrev pub drains : List Entry → ℕ
drains entries = length (filter is_drain entries)

-- the number that a question has, and 0 for what is none
abbrev pub ask_number : Entry → ℕ
ask_number (Put pass path time value end) = 0
ask_number (Drain pass path now) = 0
ask_number (Ask pass number try now) = number
ask_number (Fault pass class) = 0

-- every entry names one of the first passes, so many
pub record NamesPasses (passes : ℕ) (entries : List Entry) : Type 0 where
  pub none_else : (pass : ℕ) → passes ≤ pass → of_pass pass entries ≡ []

-- an entry that may be there, as a list
abbrev pub listed : Option Entry → List Entry
listed None = []
listed (Some entry) = entry ∷ []
