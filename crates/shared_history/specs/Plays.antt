-- What each step tells.
use Rattle.std.specs.Prelude.{length, ◌≡◌, ℕ, List, [], ◌⊎◌, Option, Some, None, ◌≤◌}
use mathlib.Core.List.{IsPrefix}
use Rattle.atomic_table.specs.Table.{Me, Step}
use Rattle.carbon_history.specs.declared.entry.Entry.{Entry}
use Rattle.shared_history.specs.declared.view.Own.{Own}
use Rattle.shared_history.specs.declared.view.Lead.{Lead}
use Rattle.shared_history.specs.declared.view.Branch.{Branch}
use Rattle.shared_history.specs.declared.view.View.{View}
use Rattle.carbon_history.specs.Entries.{NamesPasses, of_pass, about_class}
use Rattle.shared_history.specs.Views.{view, awaiting, entered, sighted, settled, ran, marked, all_of, look_at}

-- what was seen has the pass's own entries, each once
abbrev pub HasOwn : Option Own → List Entry → Type 0
HasOwn None seen = Unit {0}
HasOwn (Some o) seen = of_pass o.number seen ≡ o.mine

-- every entry names a pass that was made
abbrev pub OfMade : Option Lead → Type 0
OfMade None = Unit {0}
OfMade (Some l) = NamesPasses l.passes l.all

-- the list of the class is the class's part of the whole list
abbrev pub AgreesWith : Option Branch → Option Lead → Type 0
AgreesWith None l = Unit {0}
AgreesWith (Some t) None = Unit {0}
AgreesWith (Some t) (Some l) = t.list ≡ about_class t.class l.all

-- the look at the class is no more than its state, and the class's entries that were seen begin its list
abbrev pub Reaches : Option Own → Option Branch → List Entry → Type 0
Reaches None t seen = Unit {0}
Reaches (Some o) None seen = Unit {0}
Reaches (Some o) (Some t) seen =
    IsPrefix (look_at t.class o.looks).list t.list × ((look_at t.class o.looks).settled ≤ t.settled)
    × ((look_at t.class o.looks).runs ≤ t.runs) × IsPrefix (about_class t.class seen) t.list

-- the entry is appended, and waits
abbrev pub Awaits : Entry → Step Entry → Me Entry View → ℕ → Me Entry View → Type 0
Awaits e s m n w = w ≡ (awaiting e m.0, m.1)

-- the entry is entered; what was seen before begins the list, and what is seen now has the pass's own entries
abbrev pub Enters : Entry → Step Entry → Me Entry View → ℕ → Me Entry View → Type 0
Enters e s m n w =
    (w ≡ (entered e m.0, m.1)) × IsPrefix m.0.seen (all_of m.0.lead) × HasOwn w.0.own w.0.seen × OfMade w.0.lead

-- the whole list is seen
abbrev pub Sees : Step Entry → Me Entry View → ℕ → Me Entry View → Type 0
Sees s m n w =
    (w ≡ (sighted m.0, m.1)) × IsPrefix m.0.seen (all_of m.0.lead) × HasOwn w.0.own w.0.seen × OfMade w.0.lead

-- the longer of what was seen and what was heard is seen
abbrev pub Learns : Step Entry → Me Entry View → ℕ → Me Entry View → Type 0
Learns s m n w =
    (w ≡ (view w.0.seen [] m.0.own m.0.lead m.0.branch, m.1)) × ((w.0.seen ≡ m.0.seen) ⊎ (w.0.seen ≡ m.0.heard))
    × IsPrefix m.0.seen w.0.seen × IsPrefix m.0.heard w.0.seen × HasOwn w.0.own w.0.seen

-- nothing changes
abbrev pub Agrees : Step Entry → Me Entry View → ℕ → Me Entry View → Type 0
Agrees s m n w = (w ≡ m) × AgreesWith m.0.branch m.0.lead

-- one drain more is settled
abbrev pub Settles : Step Entry → Me Entry View → ℕ → Me Entry View → Type 0
Settles s m n w = w ≡ (settled m.0, m.1)

-- one run more is written
abbrev pub Runs : Step Entry → Me Entry View → ℕ → Me Entry View → Type 0
Runs s m n w = w ≡ (ran m.0, m.1)

-- the pass looks at the class
abbrev pub Marks : Step Entry → Me Entry View → ℕ → Me Entry View → Type 0
Marks s m n w = (w ≡ (marked m.0, m.1)) × Reaches m.0.own m.0.branch m.0.seen

-- where no entry waits, the number found counts the list
abbrev pub CountedBy : Option Lead → ℕ → Type 0
CountedBy None n = Unit {0}
CountedBy (Some l) n = l.waits ≡ None → n ≡ length l.all

-- nothing changes; every entry names a pass that was made, and the number found counts them
abbrev pub Closes : Step Entry → Me Entry View → ℕ → Me Entry View → Type 0
Closes s m n w = (w ≡ m) × OfMade m.0.lead × CountedBy m.0.lead n
