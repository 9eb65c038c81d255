-- How the views change.
use Rattle.std.specs.Prelude.{ℕ, ◌+◌, ◌==◌, List, [], ◌∷◌, ◌++◌, Option, Some, None, if◌then◌else◌}
use Rattle.carbon_history.specs.declared.entry.Entry.{Entry}
use Rattle.shared_history.specs.declared.view.Look.{Look}
use Rattle.shared_history.specs.declared.view.Own.{Own}
use Rattle.shared_history.specs.declared.view.Lead.{Lead}
use Rattle.shared_history.specs.declared.view.Branch.{Branch}
use Rattle.shared_history.specs.declared.view.View.{View}

abbrev pub view : List Entry → List Entry → Option Own → Option Lead → Option Branch → View
view s h o l t = record { seen = s; heard = h; own = o; lead = l; branch = t }

abbrev pub own : ℕ → List Entry → List Look → ℕ → Own
own n m ls s = record { number = n; mine = m; looks = ls; sights = s }

abbrev pub lead : List Entry → ℕ → ℕ → Option Entry → Lead
lead all p c w = record { all = all; passes = p; classes = c; waits = w }

abbrev pub branch : ℕ → List Entry → ℕ → ℕ → Branch
branch k l s r = record { class = k; list = l; settled = s; runs = r }

abbrev pub look : ℕ → List Entry → ℕ → ℕ → ℕ → Look
look k l s r n = record { class = k; list = l; settled = s; runs = r; times = n }

abbrev pub nobody : View
nobody = view [] [] None None None

abbrev pub founder : View
founder = view [] [] None (Some (lead [] 0 0 None)) None

-- the right to append leaves, and comes
abbrev pub lent : View → View
lent v = view v.seen v.heard v.own None v.branch

abbrev pub lead_of : View → View
lead_of v = view [] [] None v.lead None

abbrev pub led : View → View → View
led v w = view v.seen v.heard v.own w.lead v.branch

-- the right of a class leaves, and comes
abbrev pub pruned : View → View
pruned v = view v.seen v.heard v.own v.lead None

abbrev pub branch_of : View → View
branch_of v = view [] [] None None v.branch

abbrev pub grafted : View → View → View
grafted v w = view v.seen v.heard v.own v.lead w.branch

-- a note is a copy of what was seen, and is heard
abbrev pub noted : View → View
noted v = view v.seen [] None None None

abbrev pub hearing : View → View → View
hearing v w = view v.seen w.seen v.own v.lead v.branch

-- one class more, and its right
abbrev pub one_class : Option Lead → Option Lead
one_class None = None
one_class (Some l) = Some (lead l.all l.passes (l.classes + 1) l.waits)

abbrev pub new_branch : Option Lead → Option Branch
new_branch None = None
new_branch (Some l) = Some (branch l.classes [] 0 0)

abbrev pub with_class : View → View
with_class v = view v.seen v.heard v.own (one_class v.lead) v.branch

abbrev pub new_tail : View → View
new_tail v = view [] [] None None (new_branch v.lead)

-- one pass more
abbrev pub one_pass : Option Lead → Option Lead
one_pass None = None
one_pass (Some l) = Some (lead l.all (l.passes + 1) l.classes l.waits)

abbrev pub new_own : Option Lead → Option Own
new_own None = None
new_own (Some l) = Some (own l.passes [] [] 0)

abbrev pub with_pass : View → View
with_pass v = view v.seen v.heard v.own (one_pass v.lead) v.branch

abbrev pub new_pass : View → View
new_pass v = view [] [] (new_own v.lead) None None

abbrev pub all_of : Option Lead → List Entry
all_of None = []
all_of (Some l) = l.all

-- an entry is appended, and waits
abbrev pub lead_awaits : Option Lead → Entry → Option Lead
lead_awaits None e = None
lead_awaits (Some l) e = Some (lead l.all l.passes l.classes (Some e))

abbrev pub awaiting : Entry → View → View
awaiting e v = view v.seen v.heard v.own (lead_awaits v.lead e) v.branch

-- an entry is in the list, in its class's list and among the pass's own, and the whole list is seen
abbrev pub own_with : Option Own → Entry → Option Own
own_with None e = None
own_with (Some o) e = Some (own o.number (o.mine ++ e ∷ []) o.looks o.sights)

abbrev pub lead_with : Option Lead → Entry → Option Lead
lead_with None e = None
lead_with (Some l) e = Some (lead (l.all ++ e ∷ []) l.passes l.classes None)

abbrev pub branch_with : Option Branch → Entry → Option Branch
branch_with None e = None
branch_with (Some t) e = Some (branch t.class (t.list ++ e ∷ []) t.settled t.runs)

abbrev pub entered : Entry → View → View
entered e v = view (all_of v.lead ++ e ∷ []) v.heard (own_with v.own e) (lead_with v.lead e) (branch_with v.branch e)

-- the whole list is seen
abbrev pub own_sees : Option Own → Option Own
own_sees None = None
own_sees (Some o) = Some (own o.number o.mine o.looks (o.sights + 1))

abbrev pub sighted : View → View
sighted v = view (all_of v.lead) v.heard (own_sees v.own) v.lead v.branch

-- one drain more is settled, one run more is written
abbrev pub branch_settled : Option Branch → Option Branch
branch_settled None = None
branch_settled (Some t) = Some (branch t.class t.list (t.settled + 1) t.runs)

abbrev pub settled : View → View
settled v = view v.seen v.heard v.own v.lead (branch_settled v.branch)

abbrev pub branch_ran : Option Branch → Option Branch
branch_ran None = None
branch_ran (Some t) = Some (branch t.class t.list t.settled (t.runs + 1))

abbrev pub ran : View → View
ran v = view v.seen v.heard v.own v.lead (branch_ran v.branch)

-- the last look at a class
abbrev pub look_at : ℕ → List Look → Look
look_at k [] = look k [] 0 0 0
look_at k (l ∷ ls) = if l.class == k then l else look_at k ls

abbrev pub looked : List Look → Branch → List Look
looked ls t = look t.class t.list t.settled t.runs ((look_at t.class ls).times + 1) ∷ ls

abbrev pub own_looks : Option Own → Option Branch → Option Own
own_looks None t = None
own_looks (Some o) None = Some o
own_looks (Some o) (Some t) = Some (own o.number o.mine (looked o.looks t) o.sights)

abbrev pub marked : View → View
marked v = view v.seen v.heard (own_looks v.own v.branch) v.lead v.branch
