-- Groups of rows say what the pieces of a node say.
use Rattle.std.proofs.Common.{◌≡◌, ℕ, ◌<◌, ◌≤◌, inl, inr, Bool, true, false, List, [], ◌∷◌, ◌++◌, map, length, sym, ap, ◌∙◌, subst, arith, append-nil}
use Rattle.path_glob.specs.Glob.{Braces, Piece, Plain, RowCovers, Simple, SomeCovers}
use Rattle.path_glob.specs.Groups.{AreGroups, GroupsCover, all_rows, group_rows}
use Rattle.path_glob.specs.Positions.{Leads}
use Rattle.path_glob.specs.declared.groups.Group.{Group}
use Rattle.path_glob.proofs.CoverLemmas.{Tells, tells_no}
use Rattle.path_glob.proofs.PositionLemmas.{leads_alike, leads_in_turn, leads_none, leads_nowhere, leads_over, row_then, then_row}

-- a row alone, as the one value of a group
pub one_value : (row : List Simple) (bytes : List ℕ) → RowCovers row bytes → SomeCovers (row ∷ []) bytes
one_value row bytes covers = inl covers

pub value_alone : (row : List Simple) (bytes : List ℕ) → SomeCovers (row ∷ []) bytes → RowCovers row bytes
value_alone row bytes (inl covers) = covers
value_alone row bytes (inr none) = absurd none

pub leads_one : (row : List Simple) (node : List ℕ) (a b : ℕ → Bool) → Leads (RowCovers row) node a b → Leads (SomeCovers (row ∷ [])) node a b
leads_one row node a b leads = leads_alike {R = RowCovers row} {S = SomeCovers (row ∷ [])} node a b (one_value row) (value_alone row) leads

-- ---- cut

pub no_groups : AreGroups [] []
no_groups bytes = (λ covers. covers, λ covers. covers)

braces_first : (values : List (List Simple)) (groups : List (List (List Simple))) (pieces : List Piece) → AreGroups groups pieces → AreGroups (values ∷ groups) (Braces values ∷ pieces)
braces_first values groups pieces are bytes = (
  λ w. (w.0, w.1, w.2, w.3, (are w.1).0 w.4),
  λ w. (w.0, w.1, w.2, w.3, (are w.1).1 w.4),
)

row_before : (row : List Simple) (groups : List (List (List Simple))) (pieces : List Piece) → AreGroups groups pieces → AreGroups ((row ∷ []) ∷ groups) (map Plain row ++ pieces)
row_before row groups pieces are bytes = (
  λ w. row_then row pieces bytes (w.0, w.1, w.2, value_alone row w.0 w.3, (are w.1).0 w.4),
  λ covers. let w = then_row row pieces bytes covers in (w.0, w.1, w.2, one_value row w.0 w.3, (are w.1).1 w.4),
)

pub row_and_braces : (row : List Simple) (values : List (List Simple)) (groups : List (List (List Simple))) (pieces : List Piece) → AreGroups groups pieces
    → AreGroups ((row ∷ []) ∷ values ∷ groups) (map Plain row ++ Braces values ∷ pieces)
row_and_braces row values groups pieces are = row_before row (values ∷ groups) (Braces values ∷ pieces) (braces_first values groups pieces are)

pub last_row : (row : List Simple) → AreGroups ((row ∷ []) ∷ []) (map Plain row)
last_row row = subst (AreGroups ((row ∷ []) ∷ [])) (append-nil (map Plain row)) (row_before row [] [] no_groups)

-- groups that were pushed, and what follows them
pub rows_onto : (groups : List Group) (group : Group) (rows : List (List Simple)) (tail : List (List (List Simple))) → group_rows group ≡ rows → all_rows (groups ++ group ∷ []) ++ tail ≡ all_rows groups ++ rows ∷ tail
rows_onto [] group rows tail is = ap (λ (r : List (List Simple)). r ∷ tail) is
rows_onto (first ∷ groups) group rows tail is = ap (λ (l : List (List (List Simple))). group_rows first ∷ l) (rows_onto groups group rows tail is)

-- ---- held against a node

-- whatever the groups from this one on lead to, all groups lead to
abbrev pub LeadsFrom : List Group → List Group → List ℕ → (ℕ → Bool) → (ℕ → Bool) → Type 0
LeadsFrom left groups node start reached =
    (new : ℕ → Bool) → Leads (GroupsCover (all_rows left)) node reached new → Leads (GroupsCover (all_rows groups)) node start new

pub leads_on_by : (left groups rest : List Group) (group : Group) (node : List ℕ) (start before after : ℕ → Bool) → left ≡ group ∷ rest → LeadsFrom left groups node start before
    → Leads (SomeCovers (group_rows group)) node before after → LeadsFrom rest groups node start after
leads_on_by left groups rest group node start before after is from one new leads =
    from new (subst (λ (l : List Group). Leads (GroupsCover (all_rows l)) node before new) (sym is)
    (leads_in_turn {R = SomeCovers (group_rows group)} {S = GroupsCover (all_rows rest)} node before after new one leads))

pub none_covers : (left groups : List Group) (node : List ℕ) (start none : ℕ → Bool) → start 0 ≡ true → ((j : ℕ) → 0 < j → start j ≡ false) → LeadsFrom left groups node start none
    → ((j : ℕ) → j ≤ length node → none j ≡ false) → Tells false (GroupsCover (all_rows groups) node)
none_covers left groups node start none first other from empty =
    let over = leads_over (GroupsCover (all_rows groups)) node start none first other (from none (leads_none {R = GroupsCover (all_rows left)} node none empty)) in
    tells_no (λ covers. let e : ◌≡◌ {A = Bool} false true = sym (empty (length node) (omega arith)) ∙ over.1 covers in cc)

pub all_cover : (left groups : List Group) (node : List ℕ) (start last : ℕ → Bool) → left ≡ [] → start 0 ≡ true → ((j : ℕ) → 0 < j → start j ≡ false) → LeadsFrom left groups node start last
    → Tells (last (length node)) (GroupsCover (all_rows groups) node)
all_cover left groups node start last is first other from =
    leads_over (GroupsCover (all_rows groups)) node start last first other
    (from last (subst (λ (l : List Group). Leads (GroupsCover (all_rows l)) node last last) (sym is) (leads_nowhere node last)))
