-- A walk over entries in byte order.
use Rattle.std.proofs.Common.{Less, ◌≡◌, ◌≢◌, ℕ, inl, inr, List, [], ◌∷◌, ◌++◌, All, subst, refl, sym, ap, ◌∙◌, append_assoc, append-nil}
use Rattle.std.specs.Cmp.Lexicographic.{slice_cmp}
use Rattle.std.specs.List.{AllByRecursion}
use Rattle.std.specs.List.Sorted.{IsStrictlySortedBy}
use Rattle.std.specs.Ordering.{nat_cmp, ordering_reverse}
use Rattle.std.proofs.lemmas.Cmp.{nat_list_cmp_total, tied_itself}
use Rattle.std.proofs.lemmas.List.Elements.{All-head, All-tail}
use Rattle.std.proofs.lemmas.Map.Keys.{sorted_head, sorted_tail}
use Rattle.path_glob.specs.Laws.{BeginsWith}
use Rattle.metric_index.specs.Found.{Picks}
use Rattle.metric_index.specs.Index.{paths_of}
use Rattle.metric_index.proofs.IndexLemmas.{order}

-- what is known on the way: the entries that are left, and those that were found
pub record Walks {V : Type 0} (fits : List ℕ → Type 0) (front : List ℕ) (start left hits : List (List ℕ × V)) : Type 0 where
  pub rising : IsStrictlySortedBy order (paths_of left)
  pub from : All (λ path. order path front ≢ Less) (paths_of left)
  pub onward : (more : List (List ℕ × V)) → Picks fits left more → Picks fits start (hits ++ more)

pub walk_starts : {V : Type 0} (fits : List ℕ → Type 0) (front : List ℕ) (start : List (List ℕ × V)) → IsStrictlySortedBy order (paths_of start) → All (λ path. order path front ≢ Less) (paths_of start)
    → Walks fits front start start []
walk_starts fits front start rising from = record { rising = rising; from = from; onward = λ more picks. picks }

module _ {V : Type 0} (fits : List ℕ → Type 0) (front : List ℕ) (start : List (List ℕ × V)) (entry : List ℕ × V) (left hits : List (List ℕ × V)) (walks : Walks fits front start (entry ∷ left) hits) where
  -- the next entry is a hit
  pub walk_finds : fits entry.0 → Walks fits front start left (hits ++ entry ∷ [])
  walk_finds fit = record {
    rising = sorted_tail order entry.0 (paths_of left) walks.rising;
    from = All-tail (λ path. order path front ≢ Less) entry.0 (paths_of left) walks.from;
    onward = λ more picks. subst (Picks fits start) (sym (append_assoc hits (entry ∷ []) more)) (walks.onward (entry ∷ more) (inl (fit, more, refl, picks)));
  }

  -- the next entry is none
  pub walk_passes : (fits entry.0 → ⊥) → Walks fits front start left hits
  walk_passes none = record {
    rising = sorted_tail order entry.0 (paths_of left) walks.rising;
    from = All-tail (λ path. order path front ≢ Less) entry.0 (paths_of left) walks.from;
    onward = λ more picks. walks.onward more (inr (none, picks));
  }

-- the walk has come to the end
pub walk_ends : {V : Type 0} (fits : List ℕ → Type 0) (front : List ℕ) (start left hits : List (List ℕ × V)) → left ≡ [] → Walks fits front start left hits → Picks fits start hits
walk_ends fits front start left hits is walks =
    subst (Picks fits start) (append-nil hits) (walks.onward [] (subst (λ (l : List (List ℕ × _)). Picks fits l []) (sym is) refl))

none_later : {V : Type 0} (fits : List ℕ → Type 0) (path : List ℕ) (left : List (List ℕ × V)) → ((later : List ℕ) → order later path ≢ Less → fits later → ⊥)
    → AllByRecursion (λ later. order path later ≡ Less) (paths_of left) → Picks fits left []
none_later fits path [] never above = refl
none_later fits path (entry ∷ left) never above =
    inr (never entry.0 (λ below. absurd (let e = sym below ∙ nat_list_cmp_total.antisymm entry.0 path ∙ ap ordering_reverse above.0 in cc)), none_later fits path left never above.1)

-- No path that is left fits, where the next one is past the front.
pub walk_breaks : {V : Type 0} (fits : List ℕ → Type 0) (front : List ℕ) (start : List (List ℕ × V)) (entry : List ℕ × V) (left hits : List (List ℕ × V)) → Walks fits front start (entry ∷ left) hits
    → ((path : List ℕ) → fits path → BeginsWith front path)
    → ((front text later : List ℕ) → slice_cmp nat_cmp text front ≢ Less → (BeginsWith front text → ⊥) → slice_cmp nat_cmp later text ≢ Less → BeginsWith front later → ⊥)
    → (BeginsWith front entry.0 → ⊥) → Picks fits start hits
walk_breaks fits front start entry left hits walks begins past apart =
    let never : (later : List ℕ) → order later entry.0 ≢ Less → fits later → ⊥ =
    λ later above fit. past front entry.0 later (All-head (λ path. order path front ≢ Less) entry.0 (paths_of left) walks.from) apart above (begins later fit) in
    let none : Picks fits (entry ∷ left) [] =
    inr (never entry.0 (λ below. absurd (let e = sym (tied_itself nat_list_cmp_total entry.0) ∙ below in cc)), none_later fits entry.0 left never (sorted_head order entry.0 (paths_of left) walks.rising)) in
    subst (Picks fits start) (append-nil hits) (walks.onward [] none)
