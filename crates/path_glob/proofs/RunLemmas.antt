-- How an automaton goes over a node, from all positions where its rows begin.
use Rattle.std.proofs.Common.{◌≡◌, ℕ, suc, ◌+◌, ◌-◌, ◌<◌, ◌≤◌, ◌⊎◌, inl, inr, Bool, true, false, ◌&&◌, ◌||◌, List, [], ◌∷◌, ◌++◌, length, drop, take, get_or, sym, ap, ap₂, ◌∙◌, subst, arith}
use Rattle.std.proofs.Math.Seq.{take-append_seam}
use Rattle.std.proofs.lemmas.Bool.{cases_eq}
use Rattle.std.proofs.lemmas.List.{drop-drop, drop_more, take-append-drop}
use Rattle.path_glob.specs.Positions.{Leads, Reached}
use Rattle.path_glob.specs.States.{End, First, LeadOut, mark_at}
use Rattle.path_glob.specs.declared.states.State.{State}
use Rattle.path_glob.proofs.CoverLemmas.{Tells}
use Rattle.path_glob.proofs.PositionLemmas.{and_true, both_true, either_true, lengths, one_true}
use Rattle.path_glob.proofs.StateLemmas.{IsStep, after_step, at_end, before_step, end_at}

-- the bytes of a node between two positions
abbrev pub from_to : List ℕ → ℕ → ℕ → List ℕ
from_to node i e = take (e - i) (drop i node)

none_between : (node : List ℕ) (i : ℕ) → from_to node i i ≡ []
none_between node i = ap (λ (n : ℕ). take n (drop i node)) (let z : i - i ≡ 0 = omega arith in z)

first_between : (node : List ℕ) (i e : ℕ) → i < e → i < length node → from_to node i e ≡ get_or node i 0 ∷ from_to node (i + 1) e
first_between node i e before within =
    let n : e - i ≡ suc (e - (i + 1)) = omega (arith, before) in
    ap₂ (λ (n : ℕ) (l : List ℕ). take n l) n (drop_more node i 0 within)

-- bytes between a position where the rows begin and this one lead to the end of a row
abbrev pub Later : List State → List ℕ → (ℕ → Bool) → ℕ → ℕ → Type 0
Later states node old i e =
    (k : ℕ) × (i ≤ k) × (k ≤ e) × (old k ≡ true) × LeadOut (mark_at First states) states (from_to node k e)

-- the same, or those before them do so from the active states
abbrev pub Ahead : List State → List ℕ → (ℕ → Bool) → (ℕ → Bool) → ℕ → ℕ → ℕ → Type 0
Ahead states node old active i next e = LeadOut active states (from_to node i e) ⊎ Later states node old next e

-- what was found of the positions before this one, and how those behind it are reached from the active states
pub record Goes (states : List State) (node : List ℕ) (old found active : ℕ → Bool) (i next : ℕ) : Type 0 where
  pub done : (e : ℕ) → e < next → Tells (found e) (Later states node old 0 e)
  pub to : (e : ℕ) → i ≤ e → e ≤ length node → Later states node old 0 e → Ahead states node old active i next e
  pub back : (e : ℕ) → i ≤ e → e ≤ length node → Ahead states node old active i next e → Later states node old 0 e

pub goes_start : (states : List State) (node : List ℕ) (old found active : ℕ → Bool) → ((p : ℕ) → active p ≡ false) → Goes states node old found active 0 0
goes_start states node old found active none = record {
  done = λ e below. absurd (omega (arith, below));
  to = λ e from within later. inr later;
  back = λ e from within ahead. elim ahead [ inl now ↦ absurd (let f = sym (none now.0) ∙ now.1 in cc) | inr later ↦ later ];
}

-- ---- the rows begin at a position

-- the active states, and the first ones where the rows begin
abbrev pub Begins : List State → Bool → (ℕ → Bool) → (ℕ → Bool) → Type 0
Begins states starts active begun = (p : ℕ) → begun p ≡ (active p || (starts && mark_at First states p))

begun_from : (states : List State) (starts : Bool) (active begun : ℕ → Bool) (bytes : List ℕ) → Begins states starts active begun
    → LeadOut begun states bytes → LeadOut active states bytes ⊎ ((starts ≡ true) × LeadOut (mark_at First states) states bytes)
begun_from states starts active begun bytes begins (p, held, leads) = elim (either_true (active p) (starts && mark_at First states p) (sym (begins p) ∙ held)) [
  | inl before ↦ inl (p, before, leads)
  | inr here ↦ let both = and_true starts (mark_at First states p) here in inr (both.0, (p, both.1, leads))
]

from_active : (states : List State) (starts : Bool) (active begun : ℕ → Bool) (bytes : List ℕ) → Begins states starts active begun → LeadOut active states bytes → LeadOut begun states bytes
from_active states starts active begun bytes begins (p, held, leads) = (p, begins p ∙ one_true (active p) (starts && mark_at First states p) (inl held), leads)

from_first : (states : List State) (active begun : ℕ → Bool) (starts : Bool) (bytes : List ℕ) → Begins states starts active begun → starts ≡ true → LeadOut (mark_at First states) states bytes → LeadOut begun states bytes
from_first states active begun starts bytes begins is (p, held, leads) =
    (p, begins p ∙ one_true (active p) (starts && mark_at First states p) (inr (both_true starts (mark_at First states p) is held)), leads)

-- the position is reached where an active state is the end of its row
abbrev pub Ends : List State → (ℕ → Bool) → Bool → Type 0
Ends states active found = Tells found ((p : ℕ) × (active p ≡ true) × (mark_at End states p ≡ true))

visited_to : (states : List State) (node : List ℕ) (old active begun : ℕ → Bool) (i e : ℕ) → Begins states (old i) active begun → Ahead states node old active i i e → Ahead states node old begun i (i + 1) e
visited_to states node old active begun i e begins (inl now) = inl (from_active states (old i) active begun (from_to node i e) begins now)
visited_to states node old active begun i e begins (inr (k, from, to, is, leads)) = elim (cases_eq k i) [
  | inl same ↦
      inl (from_first states active begun (old i) (from_to node i e) begins (sym (ap old same) ∙ is)
      (subst (λ (n : ℕ). LeadOut (mark_at First states) states (from_to node n e)) same leads))
  | inr other ↦ inr (k, omega (arith, from, other), to, is, leads)
]

visited_back : (states : List State) (node : List ℕ) (old active begun : ℕ → Bool) (i e : ℕ) → i ≤ e → Begins states (old i) active begun → Ahead states node old begun i (i + 1) e → Ahead states node old active i i e
visited_back states node old active begun i e within begins (inl now) = elim (begun_from states (old i) active begun (from_to node i e) begins now) [
  | inl before ↦ inl before
  | inr here ↦ inr (i, omega arith, within, here.0, here.1)
]
visited_back states node old active begun i e within begins (inr (k, from, to, is, leads)) = inr (k, omega (arith, from), to, is, leads)

-- what is reached where no byte is left
here_only : (states : List State) (node : List ℕ) (old begun : ℕ → Bool) (i : ℕ) → Ahead states node old begun i (i + 1) i → LeadOut begun states []
here_only states node old begun i (inl now) = subst (LeadOut begun states) (none_between node i) now
here_only states node old begun i (inr (k, from, to, is, leads)) = absurd (omega (arith, from, to))

pub visited : (states : List State) (node : List ℕ) (old found now active begun : ℕ → Bool) (i : ℕ) → i ≤ length node → Goes states node old found active i i → Begins states (old i) active begun
    → Ends states begun (now i) → ((j : ℕ) → (j ≡ i → ⊥) → now j ≡ found j) → Goes states node old now begun i (i + 1)
visited states node old found now active begun i within goes begins ends others = record {
  done = λ e below. elim (cases_eq e i) [
    | inl same ↦ (
      λ yes.
          let end = ends.0 (sym (ap now same) ∙ yes) in
          let out = subst (LeadOut begun states) (sym (none_between node i)) (end_at states begun end.0 end.1 end.2) in
          subst (Later states node old 0) (sym same) (goes.back i (omega arith) within (visited_back states node old active begun i i (omega arith) begins (inl out))),
      λ later.
          let out = here_only states node old begun i (visited_to states node old active begun i i begins (goes.to i (omega arith) within (subst (Later states node old 0) same later))) in
          ap now same ∙ ends.1 (at_end states begun out),
    )
    | inr other ↦
        let old_tells = goes.done e (omega (arith, below, other)) in
        (λ yes. old_tells.0 (sym (others e other) ∙ yes), λ later. others e other ∙ old_tells.1 later)
  ];
  to = λ e from fits later. visited_to states node old active begun i e begins (goes.to e from fits later);
  back = λ e from fits ahead. goes.back e from fits (visited_back states node old active begun i e from begins ahead);
}

-- ---- a byte more

moved_to : (states : List State) (node : List ℕ) (old begun after : ℕ → Bool) (i e : ℕ) → i + 1 ≤ e → i < length node → IsStep states (get_or node i 0) begun after
    → Ahead states node old begun i (i + 1) e → Ahead states node old after (i + 1) (i + 1) e
moved_to states node old begun after i e from within is (inl now) =
    inl (before_step states (get_or node i 0) begun after (from_to node (i + 1) e) is (subst (LeadOut begun states) (first_between node i e (omega (arith, from)) within) now))
moved_to states node old begun after i e from within is (inr later) = inr later

moved_back : (states : List State) (node : List ℕ) (old begun after : ℕ → Bool) (i e : ℕ) → i + 1 ≤ e → i < length node → IsStep states (get_or node i 0) begun after
    → Ahead states node old after (i + 1) (i + 1) e → Ahead states node old begun i (i + 1) e
moved_back states node old begun after i e from within is (inl now) =
    inl (subst (LeadOut begun states) (sym (first_between node i e (omega (arith, from)) within)) (after_step states (get_or node i 0) begun after (from_to node (i + 1) e) is now))
moved_back states node old begun after i e from within is (inr later) = inr later

pub goes_on : (states : List State) (node : List ℕ) (old found begun after : ℕ → Bool) (i : ℕ) → i < length node → Goes states node old found begun i (i + 1)
    → IsStep states (get_or node i 0) begun after → Goes states node old found after (i + 1) (i + 1)
goes_on states node old found begun after i within goes is = record {
  done = goes.done;
  to = λ e from fits later. moved_to states node old begun after i e from within is (goes.to e (omega (arith, from)) fits later);
  back = λ e from fits ahead. goes.back e (omega (arith, from)) fits (moved_back states node old begun after i e from within is ahead);
}

-- ---- all positions

to_later : (states : List State) (node : List ℕ) (old : ℕ → Bool) (e : ℕ) → e ≤ length node → Reached (LeadOut (mark_at First states) states) node old e → Later states node old 0 e
to_later states node old e within (k, bytes, fits, is, split, leads) =
    let size = lengths node bytes k e fits within split in
    let n : e - k ≡ length bytes = omega (arith, size) in
    let same : from_to node k e ≡ bytes = ap₂ (λ (n : ℕ) (l : List ℕ). take n l) n split ∙ take-append_seam bytes (drop e node) in
    (k, omega arith, omega (arith, size), is, subst (LeadOut (mark_at First states) states) (sym same) leads)

from_later : (states : List State) (node : List ℕ) (old : ℕ → Bool) (e : ℕ) → e ≤ length node → Later states node old 0 e → Reached (LeadOut (mark_at First states) states) node old e
from_later states node old e within (k, from, to, is, leads) =
    let onward : drop k node ≡ from_to node k e ++ drop e node =
    sym (take-append-drop (e - k) (drop k node)) ∙ ap (λ (l : List ℕ). from_to node k e ++ l) (drop-drop (e - k) k node ∙ ap (λ (n : ℕ). drop n node) (omega (arith, to))) in
    (k, from_to node k e, omega (arith, to, within), is, onward, leads)

pub all_reached : (states : List State) (node : List ℕ) (old found active : ℕ → Bool) (i : ℕ) → length node ≤ i → Goes states node old found active i (i + 1) → Leads (LeadOut (mark_at First states) states) node old found
all_reached states node old found active i last goes j within =
    let tells = goes.done j (omega (arith, last, within)) in
    (λ yes. from_later states node old j within (tells.0 yes), λ reached. tells.1 (to_later states node old j within reached))
