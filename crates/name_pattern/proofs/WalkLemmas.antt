-- What a walk over the states of a pattern tells of its matches.
use Rattle.std.proofs.Common.{◌≡◌, ◌∙◌, ℕ, Bool, true, false, List, length, Option, Some, None, is_some, option_map, if◌then◌else◌, refl, sym, ap, subst}
use Rattle.std.proofs.lemmas.Option.{none-some, same_Some}
use Rattle.regex.specs.Patterns.{find_str}
use Rattle.regex_hir.specs.Find.{Match, first_between}
use Rattle.regex_hir.specs.Re.{Re, Trace, accept, attempt}
use Rattle.regex_hir.specs.Text.{is_boundary}
use Rattle.regex_hir.proofs.FindLemmas.{IsFirst-of_first_between, first_between_cong, first_between_none, first_between_of_IsFirst, none_of_first_between}
use Rattle.regex_nfa.specs.Run.{run}
use Rattle.regex_nfa.specs.declared.nfa.Nfa.{Nfa}
use Rattle.regex_compile.specs.Implements.{Implements}
use Rattle.regex_vm.specs.Found.{first_match, span}

pub masked_none : (b : Bool) (o : Option Trace) → o ≡ None → (if b then o else None) ≡ None
masked_none true o none = none
masked_none false o none = refl

pub masked_some : (b : Bool) (o : Option Trace) → b ≡ true → (if b then o else None) ≡ o
masked_some b o is = rw is refl

-- the states find what the pattern finds in bytes
same_first : (nfa : Nfa) (re : Re) (hay : List ℕ) → Implements nfa re → first_match nfa hay (length hay) 0 (length hay) ≡ first_between (attempt hay re accept) 0 (length hay)
same_first nfa re hay implements = first_between_cong (run nfa hay (length hay) nfa.start) (attempt hay re accept) 0 (length hay) (λ i _ _. implements hay i)

-- where bytes have no match, text has none
not_found : (nfa : Nfa) (re : Re) (hay : List ℕ) → Implements nfa re → first_match nfa hay (length hay) 0 (length hay) ≡ None → find_str re hay 0 ≡ None
unfolding find_str
not_found nfa re hay implements none =
    let gone : first_between (attempt hay re accept) 0 (length hay) ≡ None = sym (same_first nfa re hay implements) ∙ none in
    first_between_none (λ i. if is_boundary hay i then attempt hay re accept i else None) 0 (length hay)
    (λ i p q. masked_none (is_boundary hay i) (attempt hay re accept i) (none_of_first_between (attempt hay re accept) 0 (length hay) gone i p q))

-- the first match in bytes is that in text, where a character starts with it
found : (nfa : Nfa) (re : Re) (hay : List ℕ) (m : Match) → Implements nfa re → first_match nfa hay (length hay) 0 (length hay) ≡ Some m → is_boundary hay m.start ≡ true
    → find_str re hay 0 ≡ Some m
unfolding find_str
found nfa re hay m implements is cut =
    let first = IsFirst-of_first_between (attempt hay re accept) 0 (length hay) m (sym (same_first nfa re hay implements) ∙ is) in
    first_between_of_IsFirst (λ i. if is_boundary hay i then attempt hay re accept i else None) 0 (length hay) m (record {
      from = first.from;
      to = first.to;
      here = masked_some (is_boundary hay m.start) (attempt hay re accept m.start) cut ∙ first.here;
      before = λ i p q. masked_none (is_boundary hay i) (attempt hay re accept i) (first.before i p q);
    })

pub walk_misses : (nfa : Nfa) (re : Re) (hay : List ℕ) → Implements nfa re → None ≡ option_map span (first_match nfa hay (length hay) 0 (length hay)) → false ≡ is_some (find_str re hay 0)
walk_misses nfa re hay implements is = by (first_match nfa hay (length hay) 0 (length hay)) refl is
  where
    by : (o : Option Match) → first_match nfa hay (length hay) 0 (length hay) ≡ o → None ≡ option_map span o → false ≡ is_some (find_str re hay 0)
    by None e none = sym (ap is_some (not_found nfa re hay implements e))
    by (Some m) e none = absurd (none-some (span m) none)

pub walk_finds : (nfa : Nfa) (re : Re) (hay : List ℕ) (s : ℕ × ℕ) → Implements nfa re → Some s ≡ option_map span (first_match nfa hay (length hay) 0 (length hay)) → is_boundary hay s.0 ≡ true
    → true ≡ is_some (find_str re hay 0)
walk_finds nfa re hay s implements is cut = by (first_match nfa hay (length hay) 0 (length hay)) refl is
  where
    by : (o : Option Match) → first_match nfa hay (length hay) 0 (length hay) ≡ o → Some s ≡ option_map span o → true ≡ is_some (find_str re hay 0)
    by None e some = absurd (none-some s (sym some))
    by (Some m) e some = sym (ap is_some (found nfa re hay m implements e (subst (λ (p : ℕ × ℕ). is_boundary hay p.0 ≡ true) (same_Some s (span m) some) cut)))
