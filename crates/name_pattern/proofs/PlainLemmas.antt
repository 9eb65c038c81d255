-- The laws of patterns that ask for one text.
use Rattle.std.proofs.Common.{◌≡◌, ◌≢◌, ◌∙◌, ℕ, zero, suc, ◌+◌, ◌-◌, ◌≤◌, ◌<◌, max, Bool, true, false, not, List, [], ◌∷◌, ◌++◌, map, take, drop, length, get_or, Option, Some, None, is_some, All, IfOk, IfSome, Result, Ok, Err, if◌then◌else◌, refl, sym, ap, subst, inl, inr, arith, true≢false, slice_get}
use Rattle.std.proofs.lemmas.List.{take_rest}
use Rattle.std.proofs.lemmas.Option.{none-some, slice_get_past}
use Rattle.regex.specs.Patterns.{find_str}
use Rattle.regex_hir.specs.Find.{Match, first_between}
use Rattle.regex_hir.specs.Re.{Re, empty, literal, look, cat, alt, group, plus, accept, attempt, Trace}
use Rattle.regex_hir.specs.Meaning.{meaning, cat_all, copies, up_to, optional, repeat}
use Rattle.regex_hir.specs.Matches.{Matches}
use Rattle.regex_hir.specs.Looks.{holds, holds_between}
use Rattle.regex_hir.specs.Text.{byte_before, has_bytes_at, is_boundary}
use Rattle.regex_hir.specs.declared.hir.Hir.{Hir}
use Rattle.regex_hir.specs.declared.look.Look.TheVariants.{Start, End}
use Rattle.regex_hir.proofs.AttemptLemmas.{attempt_complete, attempt_none}
use Rattle.regex_hir.proofs.FindLemmas.{first_between_none, none_of_first_between}
use Rattle.regex_hir.proofs.MatchesLemmas.{Matches-IsSpan}
use Rattle.regex_hir.proofs.TextLemmas.{has_bytes_at_fits, has_bytes_at_from}
use Rattle.regex_extract.proofs.BoundsLemmas.{IsAnchored-Start, IsAnchored-End}
use Rattle.name_pattern.proofs.WalkLemmas.{masked_none, masked_some}
use Rattle.name_pattern.specs.declared.plain.Plain.{Plain}
use Rattle.name_pattern.specs.PlainTexts.{Asks, AsksFor, MatchesEmpty, Stands, StartsAs}

-- ---- parts that match the empty text

pub empty_empty : MatchesEmpty empty
empty_empty = record { at = λ hay i. refl }

pub empty_group : (n : ℕ) (a : Re) → MatchesEmpty a → MatchesEmpty (group n a)
empty_group n a e = record { at = e.at }

pub empty_cat : (a b : Re) → MatchesEmpty a → MatchesEmpty b → MatchesEmpty (cat a b)
empty_cat a b e f = record { at = λ hay i. (i, e.at hay i, f.at hay i) }

empty_optional : (greedy : Bool) (a : Re) → MatchesEmpty (optional greedy a)
empty_optional true a = record { at = λ hay i. inr refl }
empty_optional false a = record { at = λ hay i. inl refl }

empty_up_to : (greedy : Bool) (n : ℕ) (a : Re) → MatchesEmpty (up_to greedy n a)
empty_up_to greedy zero a = empty_empty
empty_up_to greedy (suc n) a = empty_optional greedy (cat a (up_to greedy n a))

pub empty_repeat : (most : Option ℕ) (greedy : Bool) (a : Re) → MatchesEmpty (repeat 0 most greedy a)
unfolding repeat
empty_repeat None greedy a = empty_optional greedy (plus greedy a)
empty_repeat (Some most) greedy a = empty_up_to greedy (most - 0) a

pub empty_all : (hs : List Hir) → All (λ h. MatchesEmpty (meaning h)) hs → MatchesEmpty (cat_all (map meaning hs))
empty_all [] all = empty_empty
empty_all (h ∷ hs) all = empty_cat (meaning h) (cat_all (map meaning hs)) (all 0 h (omega arith)) (empty_all hs (λ k d lt. all (suc k) d (omega (arith, lt))))

-- ---- where matches start

no_bytes : (hay : List ℕ) (i : ℕ) → has_bytes_at hay i [] ≡ true
no_bytes hay i = has_bytes_at_from hay i [] (drop i hay) refl

pub starts_empty : (re : Re) → MatchesEmpty re → StartsAs re [] false false
starts_empty re e = record {
  stands = λ hay i j le m. record { within = le; bytes = no_bytes hay i; start = λ never. absurd (true≢false (sym never)); end = λ never. absurd (true≢false (sym never)) };
  starts = λ hay i s. (i, e.at hay i);
}

end_holds : (hay : List ℕ) (i : ℕ) → length hay ≤ i → holds End hay i ≡ true
unfolding holds holds_between
end_holds hay i le = rw (slice_get_past hay i le) refl

start_holds : (hay : List ℕ) → holds Start hay 0 ≡ true
unfolding holds holds_between byte_before
start_holds hay = refl

pub starts_end : StartsAs (cat_all (look End ∷ [])) [] false true
starts_end = record {
  stands = λ hay i j le m.
      let at = (IsAnchored-End false refl).at hay i i le (m.1.0, refl) in
      record { within = le; bytes = no_bytes hay i; start = λ never. absurd (true≢false (sym never)); end = λ _. omega (arith, at) };
  starts = λ hay i s. (i, (i, (end_holds hay i (omega (arith, s.end refl)), refl), refl));
}

pub starts_literal : (bs : List ℕ) (re : Re) (at_end : Bool) → StartsAs re [] false at_end → StartsAs (cat (literal bs) re) bs false at_end
starts_literal bs re at_end h = record {
  stands = λ hay i j le m.
      let fits = has_bytes_at_fits hay i bs m.1.0 in
      record {
        within = le;
        bytes = m.1.0;
        start = λ never. absurd (true≢false (sym never));
        end = λ yes_is. omega (arith, (h.stands hay m.0 j (omega (arith, m.1.1)) m.2).end yes_is, m.1.1);
      };
  starts = λ hay i s.
      let fits = has_bytes_at_fits hay i bs s.bytes in
      let behind : Stands [] false at_end hay (i + length bs) = record {
        within = omega (arith, s.within);
        bytes = no_bytes hay (i + length bs);
        start = λ never. absurd (true≢false (sym never));
        end = λ yes_is. omega (arith, s.end yes_is);
      } in
      let rest = h.starts hay (i + length bs) behind in
      (rest.0, (i + length bs, (s.bytes, refl), rest.1));
}

-- ---- what is asked for

pub asks_here : (re : Re) (text : List ℕ) (at_end : Bool) → StartsAs re text false at_end → AsksFor re text false at_end
asks_here re text at_end h = record { stands = λ hay i j le m. (i, h.stands hay i j le m); starts = h.starts }

pub asks_behind : (a re : Re) (text : List ℕ) (at_end : Bool) → MatchesEmpty a → StartsAs re text false at_end → AsksFor (cat a re) text false at_end
asks_behind a re text at_end e h = record {
  stands = λ hay i j le m.
      let span = Matches-IsSpan hay a i m.0 m.1 in
      (m.0, h.stands hay m.0 j (omega arith) m.2);
  starts = λ hay i s. let rest = h.starts hay i s in (rest.0, (i, e.at hay i, rest.1));
}

pub asks_start : (re : Re) (text : List ℕ) (at_end : Bool) → StartsAs re text false at_end → AsksFor (cat (look Start) re) text true at_end
asks_start re text at_end h = record {
  stands = λ hay i j le m.
      let first = (IsAnchored-Start true refl).at hay i i le (m.1.0, refl) in
      let rest = h.stands hay m.0 j (omega (arith, m.1.1)) m.2 in
      (m.0, record { within = rest.within; bytes = rest.bytes; start = λ _. omega (arith, first, m.1.1); end = rest.end });
  starts = λ hay i s.
      let first : i ≡ 0 = s.start refl in
      let rest = h.starts hay i (record { within = s.within; bytes = s.bytes; start = λ never. absurd (true≢false (sym never)); end = s.end }) in
      (rest.0, (i, (ap (holds Start hay) first ∙ start_holds hay, refl), rest.1));
}

pub asks_alone : (re : Re) (text : List ℕ) (at_start at_end : Bool) → AsksFor (cat re empty) text at_start at_end → AsksFor re text at_start at_end
asks_alone re text at_start at_end h = record {
  stands = λ hay i j le m. h.stands hay i j le (j, m, refl);
  starts = λ hay i s. let found = h.starts hay i s in (found.1.0, found.1.1);
}

-- ---- parts one after another

parts_front : (hs : List Hir) (h : Hir) → 1 ≤ length hs → h ≡ get_or hs 0 h → hs ≡ h ∷ take (length hs - 1) (drop 1 hs)
parts_front [] h some is = absurd (omega arith)
parts_front (x ∷ hs) h some is = ap (λ y. y ∷ hs) (sym is) ∙ ap (λ l. h ∷ l) (sym (take_rest (x ∷ hs) 1))

parts_alone : (hs : List Hir) (h : Hir) → length hs ≡ 1 → h ≡ get_or hs 0 h → hs ≡ h ∷ []
parts_alone [] h one is = absurd (omega arith)
parts_alone (x ∷ []) h one is = ap (λ y. y ∷ []) (sym is)
parts_alone (x ∷ y ∷ hs) h one is = absurd (omega (arith, one))

pub starts_alone : (hs : List Hir) (h : Hir) → length hs ≡ 1 → h ≡ get_or hs 0 h → meaning h ≡ look End → StartsAs (cat_all (map meaning hs)) [] false true
starts_alone hs h one is end =
    subst (λ l. StartsAs (cat_all (map meaning l)) [] false true) (sym (parts_alone hs h one is)) (rw end starts_end)

pub asks_first : (hs : List Hir) (h : Hir) (p : Plain) → 1 ≤ length hs → h ≡ get_or hs 0 h → meaning h ≡ look Start → p.at_start ≡ true
    → StartsAs (cat_all (map meaning (take (length hs - 1) (drop 1 hs)))) p.text.items false p.at_end → Asks (cat_all (map meaning hs)) p
asks_first hs h p some is start first rest =
    subst (λ l. Asks (cat_all (map meaning l)) p) (sym (parts_front hs h some is)) (rw (start, first) (asks_start _ p.text.items p.at_end rest))

pub asks_past : (hs : List Hir) (h : Hir) (p : Plain) → 1 ≤ length hs → h ≡ get_or hs 0 h → MatchesEmpty (meaning h) → p.at_start ≡ false
    → StartsAs (cat_all (map meaning (take (length hs - 1) (drop 1 hs)))) p.text.items false p.at_end → Asks (cat_all (map meaning hs)) p
asks_past hs h p some is empties first rest =
    subst (λ l. Asks (cat_all (map meaning l)) p) (sym (parts_front hs h some is)) (rw first (asks_behind (meaning h) _ p.text.items p.at_end empties rest))

pub told_more : {E : Type 0} {P Q : Plain → Type 0} (r : Result (Option Plain) E) → ((p : Plain) → P p → Q p) → IfOk r (λ o. IfSome o P) → IfOk r (λ o. IfSome o Q)
told_more (Ok None) f h = h
told_more (Ok (Some p)) f h = f p h
told_more (Err e) f h = h

-- ---- what is found

pub text_misses : (re : Re) (text : List ℕ) (at_start at_end : Bool) (hay : List ℕ) → AsksFor re text at_start at_end
    → ((i : ℕ) → ¬ Stands text at_start at_end hay i) → false ≡ is_some (find_str re hay 0)
unfolding find_str
text_misses re text at_start at_end hay asks none =
    sym (ap is_some (first_between_none (λ i. if is_boundary hay i then attempt hay re accept i else None) 0 (length hay)
    (λ i p q. masked_none (is_boundary hay i) (attempt hay re accept i)
    (attempt_none hay re accept i (λ j m. let at = asks.stands hay i j q m in absurd (none at.0 at.1))))))

found_or_not : (o : Option Match) → (o ≡ None → ⊥) → true ≡ is_some o
found_or_not None never = absurd (never refl)
found_or_not (Some m) never = refl

pub text_finds : (re : Re) (text : List ℕ) (at_start at_end : Bool) (hay : List ℕ) (i : ℕ) → AsksFor re text at_start at_end
    → Stands text at_start at_end hay i → is_boundary hay i ≡ true → true ≡ is_some (find_str re hay 0)
unfolding find_str
text_finds re text at_start at_end hay i asks s cut =
    let found = asks.starts hay i s in
    let some : is_some (attempt hay re accept i) ≡ true = attempt_complete hay re accept i found.0 found.1 refl in
    found_or_not _ (λ none.
    let gone = none_of_first_between (λ i. if is_boundary hay i then attempt hay re accept i else None) 0 (length hay) none i (omega arith) s.within in
    true≢false (sym some ∙ ap is_some (sym (masked_some (is_boundary hay i) (attempt hay re accept i) cut) ∙ gone)))

-- ---- where a text can stand

pub too_long : (text : List ℕ) (at_start at_end : Bool) (hay : List ℕ) → length hay < length text → (i : ℕ) → ¬ Stands text at_start at_end hay i
too_long text at_start at_end hay longer i s = absurd (omega (arith, has_bytes_at_fits hay i text s.bytes, s.within))

pub starts_bare : (re : Re) (text : List ℕ) (at_start at_end : Bool) → StartsAs (cat (literal []) re) text at_start at_end → StartsAs re text at_start at_end
starts_bare re text at_start at_end h = record {
  stands = λ hay i j le m. h.stands hay i j le (i, (no_bytes hay i, omega arith), m);
  starts = λ hay i s.
      let found = h.starts hay i s in
      let same : found.1.0 ≡ i = omega (arith, found.1.1.1) in
      (found.0, subst (λ l. Matches hay re l found.0) same found.1.2);
}
