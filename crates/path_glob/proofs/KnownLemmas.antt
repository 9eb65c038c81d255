-- Sets of active states that are known.
use Rattle.std.proofs.Common.{◌≡◌, ℕ, ◌+◌, ◌<◌, ◌≤◌, Bool, inl, inr, List, [], ◌∷◌, ◌++◌, length, length-append, get_or, replicate, set, refl, sym, ap, ◌∙◌, subst, arith}
use Rattle.std.proofs.Math.Seq.{get_or-append_seam}
use Rattle.std.proofs.lemmas.Bool.{cases_eq}
use Rattle.std.proofs.lemmas.List.{get_or-set_other, get_or-set_same, get_or_append_left, length-replicate, length-set}
use Rattle.path_glob.specs.Bits.{Meet}
use Rattle.path_glob.specs.Known.{AreKnown, Begins, IsKnown, KeepsSets, LeadsTo, StandAt, is_end_at, no_set, states_at}
use Rattle.path_glob.specs.Positions.{bit_of}
use Rattle.path_glob.specs.Tables.{AreSized, AreTables, IsLed}
use Rattle.path_glob.specs.declared.known_sets.KnownSet.{KnownSet}
use Rattle.path_glob.specs.declared.states.State.{State}
use Rattle.path_glob.specs.declared.tables.Tables.{Tables}
use Rattle.path_glob.proofs.BitLemmas.{none_held}
use Rattle.path_glob.proofs.CoverLemmas.{Tells}
use Rattle.path_glob.proofs.PlaceLemmas.{filled}
use Rattle.path_glob.proofs.RunLemmas.{Goes}
use Rattle.path_glob.proofs.TableLemmas.{step_on, visit_is}

-- ---- kept

pub keeps_itself : (sets : List KnownSet) → KeepsSets sets sets
keeps_itself sets = record { longer = omega arith; same = λ place within. refl }

leads_still : (tables : Tables) (old new : List KnownSet) (way : ℕ) (from : List ℕ) (place : ℕ) → KeepsSets old new → LeadsTo tables old way from place → LeadsTo tables new way from place
leads_still tables old new way from place keeps leads = record {
  within = omega (arith, keeps.longer, leads.within);
  led = subst (IsLed tables way from) (sym (keeps.same place leads.within)) leads.led;
}

known_still : (tables : Tables) (old new : List KnownSet) (one : KnownSet) → KeepsSets old new → IsKnown tables old one → IsKnown tables new one
known_still tables old new one keeps known = record {
  room = known.room;
  size = known.size;
  end = known.end;
  next = λ way small some. leads_still tables old new way one.states (get_or one.next way 0) keeps (known.next way small some);
}

-- ---- one more

-- a set of which no way is known
pub record IsNew (tables : Tables) (states : List ℕ) (one : KnownSet) : Type 0 where
  pub states_are : one.states ≡ states
  pub end : Tells one.is_end (Meet states tables.ends)
  pub next : one.next ≡ replicate 257 0

new_known : (tables : Tables) (sets : List KnownSet) (states : List ℕ) (one : KnownSet) → length states ≡ length tables.firsts → IsNew tables states one → IsKnown tables sets one
new_known tables sets states one room new = record {
  room = ap length new.states_are ∙ room;
  size = ap length new.next ∙ length-replicate {A = ℕ} 257 0;
  end = subst (λ (l : List ℕ). Tells one.is_end (Meet l tables.ends)) (sym new.states_are) new.end;
  next = λ way small some. absurd (omega (arith, some, ap (λ (l : List ℕ). get_or l way 0) new.next ∙ filled {A = ℕ} 257 0 0 way small));
}

keeps_with : (sets : List KnownSet) (one : KnownSet) → KeepsSets sets (sets ++ one ∷ [])
keeps_with sets one = record {
  longer = omega (arith, length-append sets (one ∷ []));
  same = λ place within. ap (λ (s : KnownSet). s.states) (get_or_append_left sets (one ∷ []) no_set place within);
}

pub first_known : (tables : Tables) (states : List ℕ) (n : ℕ) (one : KnownSet) → AreSized tables (length tables.firsts) → n ≡ length tables.firsts → states ≡ replicate n 0
    → IsNew tables states one → AreKnown tables (one ∷ [])
first_known tables states n one sized room none new = record {
  sized = sized;
  some = omega arith;
  none = λ p. ap (λ (l : List ℕ). bit_of l p) (new.states_are ∙ none) ∙ none_held n p;
  each = λ place within.
      subst (λ (k : ℕ). IsKnown tables (one ∷ []) (get_or (one ∷ []) k no_set)) (let is : 0 ≡ place = omega (arith, within) in is)
      (new_known tables (one ∷ []) states one (ap length none ∙ length-replicate {A = ℕ} n 0 ∙ room) new);
}

-- sets, one of which stands behind the others
pub record IsAdded (tables : Tables) (old new : List KnownSet) (states : List ℕ) : Type 0 where
  pub known : AreKnown tables new
  pub kept : KeepsSets old new
  pub stands : StandAt new states (length old)

pub added : (tables : Tables) (sets : List KnownSet) (states : List ℕ) (one : KnownSet) → AreKnown tables sets → length states ≡ length tables.firsts → IsNew tables states one
    → IsAdded tables sets (sets ++ one ∷ []) states
added tables sets states one known room new =
    let all = sets ++ one ∷ [] in
    let kept = keeps_with sets one in
    let size : length all ≡ length sets + 1 = length-append sets (one ∷ []) in
    let last : get_or all (length sets) no_set ≡ one = get_or-append_seam sets one [] no_set in
    record {
      known = record {
        sized = known.sized;
        some = omega (arith, size);
        none = λ p. ap (λ (l : List ℕ). bit_of l p) (kept.same 0 known.some) ∙ known.none p;
        each = λ place within. elim (cases_eq place (length sets)) [
          | inl same ↦
              subst (λ (k : ℕ). IsKnown tables all (get_or all k no_set)) (sym same)
              (subst (IsKnown tables all) (sym last) (new_known tables all states one room new))
          | inr other ↦
              let before : place < length sets = omega (arith, within, size, other) in
              subst (IsKnown tables all) (sym (get_or_append_left sets (one ∷ []) no_set place before))
              (known_still tables sets all (get_or sets place no_set) kept (known.each place before))
        ];
      };
      kept = kept;
      stands = record { within = omega (arith, size); same = ap (λ (s : KnownSet). s.states) last ∙ new.states_are };
    }

-- ---- a way learned

-- a set as before, of which a way leads to this place as well
pub record IsTaught (old new : KnownSet) (way place : ℕ) : Type 0 where
  pub states : new.states ≡ old.states
  pub end : new.is_end ≡ old.is_end
  pub next : new.next ≡ set old.next way place

keeps_taught : (sets : List KnownSet) (at : ℕ) (one : KnownSet) → at < length sets → one.states ≡ states_at sets at → KeepsSets sets (set sets at one)
keeps_taught sets at one within is = record {
  longer = omega (arith, length-set sets at one);
  same = λ place near. elim (cases_eq place at) [
    | inl same ↦
        subst (λ (k : ℕ). states_at (set sets at one) k ≡ states_at sets k) (sym same)
        (ap (λ (s : KnownSet). s.states) (get_or-set_same sets at one no_set within) ∙ is)
    | inr other ↦ ap (λ (s : KnownSet). s.states) (get_or-set_other sets at place one no_set other)
  ];
}

taught_known : (tables : Tables) (sets : List KnownSet) (old new : KnownSet) (way place : ℕ) → way < 257 → IsKnown tables sets old → IsTaught old new way place
    → LeadsTo tables sets way old.states place → IsKnown tables sets new
taught_known tables sets old new way place small known taught leads = record {
  room = ap length taught.states ∙ known.room;
  size = ap length taught.next ∙ length-set old.next way place ∙ known.size;
  end = (
    λ yes. subst (λ (l : List ℕ). Meet l tables.ends) (sym taught.states) (known.end.0 (sym taught.end ∙ yes)),
    λ met. taught.end ∙ known.end.1 (subst (λ (l : List ℕ). Meet l tables.ends) taught.states met),
  );
  next = λ other near some.
      let is : get_or new.next other 0 ≡ get_or (set old.next way place) other 0 = ap (λ (l : List ℕ). get_or l other 0) taught.next in
      subst (λ (l : List ℕ). LeadsTo tables sets other l (get_or new.next other 0)) (sym taught.states)
      (elim (cases_eq other way) [
        | inl same ↦
            let here : get_or new.next other 0 ≡ place =
            is ∙ ap (λ (k : ℕ). get_or (set old.next way place) k 0) same ∙ get_or-set_same old.next way place 0 (omega (arith, small, known.size)) in
            subst (λ (n : ℕ). LeadsTo tables sets other old.states n) (sym here) (subst (λ (w : ℕ). LeadsTo tables sets w old.states place) (sym same) leads)
        | inr apart ↦
            let there : get_or new.next other 0 ≡ get_or old.next other 0 = is ∙ get_or-set_other old.next way other place 0 apart in
            subst (λ (n : ℕ). LeadsTo tables sets other old.states n) (sym there) (known.next other near (omega (arith, some, there)))
      ]);
}

pub taught : (tables : Tables) (sets : List KnownSet) (at way place : ℕ) (one : KnownSet) → AreKnown tables sets → at < length sets → way < 257 → IsTaught (get_or sets at no_set) one way place
    → LeadsTo tables sets way (states_at sets at) place → AreKnown tables (set sets at one)
taught tables sets at way place one known within small is leads =
    let all = set sets at one in
    let kept = keeps_taught sets at one within is.states in
    let size : length all ≡ length sets = length-set sets at one in
    record {
      sized = known.sized;
      some = omega (arith, size, known.some);
      none = λ p. ap (λ (l : List ℕ). bit_of l p) (kept.same 0 known.some) ∙ known.none p;
      each = λ k near.
          let before : k < length sets = omega (arith, near, size) in
          elim (cases_eq k at) [
            | inl same ↦
                subst (λ (n : ℕ). IsKnown tables all (get_or all n no_set)) (sym same)
                (subst (IsKnown tables all) (sym (get_or-set_same sets at one no_set within))
                (known_still tables sets all one kept (taught_known tables sets (get_or sets at no_set) one way place small (known.each at within) is leads)))
            | inr other ↦
                subst (IsKnown tables all) (sym (get_or-set_other sets at k one no_set other)) (known_still tables sets all (get_or sets k no_set) kept (known.each k before))
          ];
    }

-- a way was learned: it leads to this place
pub record IsLearned (tables : Tables) (old new : List KnownSet) (at way place : ℕ) : Type 0 where
  pub known : AreKnown tables new
  pub led : LeadsTo tables new way (states_at old at) place

pub learned : (tables : Tables) (old sets : List KnownSet) (states : List ℕ) (at way place : ℕ) (one : KnownSet) → at < length old → way < 257 → IsLed tables way (states_at old at) states
    → AreKnown tables sets → KeepsSets old sets → StandAt sets states place → IsTaught (get_or sets at no_set) one way place → IsLearned tables old (set sets at one) at way place
learned tables old sets states at way place one within small led known kept stands is =
    let near : at < length sets = omega (arith, within, kept.longer) in
    let here : LeadsTo tables sets way (states_at old at) place =
    record { within = stands.within; led = subst (IsLed tables way (states_at old at)) (sym stands.same) led } in
    record {
      known = taught tables sets at way place one known near small is (subst (λ (l : List ℕ). LeadsTo tables sets way l place) (sym (kept.same at within)) here);
      led = leads_still tables sets (set sets at one) way (states_at old at) place (keeps_taught sets at one near is.states) here;
    }

-- ---- gone over a node

meets_at : (tables : Tables) (sets : List KnownSet) (at : ℕ) (found : Bool) → AreKnown tables sets → at < length sets → found ≡ is_end_at sets at → Tells found (Meet (states_at sets at) tables.ends)
meets_at tables sets at found known within is = (λ yes. (known.each at within).end.0 (sym is ∙ yes), λ met. is ∙ (known.each at within).end.1 met)

-- a position is visited
pub visit_set : (states : List State) (tables : Tables) (node : List ℕ) (old found now : ℕ → Bool) (active : List ℕ) (sets : List KnownSet) (at i : ℕ) → AreTables states tables → i ≤ length node
    → AreKnown tables sets → Goes states node old found (bit_of active) i i → Begins tables (old i) active sets at
    → now i ≡ is_end_at sets at → ((j : ℕ) → (j ≡ i → ⊥) → now j ≡ found j)
    → Goes states node old now (bit_of (states_at sets at)) i (i + 1)
visit_set states tables node old found now active sets at i are within known goes begins ended others =
    visit_is states tables node old found now active (states_at sets at) i are within goes begins.begun (meets_at tables sets at (now i) known begins.within ended) others

-- and then a byte is gone over
pub lead_set : (states : List State) (tables : Tables) (node : List ℕ) (old found : ℕ → Bool) (sets more : List KnownSet) (at next way i : ℕ) → AreTables states tables → AreKnown tables sets → at < length sets
    → i < length node → get_or node i 0 < 256 → way ≡ get_or node i 0
    → Goes states node old found (bit_of (states_at sets at)) i (i + 1) → LeadsTo tables more way (states_at sets at) next
    → Goes states node old found (bit_of (states_at more next)) (i + 1) (i + 1)
lead_set states tables node old found sets more at next way i are known at_within within small is goes leads =
    let begun = states_at sets at in
    let b = get_or node i 0 in
    let fit : AreSized tables (length begun) = subst (AreSized tables) (sym (known.each at at_within).room) known.sized in
    let led : IsLed tables b begun (states_at more next) = subst (λ (w : ℕ). IsLed tables w begun (states_at more next)) is leads.led in
    step_on states tables node old found (get_or tables.over.items b []) begun (states_at more next) i are fit within small refl goes (led.over small)
