-- The entries of a call, as those of one call after the other.
use Rattle.std.proofs.Common.{◌≡◌, ℕ, ◌==◌, Bool, true, false, List, [], ◌∷◌, ◌++◌, refl, sym, ap, ◌∙◌, subst}
use Rattle.std.specs.Prelude.{filter}
use Rattle.std.proofs.lemmas.List.{append_assoc, append_cancel_left}
use Rattle.std.proofs.lemmas.List.Elements.{filter-append}
use Rattle.carbon_history.specs.declared.entry.Entry.{Entry}
use Rattle.carbon_history.specs.Entries.{NamesPasses, of_pass, pass_of}
use Rattle.carbon_model.specs.State.{State}
use Rattle.carbon_model.specs.Replay.{IsLegalHistory, after}
use Rattle.shared_history.specs.Parts.{PassValue, own_entries}
use Rattle.shared_store.specs.Passes.{Enters}

-- ---- lists

-- a list, of which the first part keeps the one, and the rest the other
record Parts {X : Type 0} (p : X → Bool) (xs first second : List X) : Type 0 where
  front : List X
  rest : List X
  split : xs ≡ front ++ rest
  keeps : filter p front ≡ first
  others : filter p rest ≡ second

kept_hit : {X : Type 0} (p : X → Bool) (x : X) (xs : List X) → p x ≡ true → filter p (x ∷ xs) ≡ x ∷ filter p xs
kept_hit p x xs hit = rw hit refl

kept_miss : {X : Type 0} (p : X → Bool) (x : X) (xs : List X) → p x ≡ false → filter p (x ∷ xs) ≡ filter p xs
kept_miss p x xs miss = rw miss refl

parts_hit : {X : Type 0} (p : X → Bool) (x y : X) (xs first second : List X) → p x ≡ true → x ≡ y → Parts p xs first second → Parts p (x ∷ xs) (y ∷ first) second
parts_hit {X} p x y xs first second hit same more = record {
  front = x ∷ more.front;
  rest = more.rest;
  split = ap (λ (l : List X). x ∷ l) more.split;
  keeps = kept_hit p x more.front hit ∙ (ap (λ (l : List X). x ∷ l) more.keeps ∙ ap (λ (z : X). z ∷ first) same);
  others = more.others;
}

parts_miss : {X : Type 0} (p : X → Bool) (x : X) (xs first second : List X) → p x ≡ false → Parts p xs first second → Parts p (x ∷ xs) first second
parts_miss {X} p x xs first second miss more = record {
  front = x ∷ more.front;
  rest = more.rest;
  split = ap (λ (l : List X). x ∷ l) more.split;
  keeps = kept_miss p x more.front miss ∙ more.keeps;
  others = more.others;
}

parts_of : {X : Type 0} (p : X → Bool) (xs first second : List X) → filter p xs ≡ first ++ second → Parts p xs first second
parts_of p xs [] second is = record { front = []; rest = xs; split = refl; keeps = refl; others = is }
parts_of p [] (y ∷ first) second is = absurd (cc is)
parts_of {X} p (x ∷ xs) (y ∷ first) second is = by (p x) refl (λ fs e. parts_of p xs fs second e)
  where
    both : p x ≡ true → x ∷ filter p xs ≡ y ∷ (first ++ second)
    both hit = sym (kept_hit p x xs hit) ∙ is

    by : (b : Bool) → p x ≡ b → ((fs : List X) → filter p xs ≡ fs ++ second → Parts p xs fs second) → Parts p (x ∷ xs) (y ∷ first) second
    by true hit more = parts_hit p x y xs first second hit (cc (both hit)) (more first (cc (both hit)))
    by false miss more = parts_miss p x xs (y ∷ first) second miss (more (y ∷ first) (sym (kept_miss p x xs miss) ∙ is))

-- ---- histories

legal_front : (s : State) (xs ys : List Entry) → IsLegalHistory s (xs ++ ys) → IsLegalHistory s xs
legal_front s [] ys legal = tt
legal_front s (entry ∷ xs) ys legal = (legal.0, legal_front (after s entry) xs ys legal.1)

none_front : {X : Type 0} (xs ys : List X) → xs ++ ys ≡ [] → xs ≡ []
none_front [] ys none = refl
none_front (x ∷ xs) ys none = absurd (cc none)

names_front : (passes : ℕ) (xs ys : List Entry) → NamesPasses passes (xs ++ ys) → NamesPasses passes xs
names_front passes xs ys names = record {
  none_else = λ pass beyond. none_front (of_pass pass xs) (of_pass pass ys) (sym (filter-append (λ (e : Entry). pass_of e == pass) xs ys) ∙ names.none_else pass beyond);
}

-- ---- calls

-- where a pass stood between the first entries and the others
pub record Between (start : State) (passes : ℕ) (first second : List Entry) (old new : PassValue) : Type 0 where
  pub mid : PassValue
  pub begins : Enters start passes first old mid
  pub goes_on : Enters start passes second mid new

pub split_enters : (start : State) (passes : ℕ) (first second : List Entry) (old new : PassValue) → Enters start passes (first ++ second) old new
    → Between start passes first second old new
split_enters start passes first second old new enters =
    let rest : List Entry = enters.begins.0 in
    let p : Entry → Bool = λ e. pass_of e == old.number in
    let seen : old.seen ++ rest ≡ new.seen = enters.begins.1 in
    let own : own_entries new ≡ own_entries old ++ filter p rest =
    ap (λ (n : ℕ). of_pass n new.seen) enters.number ∙ (ap (λ (l : List Entry). of_pass old.number l) (sym seen) ∙ filter-append p old.seen rest) in
    let made : filter p rest ≡ first ++ second = append_cancel_left (own_entries old) (filter p rest) (first ++ second) (sym own ∙ enters.once) in
    let parts = parts_of p rest first second made in
    let all : (old.seen ++ parts.front) ++ parts.rest ≡ new.seen =
    append_assoc old.seen parts.front parts.rest ∙ (ap (λ (l : List Entry). old.seen ++ l) (sym parts.split) ∙ seen) in
    let once : of_pass old.number (old.seen ++ parts.front) ≡ own_entries old ++ first =
    filter-append p old.seen parts.front ∙ ap (λ (l : List Entry). own_entries old ++ l) parts.keeps in record {
      mid = record old { seen = old.seen ++ parts.front };
      begins = record {
        table = refl;
        number = refl;
        begins = (parts.front, refl);
        legal = legal_front start (old.seen ++ parts.front) parts.rest (subst (IsLegalHistory start) (sym all) enters.legal);
        made = names_front passes (old.seen ++ parts.front) parts.rest (subst (NamesPasses passes) (sym all) enters.made);
        once = once;
      };
      goes_on = record {
        table = enters.table;
        number = enters.number;
        begins = (parts.rest, all);
        legal = enters.legal;
        made = enters.made;
        once = enters.once ∙ (sym (append_assoc (own_entries old) first second) ∙ ap (λ (l : List Entry). l ++ second) (sym once));
      };
    }
