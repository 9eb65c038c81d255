-- What a pass sees that is the only one of its store.
use Rattle.std.proofs.Common.{◌≡◌, ◌≢◌, ◌==◌, ◌∙◌, inl, inr, ℕ, suc, ◌^◌, ◌<◌, ◌≤◌, ◌+◌, Bool, true, false, cond, List, [], ◌∷◌, ◌++◌, length, refl, sym, ap, subst, arith, append_assoc, append-nil, length-append}
use Rattle.std.specs.Prelude.{filter}
use Rattle.std.proofs.lemmas.Bool.{le-ltb, lt-ltb, ltb-false, ltb-true}
use Rattle.std.proofs.lemmas.Bool.Decides.{eqb_tells}
use Rattle.std.proofs.lemmas.List.Elements.{filter-append}
use mathlib.Core.List.{IsPrefix}
use Rattle.carbon_history.specs.declared.entry.Entry.{Entry}
use Rattle.carbon_history.specs.Entries.{NamesPasses, about_class, drains, is_about, is_drain, of_pass, pass_of}
use Rattle.carbon_model.specs.State.{State}
use Rattle.carbon_model.specs.Replay.{IsLegalHistory}
use Rattle.shared_history.specs.Parts.{PassValue, own_entries}
use Rattle.shared_history.specs.Views.{look_at}
use Rattle.shared_history.specs.declared.view.Look.{Look}
use Rattle.shared_history.proofs.CountLemmas.{total_whole}
use Rattle.shared_history.proofs.ListLemmas.{filter_fits, none_of}
use Rattle.shared_store.specs.Passes.{Enters, HasRoom, LooksAgain, LooksOn, SameLooks, runs_in, settled_in}
use Rattle.atomic_table.specs.Seated.{TableId}
use Rattle.carbon_script.specs.Alone.{Adds, IsOnly, debts}

-- ---- one pass

filter_whole : {A : Type 0} (f : A → Bool) (xs : List A) → length (filter f xs) ≡ length xs → filter f xs ≡ xs
filter_whole f [] same = refl
filter_whole {A} f (x ∷ xs) same = by (f x) same (filter_whole f xs)
  where
    by : (b : Bool) → length (cond b (x ∷ filter f xs) (filter f xs)) ≡ suc (length xs) → (length (filter f xs) ≡ length xs → filter f xs ≡ xs) → cond b (x ∷ filter f xs) (filter f xs) ≡ x ∷ xs
    by true same rest = ap (λ (ys : List A). x ∷ ys) (rest (omega (arith, same)))
    by false same rest = let few = filter_fits f xs in absurd (omega (arith, same, few))

-- the only pass made all entries
pub all_own : (entries : List Entry) → NamesPasses 1 entries → of_pass 0 entries ≡ entries
all_own entries named =
    let all = total_whole 1 entries named in filter_whole (λ (e : Entry). pass_of e == 0) entries (omega (arith, all))

named_front : (passes : ℕ) (front whole : List Entry) → IsPrefix front whole → NamesPasses passes whole → NamesPasses passes front
named_front passes front whole begins named = record {
  none_else = λ pass late.
      none_of (λ (e : Entry). pass_of e == pass) front begins.0 (ap (of_pass pass) begins.1 ∙ named.none_else pass late);
}

-- what it sees more are the entries that it made
pub enters_adds : (start : State) (passes : ℕ) (entries : List Entry) (old new : PassValue) → passes ≡ 1 → old.number ≡ 0 → Enters start passes entries old new
    → ((class : ℕ) → settled_in class old ≤ settled_in class new) → ((class : ℕ) → runs_in class old ≤ runs_in class new) → Adds start entries old new
enters_adds start passes entries old new alone number enters settled runs =
    let named : NamesPasses 1 new.seen = subst (λ (n : ℕ). NamesPasses n new.seen) alone enters.made in
    let before : NamesPasses 1 old.seen = named_front 1 old.seen new.seen enters.begins named in
    let own : own_entries new ≡ new.seen = ap (λ (n : ℕ). of_pass n new.seen) (enters.number ∙ number) ∙ all_own new.seen named in
    let own_before : own_entries old ≡ old.seen = ap (λ (n : ℕ). of_pass n old.seen) number ∙ all_own old.seen before in record {
      table = enters.table;
      number = enters.number;
      seen = sym own ∙ enters.once ∙ ap (λ (es : List Entry). es ++ entries) own_before;
      legal = enters.legal;
      named = named;
      settled = settled;
      runs = runs;
    }

-- ---- looks

le_same : (a b : ℕ) → a ≡ b → a ≤ b
le_same a b same = omega (arith, same)

pub adds_same : (start : State) (passes : ℕ) (entries : List Entry) (old new : PassValue) → passes ≡ 1 → old.number ≡ 0 → Enters start passes entries old new
    → SameLooks old new → Adds start entries old new
adds_same start passes entries old new alone number enters same =
    enters_adds start passes entries old new alone number enters
    (λ class. le_same (settled_in class old) (settled_in class new) (ap (λ (ls : List Look). (look_at class ls).settled) (sym same.looks)))
    (λ class. le_same (runs_in class old) (runs_in class new) (ap (λ (ls : List Look). (look_at class ls).runs) (sym same.looks)))

pub adds_on : (start : State) (passes : ℕ) (entries : List Entry) (old new : PassValue) → passes ≡ 1 → old.number ≡ 0 → Enters start passes entries old new
    → LooksOn old new → Adds start entries old new
adds_on start passes entries old new alone number enters on =
    enters_adds start passes entries old new alone number enters (λ class. (on.classes class).settled) (λ class. (on.classes class).runs)

-- what holds of a class and of every other one
here_or : (P : ℕ → Type 0) (class : ℕ) → P class → ((other : ℕ) → other ≢ class → P other) → (k : ℕ) → P k
here_or P class here others k = elim (eqb_tells k class) [
  | inl same ↦ subst P (sym same.1) here
  | inr other ↦ others k other.1
]

pub adds_again : (start : State) (passes class : ℕ) (entries : List Entry) (old new : PassValue) → passes ≡ 1 → old.number ≡ 0 → Enters start passes entries old new
    → LooksAgain class old new → Adds start entries old new
adds_again start passes class entries old new alone number enters again =
    enters_adds start passes entries old new alone number enters
    (here_or (λ k. settled_in k old ≤ settled_in k new) class again.settled
    (λ other apart. le_same (settled_in other old) (settled_in other new) (ap (λ (l : Look). l.settled) (sym (again.others other apart)))))
    (here_or (λ k. runs_in k old ≤ runs_in k new) class again.runs
    (λ other apart. le_same (runs_in other old) (runs_in other new) (ap (λ (l : Look). l.runs) (sym (again.others other apart)))))

-- ---- one call after the other

both_le : (a b c : ℕ) → a ≤ b → b ≤ c → a ≤ c
both_le a b c first second = omega (arith, first, second)

pub adds_none : (start : State) (pass : PassValue) → IsLegalHistory start pass.seen → NamesPasses 1 pass.seen → Adds start [] pass pass
adds_none start pass legal named = record {
  table = refl;
  number = refl;
  seen = sym (append-nil pass.seen);
  legal = legal;
  named = named;
  settled = λ class. le_same (settled_in class pass) (settled_in class pass) refl;
  runs = λ class. le_same (runs_in class pass) (runs_in class pass) refl;
}

pub adds_both : (start : State) (first second : List Entry) (old mid new : PassValue) → Adds start first old mid → Adds start second mid new → Adds start (first ++ second) old new
adds_both start first second old mid new one two = record {
  table = two.table ∙ one.table;
  number = two.number ∙ one.number;
  seen = two.seen ∙ (ap (λ (es : List Entry). es ++ second) one.seen ∙ append_assoc old.seen first second);
  legal = two.legal;
  named = two.named;
  settled = λ class. both_le (settled_in class old) (settled_in class mid) (settled_in class new) (one.settled class) (two.settled class);
  runs = λ class. both_le (runs_in class old) (runs_in class mid) (runs_in class new) (one.runs class) (two.runs class);
}

-- a pass that made nothing sees what it saw
pub seen_same : (start : State) (old new : PassValue) → Adds start [] old new → new.seen ≡ old.seen
seen_same start old new adds = adds.seen ∙ append-nil old.seen

-- ---- room

pub room_of : (pass : PassValue) (left : ℕ) → left + length (own_entries pass) ≡ 2 ^ 48 → 4 ≤ left → HasRoom pass
room_of pass left all some = omega (arith, all, some)

-- ---- drains of a class

pub drains_both : (class : ℕ) (xs ys : List Entry) → drains (about_class class (xs ++ ys)) ≡ drains (about_class class xs) + drains (about_class class ys)
drains_both class xs ys =
    ap (λ (es : List Entry). drains es) (filter-append (is_about class) xs ys)
    ∙ (ap (λ (es : List Entry). length es) (filter-append is_drain (about_class class xs) (about_class class ys))
    ∙ length-append (filter is_drain (about_class class xs)) (filter is_drain (about_class class ys)))

-- a class owes nothing where all drains of it were seen settled
pub debt_none : (pass : PassValue) (class : ℕ) → debts pass class ≡ false → drains (about_class class pass.seen) ≤ settled_in class pass
debt_none pass class none = ltb-false (settled_in class pass) (drains (about_class class pass.seen)) none

pub debt_some : (pass : PassValue) (class : ℕ) → debts pass class ≡ true → settled_in class pass < drains (about_class class pass.seen)
debt_some pass class some = ltb-true (settled_in class pass) (drains (about_class class pass.seen)) some

pub is_debt : (pass : PassValue) (class : ℕ) → settled_in class pass < drains (about_class class pass.seen) → debts pass class ≡ true
is_debt pass class some = lt-ltb (settled_in class pass) (drains (about_class class pass.seen)) some

pub no_debt : (pass : PassValue) (class : ℕ) → drains (about_class class pass.seen) ≤ settled_in class pass → debts pass class ≡ false
no_debt pass class none = le-ltb (settled_in class pass) (drains (about_class class pass.seen)) none

-- ---- the only pass

pub only_adds : (own : TableId) (start : State) (entries : List Entry) (old new : PassValue) → IsOnly own start old → Adds start entries old new → IsOnly own start new
only_adds own start entries old new only adds = record {
  table = adds.table ∙ only.table;
  number = adds.number ∙ only.number;
  legal = adds.legal;
  named = adds.named;
}

pub still_room : (start : State) (old new : PassValue) → Adds start [] old new → HasRoom old → HasRoom new
still_room start old new adds room =
    subst (λ (es : List Entry). length es + 4 ≤ 2 ^ 48) (sym (λ i. of_pass (adds.number i) (seen_same start old new adds i))) room

pub only_enters : (own : TableId) (start : State) (passes : ℕ) (entries : List Entry) (old new : PassValue) → passes ≡ 1 → IsOnly own start old → Enters start passes entries old new → IsOnly own start new
only_enters own start passes entries old new alone only enters = record {
  table = enters.table ∙ only.table;
  number = enters.number ∙ only.number;
  legal = enters.legal;
  named = subst (λ (n : ℕ). NamesPasses n new.seen) alone enters.made;
}
