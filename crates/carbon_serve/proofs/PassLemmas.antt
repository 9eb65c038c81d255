-- What the passes that come back tell of the whole history.
use Rattle.std.proofs.Common.{◌≡◌, ◌==◌, ◌∙◌, inl, inr, ℕ, zero, suc, ◌<◌, ◌+◌, List, [], ◌∷◌, ◌++◌, length, drop, Some, refl, sym, ap, subst, arith, append-nil, length-append}
use Rattle.std.specs.Prelude.{All, get_or, slice_get}
use Rattle.std.specs.List.{AllZip}
use Rattle.std.proofs.lemmas.Bool.{cases_order}
use Rattle.std.proofs.lemmas.List.Elements.{All-get_or, All-nil, filter-append, length_all_zip}
use Rattle.std.proofs.lemmas.Option.{none-some, slice_get-get_or}
use mathlib.Core.List.{IsPrefix}
use Rattle.atomic_table.specs.Seated.{TableId}
use Rattle.carbon_history.specs.declared.entry.Entry.{Entry}
use Rattle.carbon_history.specs.Entries.{NamesPasses, of_pass, pass_of}
use Rattle.carbon_model.specs.State.{State}
use Rattle.shared_history.specs.Parts.{AllSeen, AreNewPasses, PassValue, own_entries}
use Rattle.shared_history.proofs.ListLemmas.{none_of, prefix_more}
use Rattle.carbon_serve.specs.Workers.{HasMoment, Works}
use Rattle.carbon_serve.specs.Crews.{AllWent, HasLearned, OnlySaw}
use Rattle.carbon_serve.proofs.EntryLemmas.{all_by_pass, no_entries, none_more, one_pass, squeezed}

-- ---- places

pub slice_front : {X : Type 0} (xs ys : List X) (k : ℕ) (x : X) → slice_get xs k ≡ Some x → slice_get (xs ++ ys) k ≡ Some x
slice_front [] ys k x at = absurd (none-some x at)
slice_front (y ∷ xs) ys zero x at = at
slice_front (y ∷ xs) ys (suc k) x at = slice_front xs ys k x at

pub slice_last : {X : Type 0} (xs : List X) (y : X) → slice_get (xs ++ y ∷ []) (length xs) ≡ Some y
slice_last [] y = refl
slice_last (x ∷ xs) y = slice_last xs y

some_same : {X : Type 0} (x y : X) → Some x ≡ Some y → x ≡ y
some_same x y same = cc same

pub same_behind : {X : Type 0} (xs ys zs : List X) → xs ++ ys ≡ xs ++ zs → ys ≡ zs
same_behind [] ys zs same = same
same_behind (x ∷ xs) ys zs same = same_behind xs ys zs (ap (λ (ws : List _). drop 1 ws) same)

pub prefix_on : {X : Type 0} (xs ys zs : List X) → IsPrefix xs ys → IsPrefix ys zs → IsPrefix xs zs
prefix_on xs ys zs first next = subst (λ (ws : List _). IsPrefix xs ws) (ap (λ (ws : List _). ws ++ next.0) first.1 ∙ next.1) (chained first.0 next.0)
  where
    chained : (a b : List _) → IsPrefix xs ((xs ++ a) ++ b)
    chained a b = prefix_more xs (xs ++ a) b (a, refl)

-- what stands at a place of the second of two lists that go together
pub went_at : {A B : Type 0} (R : A → B → Type 0) (xs : List A) (ys : List B) → AllZip R xs ys → (k : ℕ) (y : B) → slice_get ys k ≡ Some y → (x : A) × ((slice_get xs k ≡ Some x) × R x y)
went_at R [] [] zip k y at = absurd (none-some y at)
went_at R [] (z ∷ ys) zip k y at = absurd zip
went_at R (x ∷ xs) [] zip k y at = absurd zip
went_at R (x ∷ xs) (z ∷ ys) zip zero y at = (x, (refl, subst (R x) (some_same z y at) zip.0))
went_at R (x ∷ xs) (z ∷ ys) zip (suc k) y at = went_at R xs ys zip.1 k y at

-- ---- the passes

-- a pass that came back
pub record Returned (table : TableId) (moments : ℕ → Type 0) (number : ℕ) (pass : PassValue) : Type 0 where
  pub same : pass.table ≡ table
  pub place : pass.number ≡ number
  pub told : All (HasMoment moments) (own_entries pass)

pub returned : (table : TableId) (moments : ℕ → Type 0) (start : State) (before behind served : List PassValue) → AreNewPasses table (before ++ behind) → AllWent moments start before served
    → (k : ℕ) (p : PassValue) → slice_get served k ≡ Some p → Returned table moments k p
returned table moments start before behind served new went k p at =
    let found = went_at (Works moments start) before served went k p at in
    let b : PassValue = found.0 in
    let works : Works moments start b p = found.1.1 in
    let fresh = new k b (slice_front before behind k b found.1.0) in
    let none : own_entries b ≡ [] = ap (λ (es : List Entry). of_pass b.number es) fresh.seen in
    let mine : own_entries p ≡ works.made = works.once ∙ ap (λ (es : List Entry). es ++ works.made) none in record {
      same = works.table ∙ fresh.same;
      place = works.number ∙ fresh.place;
      told = subst (All (HasMoment moments)) (sym mine) works.told;
    }

module _ (table : TableId) (moments : ℕ → Type 0) (start : State) (passes : ℕ) (before served : List PassValue) (own0 own1 own2 : PassValue) (history : List Entry)
    (new : AreNewPasses table (before ++ own0 ∷ [])) (all : length (before ++ own0 ∷ []) ≡ passes) (went : AllWent moments start before served)
    (saw : OnlySaw own0 own1) (learned : HasLearned own1 served) (names : NamesPasses passes history) (seen : AllSeen history (served ++ own2 ∷ []))
    (number : own2.number ≡ own1.number) (begins : IsPrefix own1.seen own2.seen) where
  count : length served ≡ length before
  count = sym (length_all_zip (Works moments start) before served went)

  own_new : own0.number ≡ length served
  own_new = (new (length before) own0 (slice_last before own0)).place ∙ sym count

  pub last_number : own2.number ≡ length served
  last_number = number ∙ (saw.number ∙ own_new)

  pub passes_are : length served + 1 ≡ passes
  passes_are = omega (arith, count, all, length-append before (own0 ∷ []))

  -- the crew's own pass has made nothing before its drain
  pub own_none : own_entries own1 ≡ []
  own_none = saw.none ∙ ap (λ (es : List Entry). of_pass own0.number es) (new (length before) own0 (slice_last before own0)).seen

  abbrev at : ℕ → PassValue
  at k = get_or served k own2

  there : (k : ℕ) → k < length served → slice_get served k ≡ Some (at k)
  there k few = slice_get-get_or served k own2 few

  back : (k : ℕ) → k < length served → Returned table moments k (at k)
  back k few = returned table moments start before (own0 ∷ []) served new went k (at k) (there k few)

  -- all entries of a worker's pass are in what it has seen
  pub worker_own : (k : ℕ) → k < length served → of_pass k history ≡ of_pass k (at k).seen
  worker_own k few =
      subst (λ (n : ℕ). of_pass n history ≡ of_pass n (at k).seen) (back k few).place (seen k (at k) (slice_front served (own2 ∷ []) k (at k) (there k few))).own

  pub last_own : of_pass (length served) history ≡ own_entries own2
  last_own = subst (λ (n : ℕ). of_pass n history ≡ own_entries own2) last_number (seen (length served) own2 (slice_last served own2)).own

  own_begins : IsPrefix own2.seen history
  own_begins = (seen (length served) own2 (slice_last served own2)).begins

  learned_at : (k : ℕ) → k < length served → IsPrefix (at k).seen own1.seen
  learned_at k few = All-get_or (λ (pass : PassValue). IsPrefix pass.seen own1.seen) served k own2 few learned

  none_later : (k : ℕ) → length served < k → of_pass k history ≡ []
  none_later k late = names.none_else k (omega (arith, passes_are, late))

  none_later_seen : (k : ℕ) → length served < k → of_pass k own2.seen ≡ []
  none_later_seen k late = none_of (λ (e : Entry). pass_of e == k) own2.seen own_begins.0 (ap (of_pass k) own_begins.1 ∙ none_later k late)

  -- so it is with the entries of every pass in what the crew's own pass has seen
  own_of : (k : ℕ) → of_pass k history ≡ of_pass k own2.seen
  own_of k = elim (cases_order k (length served)) [
    | inl same ↦ subst (λ (n : ℕ). of_pass n history ≡ of_pass n own2.seen) (sym same) (last_own ∙ ap (λ (n : ℕ). of_pass n own2.seen) last_number)
    | inr differs ↦ elim differs [
      | inl few ↦ squeezed k (at k).seen own2.seen history (prefix_on (at k).seen own1.seen own2.seen (learned_at k few) begins) own_begins (worker_own k few)
      | inr late ↦ none_later k late ∙ sym (none_later_seen k late)
    ]
  ]

  -- the crew's own pass has seen the whole history
  pub whole : history ≡ own2.seen
  whole =
      let none : own_begins.0 ≡ [] = no_entries own_begins.0 (λ k. none_more k own2.seen own_begins.0 (ap (of_pass k) own_begins.1 ∙ own_of k)) in
      sym own_begins.1 ∙ (ap (λ (es : List Entry). own2.seen ++ es) none ∙ append-nil own2.seen)

  -- and all entries of the other passes had stood there before its drain
  before_drain : (k : ℕ) → (k ≡ length served → ⊥) → of_pass k own2.seen ≡ of_pass k own1.seen
  before_drain k other = elim (cases_order k (length served)) [
    | inl same ↦ absurd (other same)
    | inr differs ↦ elim differs [
      | inl few ↦ squeezed k (at k).seen own1.seen own2.seen (learned_at k few) begins (sym (own_of k) ∙ worker_own k few)
      | inr late ↦ none_later_seen k late ∙ sym (none_of (λ (e : Entry). pass_of e == k) own1.seen begins.0 (ap (of_pass k) begins.1 ∙ none_later_seen k late))
    ]
  ]

  pub others_before : (k : ℕ) → k < length served → of_pass k own1.seen ≡ of_pass k history
  others_before k few = sym (before_drain k (λ same. absurd (omega (arith, few, same)))) ∙ sym (own_of k)

  -- and what it saw in its drain are its own entries
  pub alone : (made : List Entry) → own_entries own2 ≡ own_entries own1 ++ made → own2.seen ≡ own1.seen ++ made
  alone made once =
      let rest : List Entry = begins.0 in
      let last : ℕ = length served in
      let others : (k : ℕ) → (k ≡ last → ⊥) → of_pass k rest ≡ [] = λ k other. none_more k own1.seen rest (ap (of_pass k) begins.1 ∙ before_drain k other) in
      let all_mine : of_pass last rest ≡ rest = one_pass last rest others in
      let whole_own : of_pass last own1.seen ++ of_pass last rest ≡ of_pass last own2.seen =
      sym (filter-append (λ (e : Entry). pass_of e == last) own1.seen rest) ∙ ap (of_pass last) begins.1 in
      let now : of_pass last own2.seen ≡ own_entries own2 = ap (λ (n : ℕ). of_pass n own2.seen) (sym last_number) in
      let earlier : own_entries own1 ≡ of_pass last own1.seen = ap (λ (n : ℕ). of_pass n own1.seen) (sym number ∙ last_number) in
      let mine : of_pass last rest ≡ made =
      same_behind (of_pass last own1.seen) (of_pass last rest) made (whole_own ∙ (now ∙ (once ∙ ap (λ (es : List Entry). es ++ made) earlier))) in
      sym begins.1 ∙ ap (λ (es : List Entry). own1.seen ++ es) (sym all_mine ∙ mine)

  -- every moment is one of the clock's, where those of the crew's own entries are
  pub timed : All (HasMoment moments) (own_entries own2) → All (HasMoment moments) history
  timed mine = all_by_pass (HasMoment moments) history (λ k.
      elim (cases_order k (length served)) [
        | inl same ↦ subst (All (HasMoment moments)) (sym (ap (λ (n : ℕ). of_pass n history) same ∙ last_own)) mine
        | inr differs ↦ elim differs [
          | inl few ↦
              let told = subst (λ (n : ℕ). All (HasMoment moments) (of_pass n (at k).seen)) (back k few).place (back k few).told in
              subst (All (HasMoment moments)) (sym (worker_own k few)) told
          | inr late ↦ subst (All (HasMoment moments)) (sym (none_later k late)) (All-nil (HasMoment moments))
        ]
      ])
