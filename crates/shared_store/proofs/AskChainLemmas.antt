-- The tries of a question, one after the other.
use Rattle.std.proofs.Common.{◌≡◌, inl, inr, ◌∙◌, ℕ, zero, suc, ◌<◌, ◌≤◌, ◌+◌, ◌^◌, ◌==◌, Bool, false, if◌then◌else◌, List, [], ◌∷◌, ◌++◌, length, max, refl, sym, ap, subst, arith, length-append, Option}
use Rattle.std.specs.Prelude.{Result, Ok, Err}
use Rattle.std.proofs.lemmas.Bool.Decides.{eqb_tells}
use Rattle.std.proofs.lemmas.List.{append-nil}
use Rattle.outside_io.specs.Image.{Image}
use Rattle.carbon_history.specs.declared.entry.Entry.{Entry}
use Rattle.carbon_history.specs.declared.entry.Entry.TheVariants.{Ask, Fault}
use Rattle.carbon_model.specs.State.{State}
use Rattle.carbon_model.specs.Replay.{replay}
use Rattle.render_need.specs.declared.need.Need.{Need}
use Rattle.render_need.specs.Rows.{Rows}
use Rattle.found_rows.specs.Rows.{HasRows, HasTooManyPoints, HasTooManySeries, IsReadFor}
use Rattle.shared_history.specs.Events.{MayAsk, ask_by}
use Rattle.shared_history.specs.Parts.{PassValue, greatest_ask, own_entries}
use Rattle.shared_store.specs.declared.ask_fault.AskFault.{AskFault}
use Rattle.shared_store.specs.declared.ask_fault.AskFault.TheVariants.{DiskFault, TooManySeries, TooManyPoints, NoMemory}
use Rattle.shared_store.specs.declared.try_end.TryEnd.{TryEnd}
use Rattle.shared_store.specs.declared.try_end.TryEnd.TheVariants.{Moved, Ended}
use Rattle.shared_history.proofs.ListLemmas.{prefix_self}
use Rattle.shared_store.specs.Asks.{Asks, AsksPartly, AsksTo, AsksToFault, new_number, tries_of}
use Rattle.shared_store.specs.Asking.{AnswersTry, AsksSoFar, EntersTries, GivesUp, HasMovedOn, IsNoMove, OnlyLooks, SoFar, Tries, TriesTo, TriesToFault}
use Rattle.shared_store.specs.Passes.{Enters, HasRoom, LooksOn}
use Rattle.shared_store.proofs.AskPassLemmas.{enters_both, on_both, tries_entered, tries_looked}

-- ---- one try

module _ (start : State) (told : ℕ → Option Image) (passes now : ℕ) (needs : List Need) (try : ℕ) where
  looked : (old mid new : PassValue) → EntersTries start passes now try old mid → OnlyLooks mid new → Tries start passes now needs try old new
  looked old mid new enters only = tries_looked start passes now needs try old mid new (tries_entered start passes now needs try old mid enters) only

  pub try_answered : (result : Result Rows TryEnd) (old mid new : PassValue) → EntersTries start passes now try old mid → AnswersTry start told passes now needs result mid new
      → (3 ≤ try → IsNoMove result) → TriesTo start told passes now needs try result old new
  try_answered (Ok rows) old mid new enters answers still =
      (looked old mid new enters answers.0, subst (λ (l : List Entry). HasRows told (replay start l) now needs rows) (sym answers.0.seen) answers.1)
  try_answered (Err Moved) old mid new enters answers still =
      (looked old mid new enters answers.0, (subst (λ (l : List Entry). HasMovedOn (IsReadFor (replay start l) now needs) new) (sym answers.0.seen) answers.1, few try still))
    where
      few : (n : ℕ) → (3 ≤ n → ⊥) → n < 3
      few zero not = omega arith
      few (suc zero) not = omega arith
      few (suc (suc zero)) not = omega arith
      few (suc (suc (suc n))) not = absurd (not (omega arith))
  try_answered (Err (Ended (TooManySeries count))) old mid new enters answers still =
      (looked old mid new enters answers.0, subst (λ (l : List Entry). HasTooManySeries (replay start l) now needs count) (sym answers.0.seen) answers.1)
  try_answered (Err (Ended (TooManyPoints count))) old mid new enters answers still =
      (looked old mid new enters answers.0, subst (λ (l : List Entry). HasTooManyPoints (replay start l) now needs count) (sym answers.0.seen) answers.1)
  try_answered (Err (Ended (DiskFault class))) old mid new enters answers still =
      record { entered = mid; tries = tries_entered start passes now needs try old mid enters; fails = answers }
  try_answered (Err (Ended NoMemory)) old mid new enters answers still =
      inr (looked old mid new enters answers)

  pub looks_answered : (result : Result Rows TryEnd) (old mid new : PassValue) → LooksOn old mid → AnswersTry start told passes now needs result mid new → LooksOn old new
  looks_answered (Ok rows) old mid new on answers = on_both old mid new on answers.0.on
  looks_answered (Err Moved) old mid new on answers = on_both old mid new on answers.0.on
  looks_answered (Err (Ended (TooManySeries count))) old mid new on answers = on_both old mid new on answers.0.on
  looks_answered (Err (Ended (TooManyPoints count))) old mid new on answers = on_both old mid new on answers.0.on
  looks_answered (Err (Ended (DiskFault class))) old mid new on answers = on_both old mid new on answers.fault.on
  looks_answered (Err (Ended NoMemory)) old mid new on answers = on_both old mid new on answers.on

-- ---- the number of a question

past_one : (n : ℕ) → suc (suc n) ≡ 1 → ⊥
past_one n e = omega (arith, e)

-- a further try is no first one
not_one : (n : ℕ) → (suc (suc n) == 1) ≡ false
not_one n = elim (eqb_tells (suc (suc n)) 1) [
  | inl same ↦ absurd (past_one n same.1)
  | inr apart ↦ apart.0
]

greatest_both : (xs ys : List Entry) → greatest_ask (xs ++ ys) ≡ max (greatest_ask xs) (greatest_ask ys)
greatest_both [] ys = omega arith
greatest_both (x ∷ xs) ys = omega (arith, greatest_both xs ys)

greatest_tries : (pass number now n : ℕ) → greatest_ask (tries_of pass number now (suc n)) ≡ number
greatest_tries pass number now zero = omega arith
greatest_tries pass number now (suc n) =
    omega (arith, greatest_both (tries_of pass number now (suc n)) (Ask pass number (suc (suc n)) now ∷ []), greatest_tries pass number now n)

tries_length : (pass number now n : ℕ) → length (tries_of pass number now n) ≡ n
tries_length pass number now zero = refl
tries_length pass number now (suc n) =
    omega (arith, length-append (tries_of pass number now n) (Ask pass number (suc n) now ∷ []), tries_length pass number now n)

module _ (start : State) (told : ℕ → Option Image) (passes now : ℕ) (needs : List Need) (old : PassValue) where
  asked_so : (again : ℕ) (mid : PassValue) → AsksSoFar start passes now needs again old mid → greatest_ask (own_entries mid) ≡ new_number old
  asked_so again mid so =
      let own = greatest_both (own_entries old) (tries_of old.number (new_number old) now (suc again)) in
      let last = greatest_tries old.number (new_number old) now again in
      ap greatest_ask so.enters.once ∙ omega (arith, own, last)

  pub may_ask : (again : ℕ) (mid : PassValue) → HasRoom old → again < 3 → SoFar start passes now needs old again mid → MayAsk mid (again + 1)
  may_ask zero mid room few so = record {
    first = omega arith;
    last = omega arith;
    asked = λ other. absurd (other refl);
    room = subst (λ (p : PassValue). length (own_entries p) < 2 ^ 48) (sym so) (omega (arith, room));
  }
  may_ask (suc again) mid room few so = record {
    first = omega arith;
    last = omega (arith, few);
    asked = λ other. omega (arith, asked_so again mid so.0);
    room = omega (
      arith,
      room,
      few,
      ap length so.0.enters.once,
      length-append (own_entries old) (tries_of old.number (new_number old) now (suc again)),
      tries_length old.number (new_number old) now (suc again),
    );
  }

  pub room_left : (again : ℕ) (mid : PassValue) → HasRoom old → again < 3 → SoFar start passes now needs old again mid → length (own_entries mid) + 2 ≤ 2 ^ 48
  room_left zero mid room few so = subst (λ (p : PassValue). length (own_entries p) + 2 ≤ 2 ^ 48) (sym so) (omega (arith, room))
  room_left (suc again) mid room few so =
      omega (
        arith,
        room,
        few,
        ap length so.0.enters.once,
        length-append (own_entries old) (tries_of old.number (new_number old) now (suc again)),
        tries_length old.number (new_number old) now (suc again),
      )

  plus_one : (n : ℕ) → n + 1 ≡ suc n
  plus_one n = omega arith

  -- a try more
  ask_is : (again : ℕ) (mid : PassValue) → SoFar start passes now needs old again mid → ask_by mid (suc again) now ≡ Ask old.number (new_number old) (suc again) now
  ask_is zero mid so = ap (λ (p : PassValue). ask_by p 1 now) so
  ask_is (suc again) mid so =
      ap (λ (b : Bool). Ask mid.number (if b then greatest_ask (own_entries mid) + 1 else greatest_ask (own_entries mid)) (suc (suc again)) now) (not_one again)
      ∙ (λ i. Ask (so.0.enters.number i) (asked_so again mid so.0 i) (suc (suc again)) now)

  goes_on : (again : ℕ) (mid new : PassValue) → SoFar start passes now needs old again mid → Tries start passes now needs (suc again) mid new
      → AsksSoFar start passes now needs again old new
  goes_on zero mid new so tries =
      let e : ask_by mid 1 now ≡ Ask old.number (new_number old) 1 now = ask_is zero mid so in record {
        enters = subst (λ (x : Entry). Enters start passes (x ∷ []) old new) e (subst (λ (p : PassValue). Enters start passes (ask_by mid 1 now ∷ []) p new) so tries.enters);
        tries = (tries.between, tries.seen ∙ (λ i. ((so i).seen ++ tries.between) ++ e i ∷ []));
      }
  goes_on (suc again) mid new so tries =
      let e : ask_by mid (suc (suc again)) now ≡ Ask old.number (new_number old) (suc (suc again)) now = ask_is (suc again) mid so in record {
        enters = enters_both start passes (tries_of old.number (new_number old) now (suc again)) (Ask old.number (new_number old) (suc (suc again)) now ∷ []) old mid new so.0.enters
            (subst (λ (x : Entry). Enters start passes (x ∷ []) mid new) e tries.enters);
        tries = (mid.seen, tries.between, (so.0.tries, (tries.since so.1, tries.seen ∙ (λ i. (mid.seen ++ tries.between) ++ e i ∷ []))));
      }

  at_try : (again : ℕ) (mid new : PassValue) (result : Result Rows TryEnd) → TriesTo start told passes now needs (again + 1) result mid new → TriesTo start told passes now needs (suc again) result mid new
  at_try again mid new result t = subst (λ (n : ℕ). TriesTo start told passes now needs n result mid new) (plus_one again) t

  pub so_far_more : (again : ℕ) (mid new : PassValue) → SoFar start passes now needs old again mid → TriesTo start told passes now needs (again + 1) (Err Moved) mid new
      → SoFar start passes now needs old (again + 1) new
  so_far_more again mid new so t =
      let t' = at_try again mid new (Err Moved) t in
      subst (λ (n : ℕ). SoFar start passes now needs old n new) (sym (plus_one again)) (goes_on again mid new so t'.0, t'.1.0)

  pub few_more : (again : ℕ) (mid new : PassValue) → TriesTo start told passes now needs (again + 1) (Err Moved) mid new → again + 1 < 3
  few_more again mid new t = t.1.1

  asks_to : (answers : State → Type 0) (again : ℕ) (mid new : PassValue) → again < 3 → SoFar start passes now needs old again mid → Tries start passes now needs (suc again) mid new
      → answers (replay start new.seen) → AsksTo start passes now needs old new answers
  asks_to answers again mid new few so tries answer =
      let all = goes_on again mid new so tries in
      record { again = again; few = few; enters = all.enters; tries = all.tries; answer = answer }

  pub asks_rows : (rows : Rows) (again : ℕ) (mid new : PassValue) → again < 3 → SoFar start passes now needs old again mid
      → TriesTo start told passes now needs (again + 1) (Ok rows) mid new → Asks start told passes now needs (Ok rows) old new
  asks_rows rows again mid new few so t =
      let t' = at_try again mid new (Ok rows) t in asks_to (λ s. HasRows told s now needs rows) again mid new few so t'.0 t'.1

  fails : (class again : ℕ) (mid new : PassValue) → again < 3 → SoFar start passes now needs old again mid → TriesToFault start passes now needs (suc again) class mid new
      → AsksToFault start passes now needs class old new
  fails class again mid new few so t =
      let all = goes_on again mid t.entered so t.tries in
      let fault = t.fails.fault in
      let number : t.entered.number ≡ old.number = all.enters.number in record {
        again = again;
        few = few;
        enters = enters_both start passes (tries_of old.number (new_number old) now (suc again)) (Fault old.number class ∷ []) old t.entered new all.enters
            (subst (λ (n : ℕ). Enters start passes (Fault n class ∷ []) t.entered new) number fault.enters);
        tried = t.entered.seen;
        between = fault.between;
        tries = all.tries;
        last = fault.last ∙ (λ i. (t.entered.seen ++ fault.between) ++ Fault (number i) class ∷ []);
        path = t.fails.path;
        read = t.fails.one;
        here = t.fails.here;
      }

  -- no try more
  gave_up : (again : ℕ) (mid new : PassValue) → again < 3 → SoFar start passes now needs old again mid → Enters start passes [] mid new → AsksPartly start passes now needs old new
  gave_up zero mid new few so none = inl (subst (λ (p : PassValue). Enters start passes [] p new) so none)
  gave_up (suc again) mid new few so none = inr (record {
    again = again;
    few = omega (arith, few);
    enters = subst (λ (es : List Entry). Enters start passes es old new) (append-nil (tries_of old.number (new_number old) now (suc again)))
        (enters_both start passes (tries_of old.number (new_number old) now (suc again)) [] old mid new so.0.enters none);
    tried = mid.seen;
    tries = so.0.tries;
    begins = none.begins;
  })

  partly : (again : ℕ) (mid new : PassValue) → again < 3 → SoFar start passes now needs old again mid → GivesUp start passes now needs (suc again) mid new
      → AsksPartly start passes now needs old new
  partly again mid new few so (inl none) = gave_up again mid new few so none
  partly again mid new few so (inr one) =
      let all = goes_on again mid new so one in
      inr (record { again = again; few = few; enters = all.enters; tried = new.seen; tries = all.tries; begins = prefix_self new.seen })

  pub asks_fault : (fault : AskFault) (again : ℕ) (mid new : PassValue) → again < 3 → SoFar start passes now needs old again mid
      → TriesTo start told passes now needs (again + 1) (Err (Ended fault)) mid new → Asks start told passes now needs (Err fault) old new
  asks_fault (DiskFault class) again mid new few so t = fails class again mid new few so (at_try again mid new (Err (Ended (DiskFault class))) t)
  asks_fault (TooManySeries count) again mid new few so t =
      let t' = at_try again mid new (Err (Ended (TooManySeries count))) t in asks_to (λ s. HasTooManySeries s now needs count) again mid new few so t'.0 t'.1
  asks_fault (TooManyPoints count) again mid new few so t =
      let t' = at_try again mid new (Err (Ended (TooManyPoints count))) t in asks_to (λ s. HasTooManyPoints s now needs count) again mid new few so t'.0 t'.1
  asks_fault NoMemory again mid new few so t = partly again mid new few so (at_try again mid new (Err (Ended NoMemory)) t)
