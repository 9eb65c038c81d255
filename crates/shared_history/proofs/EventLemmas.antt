-- What is entered, and the numbers of questions.
use Rattle.std.proofs.Common.{◌≡◌, ◌≢◌, ◌==◌, ℕ, ◌+◌, ◌-◌, ◌^◌, ◌<◌, ◌≤◌, Bool, cond, List, [], ◌∷◌, ◌++◌, eq-eqb, length, length-append, ne_eqb, refl, ap, ◌∙◌, arith, max}
use Rattle.carbon_history.specs.declared.entry.Entry.{Entry}
use Rattle.shared_history.specs.declared.event.Event.{Event}
use Rattle.shared_history.specs.declared.event.Event.TheVariants.{Put, Drain, Fault}
use Rattle.carbon_history.specs.Entries.{ask_number, pass_of}
use Rattle.shared_history.specs.Events.{entry_of}
use Rattle.shared_history.specs.Parts.{greatest_ask}

pub entry_pass : (pass class : ℕ) (event : Event) → pass_of (entry_of pass class event) ≡ pass
entry_pass pass class (Put path time value end) = refl
entry_pass pass class (Drain path now) = refl
entry_pass pass class Fault = refl

pub entry_asks : (pass class : ℕ) (event : Event) → ask_number (entry_of pass class event) ≡ 0
entry_asks pass class (Put path time value end) = refl
entry_asks pass class (Drain path now) = refl
entry_asks pass class Fault = refl

-- the greatest number of a list that is one longer
pub greatest_more : (entries : List Entry) (entry : Entry) → greatest_ask (entries ++ entry ∷ []) ≡ max (greatest_ask entries) (ask_number entry)
greatest_more [] entry = omega arith
greatest_more (e ∷ entries) entry = ap (λ (n : ℕ). max (ask_number e) n) (greatest_more entries entry) ∙ omega arith

-- what a pass counts, once its entries are one longer
module _ (mine mine' : List Entry) (entry : Entry) (longer : mine' ≡ mine ++ entry ∷ []) where
  one_longer : length mine' ≡ length mine + 1
  one_longer = ap length longer ∙ length-append mine (entry ∷ [])

  pub left_less : (left : ℕ) → length mine < 2 ^ 48 → left + length mine ≡ 2 ^ 48 → (left - 1) + length mine' ≡ 2 ^ 48
  left_less left room whole = omega (arith, one_longer, room, whole)

  pub few_asks : (asks : ℕ) → asks ≤ length mine → asks ≤ length mine'
  few_asks asks few = omega (arith, one_longer, few)

  pub few_with_one : (asks : ℕ) → asks ≤ length mine → asks + 1 ≤ length mine'
  few_with_one asks few = omega (arith, one_longer, few)

  greatest_is : greatest_ask mine' ≡ max (greatest_ask mine) (ask_number entry)
  greatest_is = ap greatest_ask longer ∙ greatest_more mine entry

  pub no_ask : (asks : ℕ) → ask_number entry ≡ 0 → asks ≡ greatest_ask mine → asks ≡ greatest_ask mine'
  no_ask asks none same = omega (arith, greatest_is, none, same)

  pub same_ask : (asks : ℕ) → ask_number entry ≡ greatest_ask mine → asks ≡ greatest_ask mine → asks ≡ greatest_ask mine'
  same_ask asks again same = omega (arith, greatest_is, again, same)

  pub next_ask : (asks : ℕ) → ask_number entry ≡ greatest_ask mine + 1 → asks ≡ greatest_ask mine → asks + 1 ≡ greatest_ask mine'
  next_ask asks next same = omega (arith, greatest_is, next, same)

-- the number of a first try, and of a further one
pub first_number : (try n : ℕ) → try ≡ 1 → cond (try == 1) (n + 1) n ≡ n + 1
first_number try n first = ap (λ (b : Bool). cond b (n + 1) n) (eq-eqb try 1 first)

pub further_number : (try n : ℕ) → try ≢ 1 → cond (try == 1) (n + 1) n ≡ n
further_number try n further = ap (λ (b : Bool). cond b (n + 1) n) (ne_eqb try 1 further)
