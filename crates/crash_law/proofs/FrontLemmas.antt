-- Fronts of entries, and how many drains they have.
use Rattle.std.proofs.Common.{◌≡◌, ◌∙◌, ℕ, ◌+◌, ◌≤◌, List, [], ◌++◌, length, filter, Option, sym, ap, subst, arith, append_assoc, append-nil, length-append}
use Rattle.std.proofs.lemmas.List.Elements.{filter-append}
use Rattle.outside_io.specs.Image.{Image}
use Rattle.write_shelf.specs.Shelf.{DrainValue}
use Rattle.carbon_history.specs.Entries.{drains, is_drain}
use Rattle.carbon_history.specs.declared.entry.Entry.{Entry}
use Rattle.carbon_model.specs.Replay.{replay}
use Rattle.carbon_model.specs.State.{State}
use Rattle.crash_law.specs.Fronts.{StartsAsFront, unsettled}
use Rattle.crash_law.specs.StartsAs.{StartsAs}

-- ---- drains

pub drains_more : (xs ys : List Entry) → drains (xs ++ ys) ≡ drains xs + drains ys
drains_more xs ys = ap length (filter-append is_drain xs ys) ∙ length-append (filter is_drain xs) (filter is_drain ys)

le_sum : (a b c u : ℕ) → a ≡ b + c → c ≤ u → a ≤ b + u
le_sum a b c u is le = omega (arith, is, le)

le_same : (a u : ℕ) → a ≤ a + u
le_same a u = omega arith

less_back : (a b c u v : ℕ) → c ≡ a + b → v ≤ b + u → (front : ℕ) → c ≤ front + v → a ≤ front + u
less_back a b c u v is grows front le = omega (arith, is, grows, le)

-- ---- an image that starts as a front

-- as the whole
pub whole_front : (class : ℕ) (told : Image) (s : State) (entries : List Entry) (shelf : Option DrainValue) (left : Image) → StartsAs class told (replay s entries).kept left → StartsAsFront class told s entries entries shelf left
whole_front class told s entries shelf left starts = record {
  front = entries;
  rest = [];
  is = sym (append-nil entries);
  settled = le_same (drains entries) (unsettled shelf);
  starts = starts;
}

-- as all but what holds one drain at most, while that is being written
pub early_front : (class : ℕ) (told : Image) (s : State) (entries front rest : List Entry) (shelf : Option DrainValue) (left : Image) → entries ≡ front ++ rest → drains rest ≤ 1 → unsettled shelf ≡ 1
    → StartsAs class told (replay s front).kept left → StartsAsFront class told s entries entries shelf left
early_front class told s entries front rest shelf left is one some starts = record {
  front = front;
  rest = rest;
  is = is;
  settled = subst (λ (u : ℕ). drains entries ≤ drains front + u) (sym some) (le_sum (drains entries) (drains front) (drains rest) 1 (ap drains is ∙ drains_more front rest) one);
  starts = starts;
}

-- of more entries
pub front_of_more : (class : ℕ) (told : Image) (s : State) (earlier entries more : List Entry) (shelf : Option DrainValue) (left : Image) → StartsAsFront class told s earlier entries shelf left → StartsAsFront class told s earlier (entries ++ more) shelf left
front_of_more class told s earlier entries more shelf left starts = record {
  front = starts.front;
  rest = starts.rest ++ more;
  is = ap (λ (xs : List Entry). xs ++ more) starts.is ∙ append_assoc starts.front starts.rest more;
  settled = starts.settled;
  starts = starts.starts;
}

-- what held the settled drains behind a call held those before it
pub front_before : (class : ℕ) (told : Image) (s : State) (earlier more entries : List Entry) (shelf shelf' : Option DrainValue) (left : Image) → unsettled shelf' ≤ drains more + unsettled shelf
    → StartsAsFront class told s (earlier ++ more) entries shelf' left → StartsAsFront class told s earlier entries shelf left
front_before class told s earlier more entries shelf shelf' left grows starts = record {
  front = starts.front;
  rest = starts.rest;
  is = starts.is;
  settled = less_back (drains earlier) (drains more) (drains (earlier ++ more)) (unsettled shelf) (unsettled shelf') (drains_more earlier more) grows (drains starts.front) starts.settled;
  starts = starts.starts;
}
