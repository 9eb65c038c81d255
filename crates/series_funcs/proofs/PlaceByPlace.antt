-- A list that is changed in place, from the first place on.
use Rattle.std.proofs.Common.{◌≡◌, ℕ, ◌+◌, ◌-◌, ◌<◌, ◌≤◌, List, [], ◌∷◌, ◌++◌, length, get_or, set, drop, map, refl, sym, ap, ◌∙◌, arith, length-append, length-drop}
use Rattle.std.specs.List.{range_with_len}
use Rattle.std.proofs.lemmas.List.{append-nil, append_assoc, drop_all, drop_more, get_or-append_right, get_or-drop, set_at}
use Rattle.std.proofs.lemmas.List.FromFn.{length-map-range_with_len, map-range_with_len_more}

-- the places before one have what f makes of them, the others what they had
pub record Placed {X : Type 0} (f : ℕ → X) (old now : List X) (place : ℕ) : Type 0 where
  pub is : now ≡ map f (range_with_len 0 place) ++ drop place old
  pub within : place ≤ length old

pub placed_none : {X : Type 0} (f : ℕ → X) (old : List X) → Placed f old old 0
placed_none f old = record { is = refl; within = omega arith }

pub length-placed : {X : Type 0} (f : ℕ → X) (old now : List X) (place : ℕ) → Placed f old now place → length now ≡ length old
length-placed f old now place so_far =
    let within = so_far.within in
    omega (arith, ap length so_far.is, length-append (map f (range_with_len 0 place)) (drop place old), length-map-range_with_len f 0 place, length-drop place old)

-- the next place has what it had
pub placed_next : {X : Type 0} (f : ℕ → X) (old now : List X) (place : ℕ) (d : X) → Placed f old now place → get_or now place d ≡ get_or old place d
placed_next f old now place d so_far =
    ap (λ (xs : List _). get_or xs place d) so_far.is
    ∙ get_or-append_right (map f (range_with_len 0 place)) (drop place old) place place d (length-map-range_with_len f 0 place) (omega arith)
    ∙ get_or-drop place old (place - place) d
    ∙ ap (λ (n : ℕ). get_or old n d) (let same : place + (place - place) ≡ place = omega arith in same)

pub placed_more : {X : Type 0} (f : ℕ → X) (old now : List X) (place : ℕ) (d y : X) → place < length old → y ≡ f place → Placed f old now place → Placed f old (set now place y) (place + 1)
placed_more f old now place d y within is so_far = record {
  is =
      ap (λ (xs : List _). set xs place y) (so_far.is ∙ ap (λ (xs : List _). map f (range_with_len 0 place) ++ xs) (drop_more old place d within))
      ∙ set_at (map f (range_with_len 0 place)) (get_or old place d) (drop (place + 1) old) y place (length-map-range_with_len f 0 place)
      ∙ ap (λ (y : _). map f (range_with_len 0 place) ++ y ∷ drop (place + 1) old) is
      ∙ sym (append_assoc (map f (range_with_len 0 place)) (f place ∷ []) (drop (place + 1) old))
      ∙ ap (λ (xs : List _). xs ++ drop (place + 1) old) (sym (map-range_with_len_more f 0 place place (omega arith)));
  within = omega arith;
}

-- where the next place has already what f makes of it
pub placed_kept : {X : Type 0} (f : ℕ → X) (old now : List X) (place : ℕ) (d : X) → place < length old → f place ≡ get_or old place d → Placed f old now place → Placed f old now (place + 1)
placed_kept f old now place d within is so_far = record {
  is =
      so_far.is ∙ ap (λ (xs : List _). map f (range_with_len 0 place) ++ xs) (drop_more old place d within ∙ ap (λ (y : _). y ∷ drop (place + 1) old) (sym is))
      ∙ sym (append_assoc (map f (range_with_len 0 place)) (f place ∷ []) (drop (place + 1) old))
      ∙ ap (λ (xs : List _). xs ++ drop (place + 1) old) (sym (map-range_with_len_more f 0 place place (omega arith)));
  within = omega arith;
}

pub placed_all : {X : Type 0} (f : ℕ → X) (old now : List X) (place : ℕ) → length old ≤ place → Placed f old now place → now ≡ map f (range_with_len 0 (length old))
placed_all f old now place done so_far =
    let within = so_far.within in
    so_far.is ∙ ap (λ (xs : List _). map f (range_with_len 0 place) ++ xs) (drop_all place old done) ∙ append-nil (map f (range_with_len 0 place))
    ∙ ap (λ (n : ℕ). map f (range_with_len 0 n)) (let same : place ≡ length old = omega arith in same)
