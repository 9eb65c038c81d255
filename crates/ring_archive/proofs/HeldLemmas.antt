-- The cells of a ring in memory are those of the file.
use Rattle.std.proofs.Common.{◌≡◌, ◌∙◌, ℕ, ℤ, Option, ◌+◌, ◌-◌, ◌*◌, ◌%◌, ◌<◌, ◌≤◌, Bool, true, false, cond, ◌==◌, List, ◌++◌, length, take, drop, inl, inr, refl, sym, ap, arith, length-take, length-drop, length-append}
use Rattle.std.specs.Prelude.{unwrap_or, option_map}
use Rattle.std.proofs.lemmas.Bool.{cases_lt}
use Rattle.std.proofs.lemmas.List.{take-append-le, drop-append-le, drop-take, take-take, drop-drop, drop-replicate, take-replicate, length-replicate}
use Rattle.std.proofs.Math.ListN.{replicate}
use Rattle.std.proofs.Math.Seq.{drop-append-add}
use Rattle.std.proofs.Math.Nat.{mod-eq_of_lt, add-mod_left, lt_of_mul-lt-mul_left, mul-le-mul_left}
use Rattle.fixed_num.specs.Milli.{value_of}
use Rattle.ring_format.specs.declared.archive.Archive.{Archive}
use Rattle.ring_format.specs.LayoutFile.{offset_in}
use Rattle.ring_format.specs.Cell.{cell_in, cell_size_in}
use Rattle.ring_format.specs.Head.{version_of}
use Rattle.ring_format.specs.Patch.{PatchValue, cell_at}
use Rattle.ring_archive.specs.declared.round.Round.{Round}
use Rattle.ring_archive.specs.Ring.{cell_from, cell_offset, laid_cell, stored_cell, ring_cell, zero_cell}
use Rattle.ring_archive.specs.Held.{HoldsSlots, cell_behind, file_cell, held_cell, slot_behind}

-- a piece of a piece
pub piece_within : (xs : List ℕ) (at count n : ℕ) → at + count ≤ n → take count (drop at (take n xs)) ≡ take count (drop at xs)
piece_within xs at count n fits =
    let all : at + (n - at) ≡ n = omega arith in
    ap (λ (m : ℕ). take count (drop at (take m xs))) (sym all) ∙ ap (take count) (drop-take at (n - at) xs) ∙ take-take count (n - at) (drop at xs) (omega arith)

-- a piece of a stretch of a file
pub stretch_piece : (file : List ℕ) (from n at count : ℕ) → at + count ≤ n → take count (drop at (take n (drop from file))) ≡ take count (drop (from + at) file)
stretch_piece file from n at count fits = piece_within (drop from file) at count n fits ∙ ap (take count) (drop-drop at from file)

no_further : (slot place points : ℕ) → slot + place < points → (slot + place) % points ≡ slot + place
no_further slot place points less = mod-eq_of_lt less

round_again : (slot place points back : ℕ) → slot + place ≡ points + back → back < points → (slot + place) % points ≡ back
round_again slot place points back e less = ap (λ (n : ℕ). n % points) e ∙ add-mod_left points back ∙ mod-eq_of_lt less

-- ---- a cell among those of one size

-- some bytes are a cell in each version
pub some_size : (version : ℕ) → 0 < cell_size_in version
some_size version = by (version == 1)
  where
    by : (b : Bool) → 0 < cond b 12 20
    by true = omega arith
    by false = omega arith

-- so many slots fit where their bytes do
slots_below : (size a b rest : ℕ) → 0 < size → size * a + size ≤ size * b + rest → rest ≡ 0 → a < b
slots_below size a b rest some fits none = lt_of_mul-lt-mul_left size (let less : size * a < size * b = omega (arith, fits, none, some) in less)

-- the bytes of a slot and of those before it
pub slots_room : (size a b : ℕ) → a < b → size * a + size ≤ size * b
slots_room size a b less = let more : size * (a + 1) ≤ size * b = mul-le-mul_left size (omega arith) in omega (arith, more)

-- bytes of whole slots
pub slots_sum : (size first more place : ℕ) → first + more ≡ place → size * first + size * more ≡ size * place
slots_sum size first more place sum = (let spread : size * first + size * more ≡ size * (first + more) = omega arith in spread) ∙ ap (λ (n : ℕ). size * n) sum

-- what does not reach the ring's end from a slot on
pub round_room : (size slot points n : ℕ) → slot ≤ points → n ≤ size * (points - slot) → size * slot + n ≤ size * points
round_room size slot points n within few = omega (arith, slots_sum size slot (points - slot) points (omega arith), few)

-- a cell that was read from the memory
pub held_is : (version size place : ℕ) (bytes : List ℕ) (cell : ℕ × Option ℤ) → size ≡ cell_size_in version → cell ≡ cell_in version (take (size * place + size - size * place) (drop (size * place) bytes)) → cell ≡ held_cell version bytes place
unfolding held_cell
held_is version size place bytes cell is read =
    let same : size * place + size - size * place ≡ size = omega arith in
    read ∙ ap (λ (n : ℕ). cell_in version (take n (drop (size * place) bytes))) same ∙ ap (λ (n : ℕ). cell_in version (take n (drop (n * place) bytes))) is

-- one stretch
pub one_stretch : (archives : List Archive) (file : List ℕ) (round : Round) (bytes : List ℕ) (n : ℕ) → version_of file ≡ round.version
    → cell_size_in round.version * round.slot + n ≤ cell_size_in round.version * round.points
    → bytes ≡ take n (drop (cell_offset round.version archives (round.archive, round.slot)) file) → HoldsSlots false archives file round bytes
unfolding held_cell file_cell stored_cell
one_stretch archives file round bytes n own room is = record {
  cells = λ place fits.
      let size : ℕ = cell_size_in round.version in
      let long : length bytes ≤ n = omega (arith, ap length is, length-take n (drop (cell_offset round.version archives (round.archive, round.slot)) file)) in
      let less : round.slot + place < round.points = slots_below size (round.slot + place) round.points 0 (some_size round.version) (omega (arith, fits, long, room)) refl in
      let straight : slot_behind round place ≡ round.slot + place = no_further round.slot place round.points less in
      ap (cell_in round.version) (
      ap (λ (xs : List ℕ). take size (drop (size * place) xs)) is
      ∙ stretch_piece file (cell_offset round.version archives (round.archive, round.slot)) n (size * place) size (omega (arith, fits, long))
      ∙ ap (λ (at : ℕ). take size (drop at file)) (let e : cell_offset round.version archives (round.archive, round.slot) + size * place ≡ cell_offset round.version archives (round.archive, slot_behind round place) = rw straight (omega arith) in e)
      )
      ∙ ap (λ (v : ℕ). cell_from v archives file (round.archive, slot_behind round place)) (sym own);
}

-- a cell before the ring's end
in_front : (size : ℕ) (file : List ℕ) (from slot place points n : ℕ) (front back : List ℕ) → length front ≡ size * (points - slot) → place < points - slot
    → front ≡ take n (drop (from + size * slot) file) → take size (drop (size * place) (front ++ back)) ≡ take size (drop (from + size * ((slot + place) % points)) file)
in_front size file from slot place points n front back long before first =
    let straight : (slot + place) % points ≡ slot + place = no_further slot place points (omega arith) in
    let fits : size * place + size ≤ size * (points - slot) = slots_room size place (points - slot) before in
    let within : size * place ≤ length front = omega (arith, fits, long) in
    let most : length front ≤ n = omega (arith, ap length first, length-take n (drop (from + size * slot) file)) in
    let room : size ≤ length (drop (size * place) front) = omega (arith, length-drop (size * place) front, fits, long) in
    let there : from + size * slot + size * place ≡ from + size * ((slot + place) % points) = rw straight (omega arith) in
    ap (take size) (drop-append-le (size * place) front back within)
    ∙ take-append-le size (drop (size * place) front) back room
    ∙ ap (λ (xs : List ℕ). take size (drop (size * place) xs)) first
    ∙ stretch_piece file (from + size * slot) n (size * place) size (omega (arith, fits, long, most))
    ∙ ap (λ (at : ℕ). take size (drop at file)) there

-- a cell behind the ring's end
in_back : (size : ℕ) (file : List ℕ) (from slot place points n : ℕ) (front back : List ℕ) → length front ≡ size * (points - slot) → slot < points → points - slot ≤ place → place < points
    → size * place + size ≤ length front + length back
    → back ≡ take n (drop from file) → take size (drop (size * place) (front ++ back)) ≡ take size (drop (from + size * ((slot + place) % points)) file)
in_back size file from slot place points n front back long within behind less fits second =
    let again : (slot + place) % points ≡ slot + place - points = round_again slot place points (slot + place - points) (omega arith) (omega arith) in
    let parts : place ≡ (points - slot) + (slot + place - points) = omega arith in
    let rest : size * place ≡ length front + size * (slot + place - points) =
    ap (λ (k : ℕ). size * k) parts ∙ (let sum : size * ((points - slot) + (slot + place - points)) ≡ size * (points - slot) + size * (slot + place - points) = omega arith in sum) ∙ ap (λ (k : ℕ). k + size * (slot + place - points)) (sym long) in
    let most : length back ≤ n = omega (arith, ap length second, length-take n (drop from file)) in
    let there : from + size * (slot + place - points) ≡ from + size * ((slot + place) % points) = rw again refl in
    ap (λ (at : ℕ). take size (drop at (front ++ back))) rest
    ∙ ap (take size) (drop-append-add front back (size * (slot + place - points)))
    ∙ ap (λ (xs : List ℕ). take size (drop (size * (slot + place - points)) xs)) second
    ∙ stretch_piece file from n (size * (slot + place - points)) size (omega (arith, fits, rest, most))
    ∙ ap (λ (at : ℕ). take size (drop at file)) there

-- two stretches, the second from the first slot on
pub two_stretches : (archives : List Archive) (file : List ℕ) (round : Round) (bytes front back : List ℕ) (n m : ℕ) → version_of file ≡ round.version → bytes ≡ front ++ back
    → length front ≡ cell_size_in round.version * (round.points - round.slot)
    → round.slot < round.points → length front + length back ≤ cell_size_in round.version * round.points
    → front ≡ take n (drop (cell_offset round.version archives (round.archive, round.slot)) file) → back ≡ take m (drop (cell_offset round.version archives (round.archive, 0)) file)
    → HoldsSlots false archives file round bytes
unfolding held_cell file_cell stored_cell
two_stretches archives file round bytes front back n m own both long within room first second = record {
  cells = λ place fits.
      let size : ℕ = cell_size_in round.version in
      let sum : length bytes ≡ length front + length back = ap length both ∙ length-append front back in
      let less : place < round.points = slots_below size place round.points 0 (some_size round.version) (omega (arith, fits, sum, room)) refl in
      ap (λ (xs : List ℕ). cell_in round.version (take size (drop (size * place) xs))) both
      ∙ ap (cell_in round.version) (let there : take size (drop (size * place) (front ++ back)) ≡ take size (drop (cell_offset round.version archives (round.archive, slot_behind round place)) file) = elim (cases_lt place (round.points - round.slot)) [
        | inl before ↦ in_front size file (offset_in round.version archives round.archive) round.slot place round.points n front back long before first
        | inr behind ↦ in_back size file (offset_in round.version archives round.archive) round.slot place round.points m front back long within behind less (omega (arith, fits, sum))
            (second ∙ ap (λ (at : ℕ). take m (drop at file)) (let e : cell_offset round.version archives (round.archive, 0) ≡ offset_in round.version archives round.archive = omega arith in e))
      ] in there)
      ∙ ap (λ (v : ℕ). cell_from v archives file (round.archive, slot_behind round place)) (sym own);
}

-- the cell of a slot, with the patch's cells laid over those in memory
pub cell_of_ring : (patch : PatchValue) (archives : List Archive) (file : List ℕ) (round : Round) (bytes : List ℕ) (place : ℕ) → patch.layout.archives ≡ archives
    → HoldsSlots patch.fresh archives file round bytes → cell_size_in round.version * place + cell_size_in round.version ≤ length bytes
    → cell_behind patch.cells round bytes place ≡ ring_cell patch file (round.archive, slot_behind round place)
unfolding cell_behind ring_cell file_cell
cell_of_ring patch archives file round bytes place same holds fits =
    ap (unwrap_or (option_map laid_cell (cell_at patch.cells (round.archive, slot_behind round place)))) (holds.cells place fits ∙ rw same refl)

-- zeros are a cell of zeros in each version
pub zeros_are : (version : ℕ) → cell_in version (replicate (cell_size_in version) 0) ≡ zero_cell
unfolding value_of
zeros_are version = by (version == 1) refl
  where
    by : (b : Bool) → (version == 1) ≡ b → cell_in version (replicate (cell_size_in version) 0) ≡ zero_cell
    by true old = rw old refl
    by false new = rw new refl

-- memory of zeros holds the cells of a file that is yet to be created
pub zeros_held : (archives : List Archive) (file : List ℕ) (round : Round) (bytes : List ℕ) (n : ℕ) → bytes ≡ replicate n 0 → HoldsSlots true archives file round bytes
unfolding held_cell file_cell
zeros_held archives file round bytes n is = record {
  cells = λ place fits.
      let size : ℕ = cell_size_in round.version in
      let room : size * place + size ≤ n = omega (arith, fits, ap length is, length-replicate {A = ℕ} n 0) in
      ap (λ (xs : List ℕ). cell_in round.version (take size (drop (size * place) xs))) is
      ∙ ap (λ (xs : List ℕ). cell_in round.version (take size xs)) (drop-replicate (size * place) n 0)
      ∙ ap (cell_in round.version) (take-replicate size (n - size * place) 0 (omega (arith, room)))
      ∙ zeros_are round.version;
}

-- the same under a patch that is fresh
pub fresh_held : (fresh : Bool) (archives : List Archive) (file : List ℕ) (round : Round) (bytes : List ℕ) (n : ℕ) → fresh ≡ true → bytes ≡ replicate n 0 → HoldsSlots fresh archives file round bytes
fresh_held true archives file round bytes n fresh is = zeros_held archives file round bytes n is
fresh_held false archives file round bytes n fresh is = absurd cc
