-- Slots in memory whose cell is not zero.
use Rattle.std.proofs.Common.{Vec, Global, ◌≡◌, ◌∙◌, ℕ, ◌+◌, ◌-◌, ◌*◌, ◌<◌, ◌≤◌, ◌==◌, Bool, true, false, List, [], ◌∷◌, ◌++◌, length, take, drop, get_or, None, refl, sym, ap, ap₂, arith, append-nil, append_assoc, length-take, length-drop}
use Rattle.std.specs.Prelude.{◌&&◌, ◌||◌, filter, bit_or, Result, Ok, Err, IfOk}
use Rattle.std.specs.BTreeMap.{is_at}
use Rattle.std.specs.List.{list_all, list_any, range_with_len}
use Rattle.std.proofs.Math.ListN.{replicate}
use Rattle.std.proofs.Math.Nat.{mul-le-mul_left}
use Rattle.std.proofs.lemmas.Bool.Decides.{nat_tests}
use Rattle.std.proofs.lemmas.List.{drop-replicate, take-replicate}
use Rattle.std.proofs.lemmas.List.Folds.{list_all_more}
use Rattle.std.proofs.lemmas.Nat.{le_or_l, le_or_r}
use Rattle.ring_format.specs.Cell.{cell_in, cell_size_in}
use Rattle.ring_format.specs.Head.{is_zero}
use Rattle.ring_format.specs.Patch.{Cells, cell_at, place_cmp}
use Rattle.ring_format.proofs.PatchLemmas.{other_place}
use Rattle.ring_archive.specs.declared.round.Round.{Round}
use Rattle.ring_archive.specs.Ring.{is_laid, zero_cell}
use Rattle.ring_archive.specs.Held.{cell_behind, held_cell, held_slots, slot_behind}
use Rattle.ring_archive.proofs.HeldLemmas.{slots_room, slots_sum, stretch_piece, zeros_are}
use Rattle.ring_archive.proofs.RangeLists.{filter_agrees, filter_cut, filter_keeps, filter_none, filter_passes}

-- ---- bytes that are all zero

or_is_zero : (a b : ℕ) → is_zero (bit_or a b) ≡ (is_zero a && is_zero b)
or_is_zero a b = grind (arith, nat_tests, le_or_l a b, le_or_r a b)

-- one more byte is looked at
pub zeros_more : (bytes : List ℕ) (i bits : ℕ) → i < length bytes → is_zero bits ≡ list_all is_zero (take i bytes) → is_zero (bit_or bits (get_or bytes i 0)) ≡ list_all is_zero (take (i + 1) bytes)
zeros_more bytes i bits within so_far =
    or_is_zero bits (get_or bytes i 0) ∙ ap (λ (b : Bool). b && is_zero (get_or bytes i 0)) so_far ∙ sym (list_all_more is_zero bytes i 0 within)

both : (a b : Bool) → (a && b) ≡ true → (a ≡ true) × (b ≡ true)
both true b e = (refl, e)
both false b e = absurd cc

is_replicate : (bytes : List ℕ) → list_all is_zero bytes ≡ true → bytes ≡ replicate (length bytes) 0
is_replicate [] all = refl
is_replicate (b ∷ bytes) all =
    let parts = both (is_zero b) (list_all is_zero bytes) all in
    ap₂ (λ (x : ℕ) (xs : List ℕ). x ∷ xs) (let e : b ≡ 0 = grind (arith, nat_tests, parts.0) in e) (is_replicate bytes parts.1)

-- the bytes of a slot of a block of zeros
zeros_at : (size : ℕ) (bytes : List ℕ) (first n more place : ℕ) → first + more ≡ place → list_all is_zero (take n (drop (size * first) bytes)) ≡ true → size * place + size ≤ size * first + n → size * first + n ≤ length bytes
    → take size (drop (size * place) bytes) ≡ replicate size 0
zeros_at size bytes first n more place sum all below room =
    let at = slots_sum size first more place sum in
    let block : List ℕ = take n (drop (size * first) bytes) in
    let long : length block ≡ n = omega (arith, length-take n (drop (size * first) bytes), length-drop (size * first) bytes, room) in
    let fits : size * more + size ≤ n = omega (arith, at, below) in
    let zeros : block ≡ replicate n 0 = is_replicate block all ∙ ap (λ (k : ℕ). replicate k 0) long in
    ap (λ (k : ℕ). take size (drop k bytes)) (sym at)
    ∙ sym (stretch_piece bytes (size * first) n (size * more) size fits)
    ∙ ap (λ (xs : List ℕ). take size (drop (size * more) xs)) zeros
    ∙ ap (take size) (drop-replicate (size * more) n 0)
    ∙ take-replicate size (n - size * more) 0 (omega (arith, fits))

-- a cell of a block of zeros
cell_of_zeros : (version : ℕ) (bytes : List ℕ) (first n place : ℕ) → list_all is_zero (take n (drop (cell_size_in version * first) bytes)) ≡ true → first ≤ place → cell_size_in version * place + cell_size_in version ≤ cell_size_in version * first + n → cell_size_in version * first + n ≤ length bytes
    → held_cell version bytes place ≡ zero_cell
unfolding held_cell
cell_of_zeros version bytes first n place all from below room =
    ap (cell_in version) (zeros_at (cell_size_in version) bytes first n (place - first) place (omega arith) all below room) ∙ zeros_are version

-- ---- slots of a block

zeros_have_none : (version : ℕ) (bytes : List ℕ) (first end : ℕ) → first ≤ end → cell_size_in version * end ≤ length bytes → list_all is_zero (take (cell_size_in version * end - cell_size_in version * first) (drop (cell_size_in version * first) bytes)) ≡ true
    → held_slots version bytes first (end - first) ≡ []
unfolding held_slots
zeros_have_none version bytes first end order room all =
    let size : ℕ = cell_size_in version in
    let before : size * first ≤ size * end = mul-le-mul_left size order in
    filter_none _ first (end - first) (λ place from below.
    let slot : size * place + size ≤ size * end = slots_room size place end (omega arith) in
    ap is_laid (cell_of_zeros version bytes first (size * end - size * first) place all from (omega (arith, slot, before)) (omega (arith, before, room))))

-- a block of zeros has no slots to be added
pub block_passed : (version : ℕ) (slots bytes : List ℕ) (first end : ℕ) → first ≤ end → cell_size_in version * end ≤ length bytes → list_all is_zero (take (cell_size_in version * end - cell_size_in version * first) (drop (cell_size_in version * first) bytes)) ≡ true
    → slots ≡ slots ++ held_slots version bytes first (end - first)
block_passed version slots bytes first end order room all =
    sym (append-nil slots) ∙ ap (λ (more : List ℕ). slots ++ more) (sym (zeros_have_none version bytes first end order room all))

-- the slots of no cell, and of one cell more
pub block_begun : (version : ℕ) (slots bytes : List ℕ) (first : ℕ) → slots ≡ slots ++ held_slots version bytes first (first - first)
unfolding held_slots
block_begun version slots bytes first =
    sym (append-nil slots) ∙ ap (λ (n : ℕ). slots ++ filter (λ place. is_laid (held_cell version bytes place)) (range_with_len first n)) (let e : 0 ≡ first - first = omega arith in e)

pub slot_kept : (version : ℕ) (before slots more bytes : List ℕ) (first slot : ℕ) → first ≤ slot → slots ≡ before ++ held_slots version bytes first (slot - first) → more ≡ slots ++ slot ∷ [] → is_laid (held_cell version bytes slot) ≡ true
    → more ≡ before ++ held_slots version bytes first (slot + 1 - first)
unfolding held_slots
slot_kept version before slots more bytes first slot from so_far added laid =
    let test : ℕ → Bool = λ place. is_laid (held_cell version bytes place) in
    let one_more : slot - first + 1 ≡ slot + 1 - first = omega arith in
    added ∙ ap (λ (xs : List ℕ). xs ++ slot ∷ []) so_far ∙ append_assoc before (filter test (range_with_len first (slot - first))) (slot ∷ [])
    ∙ ap (λ (xs : List ℕ). before ++ xs) (sym (filter_keeps test first (slot - first) slot (omega arith) laid) ∙ ap (λ (n : ℕ). filter test (range_with_len first n)) one_more)

pub slot_passed : (version : ℕ) (before slots more bytes : List ℕ) (first slot : ℕ) → first ≤ slot → slots ≡ before ++ held_slots version bytes first (slot - first) → more ≡ slots → is_laid (held_cell version bytes slot) ≡ false
    → more ≡ before ++ held_slots version bytes first (slot + 1 - first)
unfolding held_slots
slot_passed version before slots more bytes first slot from so_far same blank =
    let test : ℕ → Bool = λ place. is_laid (held_cell version bytes place) in
    let one_more : slot - first + 1 ≡ slot + 1 - first = omega arith in
    same ∙ so_far
    ∙ ap (λ (xs : List ℕ). before ++ xs) (sym (filter_passes test first (slot - first) slot (omega arith) blank) ∙ ap (λ (n : ℕ). filter test (range_with_len first n)) one_more)

-- the slots of no block, and of one block more
pub blocks_begun : (version : ℕ) (slots bytes : List ℕ) → slots ≡ [] → slots ≡ held_slots version bytes 0 0
unfolding held_slots
blocks_begun version slots bytes none = none

pub block_added : (version : ℕ) (slots more bytes : List ℕ) (first n : ℕ) → slots ≡ held_slots version bytes 0 first → more ≡ slots ++ held_slots version bytes first (first + n - first) → more ≡ held_slots version bytes 0 (first + n)
unfolding held_slots
block_added version slots more bytes first n so_far added =
    let test : ℕ → Bool = λ place. is_laid (held_cell version bytes place) in
    let rest : first + n - first ≡ n = omega arith in
    let from : first ≡ 0 + first = omega arith in
    added
    ∙ ap₂ (λ (xs ys : List ℕ). xs ++ ys) so_far (ap₂ (λ (a k : ℕ). filter test (range_with_len a k)) from rest)
    ∙ sym (filter_cut test 0 first n)

-- ---- a patch without a cell in the archive

neither : (a b : Bool) → (a || b) ≡ false → (a ≡ false) × (b ≡ false)
neither true b e = absurd cc
neither false b e = (refl, e)

no_cell : (cells : Cells) (i slot : ℕ) → list_any (λ cell. cell.0.0 == i) cells ≡ false → cell_at cells (i, slot) ≡ None
no_cell [] i slot none = refl
no_cell (cell ∷ cells) i slot none =
    let parts = neither (cell.0.0 == i) (list_any (λ cell. cell.0.0 == i) cells) none in
    let apart : is_at (place_cmp (i, slot)) cell.0 ≡ false = other_place (i, slot) cell.0 (λ e. absurd (let same : cell.0.0 ≡ i = ap (λ (p : ℕ × ℕ). p.0) e in grind (arith, nat_tests, parts.0, same))) in
    rw apart (no_cell cells i slot parts.1)

-- the slots are those of the memory alone
all_held : (cells : Cells) (round : Round) (bytes slots : List ℕ) → list_any (λ cell. cell.0.0 == round.archive) cells ≡ false → slots ≡ held_slots round.version bytes 0 round.points
    → slots ≡ filter (λ slot. is_laid (cell_behind cells round bytes slot)) (range_with_len 0 round.points)
unfolding held_slots cell_behind
all_held cells round bytes slots none is =
    is ∙ filter_agrees _ (λ slot. is_laid (cell_behind cells round bytes slot)) 0 round.points (λ slot _ below.
    ap is_laid (let e : held_cell round.version bytes slot ≡ cell_behind cells round bytes slot = rw (no_cell cells round.archive (slot_behind round slot) none) refl in e))

pub all_held_ok : {Y : Type 0} (cells : Cells) (round : Round) (bytes : List ℕ) (result : Result (Vec ℕ Global) Y) → list_any (λ cell. cell.0.0 == round.archive) cells ≡ false
    → IfOk result (λ slots. slots.items ≡ held_slots round.version bytes 0 round.points)
    → IfOk result (λ slots. slots.items ≡ filter (λ slot. is_laid (cell_behind cells round bytes slot)) (range_with_len 0 round.points))
all_held_ok cells round bytes (Ok slots) none is = all_held cells round bytes slots.items none is
all_held_ok cells round bytes (Err fault) none is = is
