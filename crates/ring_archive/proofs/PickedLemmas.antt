-- The values of many buckets, from the cells of their ring in memory.
use Rattle.std.proofs.Common.{◌≡◌, ◌∙◌, ℕ, ℤ, ◌+◌, ◌*◌, ◌%◌, ◌<◌, ◌≤◌, ◌==◌, Bool, true, false, cond, List, [], ◌∷◌, ◌++◌, length, map, min, Option, Some, None, refl, sym, ap, ap₂, arith}
use Rattle.std.specs.Prelude.{slice_get, filter, if◌then◌else◌}
use Rattle.std.specs.List.{range_with_len}
use Rattle.std.proofs.Math.ListN.{replicate}
use Rattle.std.proofs.lemmas.Bool.Decides.{nat_tests}
use Rattle.std.proofs.lemmas.Nat.{mod_below}
use Rattle.std.proofs.Math.Nat.{add-mul-mod_self_right, add-mod-mod, mod-eq_of_lt, mod-le}
use Rattle.ring_format.specs.declared.archive.Archive.{Archive}
use Rattle.ring_format.specs.Patch.{Cells, PatchValue}
use Rattle.ring_format.specs.Slot.{slot_of}
use Rattle.ring_format.specs.Cell.{cell_size_in}
use Rattle.ring_archive.specs.declared.round.Round.{Round}
use Rattle.ring_archive.specs.Ring.{is_bucket, is_laid, ring_cell, stale_slots, stored_cell, stored_cells, value_for, value_of, values_from}
use Rattle.ring_archive.specs.Held.{HoldsSlots, cell_behind, file_cell, held_cell, held_value, picked_value, slot_behind}
use Rattle.ring_archive.proofs.HeldLemmas.{cell_of_ring, slots_room}
use Rattle.ring_archive.proofs.RangeLists.{map_agrees, map_alike, map_more, map_moved, filter_agrees}
use Rattle.ring_archive.proofs.SlotLemmas.{slot_steps_on}
use Rattle.ring_archive.proofs.ValueLemmas.{no_bucket, empty_archive, value_there}

-- buckets of a list lie whole steps behind the first one
same_rest : (first k : ℕ) (archive : Archive) → 0 < archive.step → (first + k * archive.step) % archive.step ≡ first % archive.step
same_rest first k archive some = add-mul-mod_self_right first k archive.step

never_bucket : (bucket : ℕ) (archive : Archive) → 0 < bucket % archive.step → is_bucket bucket archive ≡ false
never_bucket bucket archive rest = grind (arith, nat_tests)

zero_no_bucket : (bucket : ℕ) (archive : Archive) → bucket ≡ 0 → is_bucket bucket archive ≡ false
zero_no_bucket bucket archive zero = rw zero refl

whole_bucket : (bucket : ℕ) (archive : Archive) → 0 < bucket → bucket % archive.step ≡ 0 → is_bucket bucket archive ≡ true
whole_bucket bucket archive some rest = grind (arith, nat_tests)

-- a first bucket that is no multiple of the step
pub no_buckets : (patch : PatchValue) (file : List ℕ) (i first count : ℕ) (archive : Archive) (values : List (Option ℤ)) → slice_get patch.layout.archives i ≡ Some archive → 0 < archive.step → 0 < first % archive.step
    → values ≡ replicate count None → values ≡ values_from patch file i first count
unfolding values_from
no_buckets patch file i first count archive values e some rest is =
    rw e (is ∙ sym (map_alike (λ k. value_of patch file i (first + k * archive.step)) None 0 count
    (λ k. sym (no_bucket patch file i (first + k * archive.step) archive e (never_bucket (first + k * archive.step) archive (rw (same_rest first k archive some) rest))))))

none_of_empty : (patch : PatchValue) (file : List ℕ) (i bucket : ℕ) (archive : Archive) (base : ℕ × Option ℤ) (b : Bool) → is_bucket bucket archive ≡ b → slice_get patch.layout.archives i ≡ Some archive
    → base ≡ ring_cell patch file (i, 0) → base.0 ≡ 0 → None ≡ value_of patch file i bucket
none_of_empty patch file i bucket archive base true is e at zero = empty_archive patch file i bucket archive base e is at zero
none_of_empty patch file i bucket archive base false is e at zero = no_bucket patch file i bucket archive e is

-- an archive that is empty
pub empty_values : (patch : PatchValue) (file : List ℕ) (i first count : ℕ) (archive : Archive) (base : ℕ × Option ℤ) (values : List (Option ℤ)) → slice_get patch.layout.archives i ≡ Some archive
    → base ≡ ring_cell patch file (i, 0) → base.0 ≡ 0 → values ≡ replicate count None → values ≡ values_from patch file i first count
unfolding values_from
empty_values patch file i first count archive base values e at zero is =
    rw e (is ∙ sym (map_alike (λ k. value_of patch file i (first + k * archive.step)) None 0 count
    (λ k. sym (none_of_empty patch file i (first + k * archive.step) archive base _ refl e at zero))))

-- a cell in memory that is that of the bucket's slot
cell_there : (patch : PatchValue) (file : List ℕ) (i first k base : ℕ) (archive : Archive) (round : Round) (bytes : List ℕ) → 0 < archive.step → 0 < archive.points → (base == 0) ≡ false
    → round ≡ record { archive = i; points = archive.points; slot = slot_of base first archive; version = round.version } → HoldsSlots patch.fresh patch.layout.archives file round bytes
    → cell_size_in round.version * (k % archive.points) + cell_size_in round.version ≤ length bytes
    → cell_behind patch.cells round bytes (k % archive.points) ≡ ring_cell patch file (i, slot_of base (first + k * archive.step) archive)
cell_there patch file i first k base archive round bytes step points some is holds fits =
    cell_of_ring patch patch.layout.archives file round bytes (k % archive.points) refl holds fits
    ∙ ap (λ (r : Round). ring_cell patch file (r.archive, slot_behind r (k % archive.points))) is
    ∙ ap (λ (slot : ℕ). ring_cell patch file (i, slot)) (add-mod-mod (slot_of base first archive) k archive.points ∙ sym (slot_steps_on base first k archive step points some))

-- the value of one bucket
picked_there : (patch : PatchValue) (file : List ℕ) (i first k : ℕ) (base : ℕ × Option ℤ) (archive : Archive) (round : Round) (bytes : List ℕ) (b : Bool) → (first + k * archive.step == 0) ≡ b
    → slice_get patch.layout.archives i ≡ Some archive → 0 < archive.step → 0 < archive.points → first % archive.step ≡ 0 → (base.0 == 0) ≡ false → base ≡ ring_cell patch file (i, 0)
    → round ≡ record { archive = i; points = archive.points; slot = slot_of base.0 first archive; version = round.version } → HoldsSlots patch.fresh patch.layout.archives file round bytes
    → cell_size_in round.version * (k % archive.points) + cell_size_in round.version ≤ length bytes
    → cond b None (value_for (first + k * archive.step) (cell_behind patch.cells round bytes (k % archive.points))) ≡ value_of patch file i (first + k * archive.step)
picked_there patch file i first k base archive round bytes true zero e step points whole some at is holds fits =
    no_bucket patch file i (first + k * archive.step) archive e (zero_no_bucket (first + k * archive.step) archive (grind (arith, nat_tests)))
picked_there patch file i first k base archive round bytes false zero e step points whole some at is holds fits =
    value_there patch file i (first + k * archive.step) archive base _ e
    (whole_bucket (first + k * archive.step) archive (grind (arith, nat_tests)) (same_rest first k archive step ∙ whole)) some at
    (cell_there patch file i first k base.0 archive round bytes step points some is holds fits)

points_of_round : (round : Round) (i points slot : ℕ) → round ≡ record { archive = i; points = points; slot = slot; version = round.version } → round.points ≡ points
points_of_round round i points slot is = ap (λ (r : Round). r.points) is

-- the values of all of them
pub picked_all : (patch : PatchValue) (file : List ℕ) (i first count : ℕ) (base : ℕ × Option ℤ) (archive : Archive) (round : Round) (bytes : List ℕ) (values : List (Option ℤ))
    → slice_get patch.layout.archives i ≡ Some archive → 0 < archive.step → 0 < archive.points → first % archive.step ≡ 0 → (base.0 == 0) ≡ false → base ≡ ring_cell patch file (i, 0)
    → round ≡ record { archive = i; points = archive.points; slot = slot_of base.0 first archive; version = round.version } → HoldsSlots patch.fresh patch.layout.archives file round bytes
    → length bytes ≡ cell_size_in round.version * min count archive.points
    → values ≡ map (λ k. picked_value patch.cells round bytes first archive.step k) (range_with_len 0 count) → values ≡ values_from patch file i first count
unfolding values_from picked_value
picked_all patch file i first count base archive round bytes values e step points whole some at is holds long picked =
    let same = points_of_round round i archive.points (slot_of base.0 first archive) is in
    rw e (picked ∙ map_agrees _ (λ k. value_of patch file i (first + k * archive.step)) 0 count (λ k _ below.
    let place : k % archive.points < archive.points = mod_below k archive.points points in
    let few : k % archive.points ≤ k = mod-le k archive.points in
    let room = slots_room (cell_size_in round.version) (k % archive.points) (min count archive.points) (omega arith) in
    ap (λ (n : ℕ). cond (first + k * archive.step == 0) None (value_for (first + k * archive.step) (cell_behind patch.cells round bytes (k % n)))) same
    ∙ (picked_there patch file i first k base archive round bytes _ refl e step points whole some at is holds (omega (arith, long, room)))))

-- without cells of a patch they are those in memory
pub held_picked : (cells : Cells) (round : Round) (bytes : List ℕ) (first step count : ℕ) → length cells ≡ 0 → count ≤ round.points
    → map (λ k. held_value round.version bytes first step k) (range_with_len 0 count) ≡ map (λ k. picked_value cells round bytes first step k) (range_with_len 0 count)
unfolding held_value picked_value cell_behind
held_picked [] round bytes first step count none few =
    map_agrees _ (λ k. picked_value [] round bytes first step k) 0 count (λ k _ below.
    let straight : k % round.points ≡ k = mod-eq_of_lt (let less : k < round.points = omega arith in less) in
    rw straight refl)
held_picked (cell ∷ cells) round bytes first step count none few = absurd (omega (arith, none))

-- the slots whose cell is not zero
pub stale_there : (patch : PatchValue) (file : List ℕ) (i : ℕ) (archive : Archive) (round : Round) (bytes : List ℕ) (slots : List ℕ) → slice_get patch.layout.archives i ≡ Some archive
    → round ≡ record { archive = i; points = archive.points; slot = 0; version = round.version } → HoldsSlots patch.fresh patch.layout.archives file round bytes → length bytes ≡ cell_size_in round.version * archive.points
    → slots ≡ filter (λ slot. is_laid (cell_behind patch.cells round bytes slot)) (range_with_len 0 archive.points) → slots ≡ stale_slots patch file i
unfolding stale_slots
stale_there patch file i archive round bytes slots e is holds long kept =
    rw e (kept ∙ filter_agrees _ (λ slot. is_laid (ring_cell patch file (i, slot))) 0 archive.points (λ slot _ below.
    ap is_laid (cell_of_ring patch patch.layout.archives file round bytes slot refl holds (omega (arith, long, slots_room (cell_size_in round.version) slot archive.points (omega arith)))
    ∙ ap (λ (r : Round). ring_cell patch file (r.archive, slot_behind r slot)) is
    ∙ ap (λ (n : ℕ). ring_cell patch file (i, n)) (let straight : (0 + slot) % archive.points ≡ slot = ap (λ (n : ℕ). n % archive.points) (let z : 0 + slot ≡ slot = omega arith in z) ∙ mod-eq_of_lt (let less : slot < archive.points = omega arith in less) in straight))))

-- the cells of neighbouring slots, as the file holds them
pub stored_there : (archives : List Archive) (file : List ℕ) (round : Round) (bytes : List ℕ) (count : ℕ) (cells : List (ℕ × Option ℤ)) → HoldsSlots false archives file round bytes → length bytes ≡ cell_size_in round.version * count
    → round.slot + count ≤ round.points → cells ≡ map (λ k. held_cell round.version bytes k) (range_with_len 0 count) → cells ≡ stored_cells archives file round.archive round.slot count
unfolding stored_cells file_cell
stored_there archives file round bytes count cells holds long within are =
    are
    ∙ map_agrees _ (λ k. stored_cell archives file (round.archive, round.slot + k)) 0 count (λ k _ below.
    let room = slots_room (cell_size_in round.version) k count (omega arith) in
    let straight : (round.slot + k) % round.points ≡ round.slot + k = mod-eq_of_lt (let less : round.slot + k < round.points = omega arith in less) in
    holds.cells k (omega (arith, long, room)) ∙ ap (λ (s : ℕ). stored_cell archives file (round.archive, s)) straight)
    ∙ map_moved (λ s. stored_cell archives file (round.archive, s)) 0 round.slot count
    ∙ ap (λ (a : ℕ). map (λ s. stored_cell archives file (round.archive, s)) (range_with_len a count)) (let e : round.slot + 0 ≡ round.slot = omega arith in e)

-- ---- one bucket after another

-- the place behind another, where the places of a ring are gone round
pub place_more : (k place next points : ℕ) → place ≡ k % points → next ≡ (place + 1) % points → next ≡ (k + 1) % points
place_more k place next points is behind =
    behind ∙ ap (λ (n : ℕ). n % points) (let e : place + 1 ≡ 1 + k % points = omega (arith, is) in e) ∙ add-mod-mod 1 k points ∙ ap (λ (n : ℕ). n % points) (let e : 1 + k ≡ k + 1 = omega arith in e)

-- one value more
pub picked_more : (cells : Cells) (round : Round) (bytes : List ℕ) (first step k place : ℕ) (value : Option ℤ) (old new : List (Option ℤ)) → place ≡ k % round.points
    → value ≡ (if first + k * step == 0 then None else value_for (first + k * step) (cell_behind cells round bytes place))
    → old ≡ map (λ k. picked_value cells round bytes first step k) (range_with_len 0 k) → new ≡ old ++ value ∷ []
    → new ≡ map (λ k. picked_value cells round bytes first step k) (range_with_len 0 (k + 1))
unfolding picked_value
picked_more cells round bytes first step k place value old new is here before more =
    more
    ∙ ap₂ (λ (xs : List (Option ℤ)) (v : Option ℤ). xs ++ v ∷ []) before
    (here ∙ ap (λ (p : ℕ). if first + k * step == 0 then None else value_for (first + k * step) (cell_behind cells round bytes p)) is)
    ∙ sym (map_more (λ (k : ℕ). picked_value cells round bytes first step k) k)
